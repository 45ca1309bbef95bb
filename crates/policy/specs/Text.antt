-- The text of a policy, over the table that it makes. The first refusal in this order is the answer: the text; its
-- format; its unknown keys; its keys in order, where a table's unknown keys and a list's length are judged on entering.
-- TOML 1.0; the keys are this project's own.
use Rattle.std.specs.Prelude.{ℕ, ◌%◌, ℤ, pos, negsuc, Bool, true, false, ◌&&◌, ◌==◌, nat_le, List, [], ◌∷◌, length, codes, if◌then◌else◌}
use Rattle.std.specs.Prelude.{Option, Some, None, ok_or, Ok, Err}
use Rattle.std.specs.Str.{is_utf8}
use Rattle.toml.specs.Data.{Data, Items, no_items, item, Members, get_member}
use Rattle.toml.specs.Parse.{parse_document}
use Rattle.spec_processor.specs.Bytes.{page_size, ram_base, page_of}
use Rattle.sv_types.specs.Limits.{plain_format}
use Rattle.sv_types.specs.Policies.{Rules, ModuleRule, format_within, harts_within, ram_pages_within, entries_count_within}
use Rattle.sv_types.specs.Policies.{exports_count_within, modules_count_within, module_pages_within, sites_count_within, is_exported}
use Rattle.sv_types.specs.Policies.{span_within, place_within, is_aligned, base_within, anchor_within, is_after, is_module, sites_of}
use Rattle.sv_types.specs.RelocationKinds as kinds
use Rattle.sv_types.specs.declared.module.Span.{Span}
use Rattle.sv_types.specs.declared.module.Site.{Site}
use Rattle.sv_types.specs.declared.policy.Export.{Export}
use Rattle.sv_types.specs.declared.relocation_kind.RelocationKind.{RelocationKind}
use Rattle.sv_types.specs.Steps.{◌>>=◌}
use Rattle.policy.specs.Refusals.{Judged}
use Rattle.policy.specs.Values.{required_member, integer_of, natural_of, members_in, items_in, if_within_limit, number_of, name_of}
use Rattle.policy.specs.Values.{address_of, entry_of, measure_of, with_known, items_length, each_item}
use Rattle.policy.specs.Bindings.{each_binding, entries_in, bound_in}
use Rattle.policy_limits.specs.declared.policy_fault.PolicyFault.{PolicyFault}

-- ---- format

abbrev pub format_number : ℤ → Judged ℕ
format_number z = elim z [ pos n ↦ (if format_within n then Ok n else Err PolicyFault.OtherFormat) | negsuc n ↦ Err PolicyFault.OtherFormat ]

abbrev pub format_of : Members → Judged ℕ
format_of members = required_member (codes "format") members >>= integer_of >>= format_number

-- ---- entries and exports

abbrev pub each_entry : List ℕ → Items → Judged (List ℕ)
each_entry = each_item (λ before. entry_of)

-- format 1 lists entries alone
abbrev pub plain_entries : Items → Judged (List ℕ × List ℕ)
plain_entries items = each_entry [] items >>= λ entries. Ok (entries, [])

-- format 2 lists entries, each with the address that it is bound to
abbrev pub bound_entries : ℕ → Items → Judged (List ℕ × List ℕ)
bound_entries ram_pages items = each_binding ram_pages [] items >>= λ bindings. Ok (entries_in bindings, bound_in bindings)

abbrev pub entries_by : (format ram_pages : ℕ) → Items → Judged (List ℕ × List ℕ)
entries_by format ram_pages items = if format == plain_format then plain_entries items else bound_entries ram_pages items

-- the entries, and the addresses that they are bound to
abbrev pub entries_of : (format ram_pages : ℕ) → Data → Judged (List ℕ × List ℕ)
entries_of format ram_pages d =
    items_in d >>= λ items. if_within_limit (entries_count_within (items_length items)) items >>= entries_by format ram_pages

abbrev pub unless_repeated : {A : Type 0} → Bool → A → Judged A
unless_repeated true a = Err PolicyFault.RepeatedName
unless_repeated false a = Ok a

unfoldable pub export_of_two : List Export → Data → Data → Judged Export
export_of_two before name addr = do
  name_read ← name_of name
  addr_read ← address_of addr
  unless_repeated (is_exported name_read before) (record { name = name_read; addr = addr_read })

abbrev pub export_of_items : List Export → Items → Judged Export
export_of_items before (item name (item addr no_items)) = export_of_two before name addr
export_of_items before _ = Err PolicyFault.WrongKind

abbrev pub export_of : List Export → Data → Judged Export
export_of before d = items_in d >>= export_of_items before

abbrev pub each_export : List Export → Items → Judged (List Export)
each_export = each_item export_of

abbrev pub some_exports_of : Data → Judged (List Export)
some_exports_of d = items_in d >>= λ items. if_within_limit (exports_count_within (items_length items)) items >>= each_export []

-- none where the key is missing
abbrev pub exports_of : Option Data → Judged (List Export)
exports_of None = Ok []
exports_of (Some d) = some_exports_of d

-- ---- the kernel

abbrev pub page_span : ℕ → ℕ → Span
page_span address count = record { first = page_of address; count = count }

abbrev pub page_address_of : Data → Judged ℕ
page_address_of d = address_of d >>= λ address. if_within_limit (address % page_size == 0) address

abbrev pub page_count_of : Data → Judged ℕ
page_count_of = number_of (nat_le 1)

-- every page is in RAM
abbrev pub span_at : ℕ → ℕ → ℕ → Judged Span
span_at ram_pages address count =
    if_within_limit (nat_le ram_base address && span_within ram_pages (page_span address count)) (page_span address count)

unfoldable pub init_of_two : ℕ → Data → Data → Judged Span
init_of_two ram_pages address count = do
  address_read ← page_address_of address
  pages ← page_count_of count
  span_at ram_pages address_read pages

abbrev pub init_of_items : ℕ → Items → Judged Span
init_of_items ram_pages (item address (item count no_items)) = init_of_two ram_pages address count
init_of_items ram_pages _ = Err PolicyFault.WrongKind

abbrev pub some_of : {A : Type 0} → Judged A → Judged (Option A)
some_of judged = judged >>= λ a. Ok (Some a)

unfoldable pub init_of : ℕ → Option Data → Judged (Option Span)
init_of ram_pages None = Ok None
init_of ram_pages (Some d) = some_of (items_in d >>= init_of_items ram_pages)

abbrev pub kernel_keys : List (List ℕ)
kernel_keys = codes "measure" ∷ codes "init" ∷ []

-- the table of the kernel
abbrev pub kernel_of : Members → Judged Members
kernel_of members = required_member (codes "kernel") members >>= members_in >>= with_known kernel_keys

-- ---- modules

-- a site that stands after those before it
abbrev pub in_order : List Site → Site → Judged Site
in_order before site = if is_after before site then Ok site else Err PolicyFault.NotAscending

abbrev pub offset_of : ℕ → Data → Judged ℕ
offset_of pages = number_of (place_within pages)

abbrev pub kind_of : Data → Judged RelocationKind
kind_of d = natural_of d >>= λ number. ok_or (kinds.kind_of number) PolicyFault.BeyondLimit

-- the kind, if its field may stand at the offset
abbrev pub fitting_kind : RelocationKind → ℕ → Judged RelocationKind
fitting_kind kind offset = if_within_limit (is_aligned kind offset) kind

abbrev pub base_of : ℕ → Data → Judged ℕ
base_of exports = number_of (base_within exports)

abbrev pub anchor_of : ℕ → RelocationKind → ℕ → Data → Judged ℕ
anchor_of pages kind offset = number_of (anchor_within pages kind offset)

unfoldable pub site_of_five : ℕ → ℕ → List Site → Data → Data → Data → Data → Data → Judged Site
site_of_five pages exports before offset kind base addend anchor = do
  offset_read ← offset_of pages offset
  kind_read ← kind_of kind
  kind_fitting ← fitting_kind kind_read offset_read
  base_read ← base_of exports base
  addend_read ← integer_of addend
  anchor_read ← anchor_of pages kind_fitting offset_read anchor
  in_order before (record { offset = offset_read; kind = kind_fitting; base = base_read; addend = addend_read; anchor = anchor_read })

abbrev pub site_of_items : ℕ → ℕ → List Site → Items → Judged Site
site_of_items pages exports before (item offset (item kind (item base (item addend (item anchor no_items))))) =
    site_of_five pages exports before offset kind base addend anchor
site_of_items pages exports before _ = Err PolicyFault.WrongKind

abbrev pub site_of : ℕ → ℕ → List Site → Data → Judged Site
site_of pages exports before d = items_in d >>= site_of_items pages exports before

abbrev pub each_site : ℕ → ℕ → List Site → Items → Judged (List Site)
each_site pages exports = each_item (site_of pages exports)

-- the sites of a module of so many pages, alongside so many exports and so many sites of the modules before it
abbrev pub sites_in : ℕ → ℕ → ℕ → Data → Judged (List Site)
sites_in pages exports before d = items_in d >>= λ items. if_within_limit (sites_count_within before (items_length items)) items >>= each_site pages exports []

abbrev pub module_keys : List (List ℕ)
module_keys = codes "name" ∷ codes "pages" ∷ codes "measure" ∷ codes "sites" ∷ []

abbrev pub key_name : Members → Judged (List ℕ)
key_name members = required_member (codes "name") members >>= name_of

abbrev pub module_pages_of : Data → Judged ℕ
module_pages_of = number_of module_pages_within

abbrev pub key_pages : Members → Judged ℕ
key_pages members = required_member (codes "pages") members >>= module_pages_of

abbrev pub key_measure : Members → Judged (List ℕ)
key_measure members = required_member (codes "measure") members >>= measure_of

abbrev pub unrepeated_module : List ModuleRule → ModuleRule → Judged ModuleRule
unrepeated_module before m = unless_repeated (is_module m.name before) m

abbrev pub module_rule_of : List ℕ → ℕ → List ℕ → List Site → ModuleRule
module_rule_of name pages measure sites = record { name = name; pages = pages; measure = measure; sites = sites }

unfoldable pub module_of_members : ℕ → List ModuleRule → Members → Judged ModuleRule
module_of_members exports before members = do
  name ← key_name members
  pages ← key_pages members
  measure ← key_measure members
  sites ← required_member (codes "sites") members >>= sites_in pages exports (sites_of before)
  unrepeated_module before (module_rule_of name pages measure sites)

abbrev pub module_of : ℕ → List ModuleRule → Data → Judged ModuleRule
module_of exports before d = members_in d >>= with_known module_keys >>= module_of_members exports before

abbrev pub each_module : ℕ → List ModuleRule → Items → Judged (List ModuleRule)
each_module exports = each_item (module_of exports)

abbrev pub some_modules_of : ℕ → Data → Judged (List ModuleRule)
some_modules_of exports d = items_in d >>= λ items. if_within_limit (modules_count_within (items_length items)) items >>= each_module exports []

-- none where the key is missing
abbrev pub modules_of : ℕ → Option Data → Judged (List ModuleRule)
modules_of exports None = Ok []
modules_of exports (Some d) = some_modules_of exports d

-- ---- the whole

abbrev pub policy_keys : List (List ℕ)
policy_keys = codes "format" ∷ codes "harts" ∷ codes "ram_pages" ∷ codes "entries" ∷ codes "exports" ∷ codes "kernel" ∷ codes "module" ∷ []

abbrev pub key_harts : Members → Judged ℕ
key_harts members = required_member (codes "harts") members >>= number_of harts_within

abbrev pub key_ram_pages : Members → Judged ℕ
key_ram_pages members = required_member (codes "ram_pages") members >>= number_of ram_pages_within

abbrev pub key_entries : (format ram_pages : ℕ) → Members → Judged (List ℕ × List ℕ)
key_entries format ram_pages members = required_member (codes "entries") members >>= entries_of format ram_pages

abbrev pub known_keys : Members → Judged Members
known_keys = with_known policy_keys

-- the kernel's digest and its init pages
abbrev pub kernel_rule : ℕ → Members → Judged (List ℕ × Option Span)
kernel_rule ram_pages members = do
  kernel ← kernel_of members
  measure ← key_measure kernel
  init ← init_of ram_pages (get_member (codes "init") kernel)
  Ok (measure, init)

-- after the entries
unfoldable pub rules_after : (format harts ram_pages : ℕ) → List ℕ × List ℕ → Members → Judged Rules
rules_after format harts ram_pages entries known = do
  exports ← exports_of (get_member (codes "exports") known)
  kernel ← kernel_rule ram_pages known
  modules ← modules_of (length exports) (get_member (codes "module") known)
  Ok (record {
    format = format;
    harts = harts;
    ram_pages = ram_pages;
    entries = entries.0;
    bound = entries.1;
    exports = exports;
    kernel = kernel.0;
    init = kernel.1;
    modules = modules;
  })

unfoldable pub rules_of_members : Members → Judged Rules
rules_of_members members = do
  format ← format_of members
  known ← known_keys members
  harts ← key_harts known
  ram_pages ← key_ram_pages known
  entries ← key_entries format ram_pages known
  rules_after format harts ram_pages entries known

-- the table of a text
abbrev pub table_of_text : List ℕ → Judged Members
table_of_text bytes = if is_utf8 bytes then ok_or (parse_document bytes) PolicyFault.NotToml else Err PolicyFault.NotToml

-- the whole rule on a text
abbrev pub rules_of_text : List ℕ → Judged Rules
rules_of_text bytes = table_of_text bytes >>= rules_of_members
