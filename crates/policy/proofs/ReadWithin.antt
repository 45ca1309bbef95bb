-- What is read from a table is within the limits of policies.
use Rattle.std.proofs.Common.{◌≡◌, ℕ, nat_le, ◌==◌, ℤ, pos, negsuc, Bool, true, false, not, ◌&&◌, List, [], length, codes, Option, Some, None, Ok, refl, sym, ◌∙◌, ap, subst, if◌then◌else◌}
use Rattle.std.proofs.lemmas.Bool.{and_parts}
use Rattle.std.specs.Cmp.Derive.{both_true}
use Rattle.toml.specs.Data.{Data, Items, no_items, item, Members, get_member}
use Rattle.spec_processor.specs.Bytes.{ram_base}
use Rattle.sv_types.specs.Policies.{Rules, ModuleRule, format_within, harts_within, ram_pages_within, entry_within, entries_count_within}
use Rattle.sv_types.specs.Policies.{entries_within, exports_count_within, export_within, exports_within, all_bound, bound_within}
use Rattle.sv_types.specs.Policies.{is_exported, span_within, init_within, place_within, is_aligned, base_within, anchor_within, is_after}
use Rattle.sv_types.specs.Policies.{next_site_within, sites_within, sites_count_within, sites_of, module_within, modules_within}
use Rattle.sv_types.specs.Policies.{modules_count_within, is_module, module_pages_within, rules_within}
use Rattle.sv_types.specs.declared.module.Span.{Span}
use Rattle.sv_types.specs.declared.module.Site.{Site}
use Rattle.sv_types.specs.declared.relocation_kind.RelocationKind.{RelocationKind}
use Rattle.sv_types.specs.declared.policy.Export.{Export}
use Rattle.sv_types.specs.Steps.{◌>>=◌}
use Rattle.policy.specs.Values.{required_member, integer_of, members_in, with_known, if_within_limit, number_of, natural_of, items_in, items_length, address_of, entry_of, name_of}
use Rattle.policy.specs.Text.{kernel_of, key_name, key_pages, key_measure, key_harts, key_ram_pages, key_entries, known_keys, module_keys}
use Rattle.policy.specs.Text.{module_pages_of, module_rule_of, format_number, format_of, each_entry, plain_entries, bound_entries}
use Rattle.policy.specs.Text.{entries_by, entries_of, export_of_two, export_of, export_of_items, exports_of, unless_repeated, page_span}
use Rattle.policy.specs.Text.{page_address_of, page_count_of, init_of_two, init_of_items, init_of, kernel_rule, fitting_kind, offset_of}
use Rattle.policy.specs.Text.{kind_of, base_of, anchor_of, site_of_five, site_of_items, site_of, sites_in, module_of_members, module_of}
use Rattle.policy.specs.Text.{modules_of, rules_after, rules_of_members}
use Rattle.policy.specs.Bindings.{each_binding, entries_in, bound_in}
use Rattle.policy.proofs.ReadLists.{each_within_read, limited_read}
use Rattle.policy.proofs.BindingsRead.{entry_read, bindings_read}
use Rattle.policy.proofs.Judging.{bind_ok, after, ok_same, limited_ok, if_ok}
use Rattle.policy_limits.specs.declared.policy_fault.PolicyFault.{PolicyFault}

-- ---- numbers

number_within : (fits : ℕ → Bool) (d : Data) (n : ℕ) → number_of fits d ≡ Ok n → fits n ≡ true
number_within fits d n read =
    let number = bind_ok (natural_of d) (λ n. if_within_limit (fits n) n) n read in
    let fit = limited_ok (fits number.0) number.0 n number.2 in
    sym (ap fits fit.1) ∙ fit.0

unrepeated_ok : {A : Type 0} (b : Bool) (a c : A) → unless_repeated b a ≡ Ok c → (not b ≡ true) × (a ≡ c)
unrepeated_ok true a c h = cc h
unrepeated_ok false a c h = (refl, ok_same a c h)

number_read : (z : ℤ) (n : ℕ) → format_number z ≡ Ok n → format_within n ≡ true
number_read (pos m) n h =
    let one = if_ok (format_within m) m n PolicyFault.OtherFormat h in
    subst (λ (x : ℕ). format_within x ≡ true) one.1 one.0
number_read (negsuc m) n h = cc h

-- ---- entries and exports

-- entries that are within, and what binds them
abbrev EntriesWithin : (is_plain : Bool) (ram_pages count : ℕ) → List ℕ × List ℕ → Type 0
EntriesWithin is_plain ram_pages count r =
    (length r.0 ≡ count) × (entries_within r.0 ≡ true) × ((if is_plain then length r.1 == 0 else all_bound ram_pages [] r.0 r.1) ≡ true)

by_format_read : (is_plain : Bool) (ram_pages : ℕ) (items : Items) (r : List ℕ × List ℕ) →
    (if is_plain then plain_entries items else bound_entries ram_pages items) ≡ Ok r → EntriesWithin is_plain ram_pages (items_length items) r
by_format_read true ram_pages items r read =
    let list = bind_ok (each_entry [] items) (λ entries. Ok (entries, [])) r read in
    let all = each_within_read (λ before. entry_of) (λ before entry. entry_within entry) (λ before. entry_read) items list.0 list.1 in
    subst (EntriesWithin true ram_pages (items_length items)) (ok_same (list.0, []) r list.2) (all.0, all.1, refl)
by_format_read false ram_pages items r read =
    let list = bind_ok (each_binding ram_pages [] items) (λ bindings. Ok (entries_in bindings, bound_in bindings)) r read in
    subst (EntriesWithin false ram_pages (items_length items)) (ok_same (entries_in list.0, bound_in list.0) r list.2) (bindings_read ram_pages items list.0 list.1)

entries_read : (format ram_pages : ℕ) (d : Data) (r : List ℕ × List ℕ) → entries_of format ram_pages d ≡ Ok r →
    (entries_count_within (length r.0) ≡ true) × (entries_within r.0 ≡ true) × ((if format == 1 then length r.1 == 0 else all_bound ram_pages [] r.0 r.1) ≡ true)
entries_read format ram_pages d r read =
    let items = bind_ok (items_in d) _ r read in
    let few = bind_ok (if_within_limit (entries_count_within (items_length items.0)) items.0) (entries_by format ram_pages) r items.2 in
    let fit = limited_ok (entries_count_within (items_length items.0)) items.0 few.0 few.1 in
    let all = by_format_read (format == 1) ram_pages few.0 r few.2 in
    (ap entries_count_within (all.0 ∙ ap items_length (sym fit.1)) ∙ fit.0, all.1, all.2)

two_read : (before : List Export) (name addr : Data) (e : Export) → export_of_two before name addr ≡ Ok e → export_within before e ≡ true
unfolding export_of_two
two_read before name addr e read =
    let name_read = bind_ok (name_of name) _ e read in
    let addr_read = bind_ok (address_of addr) _ e name_read.2 in
    let apart = unrepeated_ok (is_exported name_read.0 before) _ e addr_read.2 in
    subst (λ (x : Export). export_within before x ≡ true) apart.1 apart.0

export_items_read : (before : List Export) (items : Items) (e : Export) → export_of_items before items ≡ Ok e → export_within before e ≡ true
export_items_read before no_items e read = cc read
export_items_read before (item name no_items) e read = cc read
export_items_read before (item name (item addr no_items)) e read = two_read before name addr e read
export_items_read before (item name (item addr (item d items))) e read = cc read

export_read : (before : List Export) (d : Data) (e : Export) → export_of before d ≡ Ok e → export_within before e ≡ true
export_read before d e read =
    let items = bind_ok (items_in d) (export_of_items before) e read in
    export_items_read before items.0 e items.2

exports_read : (d : Option Data) (exports : List Export) → exports_of d ≡ Ok exports → (exports_count_within (length exports) ≡ true) × (exports_within exports ≡ true)
exports_read None exports read = subst (λ (es : List Export). (exports_count_within (length es) ≡ true) × (exports_within es ≡ true)) (ok_same [] exports read) (refl, refl)
exports_read (Some d) exports read = limited_read export_of export_within export_read exports_count_within d exports read

-- ---- the kernel

span_read : (ram_pages : ℕ) (address count : Data) (span : Span) → init_of_two ram_pages address count ≡ Ok span → span_within ram_pages span ≡ true
unfolding init_of_two
span_read ram_pages address count span read =
    let at = bind_ok (page_address_of address) _ span read in
    let pages = bind_ok (page_count_of count) _ span at.2 in
    let fit = limited_ok (nat_le ram_base at.0 && span_within ram_pages (page_span at.0 pages.0)) (page_span at.0 pages.0) span pages.2 in
    subst (λ (s : Span). span_within ram_pages s ≡ true) fit.1 (and_parts (nat_le ram_base at.0) (span_within ram_pages (page_span at.0 pages.0)) fit.0).1

span_items_read : (ram_pages : ℕ) (items : Items) (span : Span) → init_of_items ram_pages items ≡ Ok span → span_within ram_pages span ≡ true
span_items_read ram_pages no_items span read = cc read
span_items_read ram_pages (item address no_items) span read = cc read
span_items_read ram_pages (item address (item count no_items)) span read = span_read ram_pages address count span read
span_items_read ram_pages (item address (item count (item d items))) span read = cc read

init_read : (ram_pages : ℕ) (d : Option Data) (init : Option Span) → init_of ram_pages d ≡ Ok init → init_within ram_pages init ≡ true
unfolding init_of
init_read ram_pages None init read = subst (λ (o : Option Span). init_within ram_pages o ≡ true) (ok_same None init read) refl
init_read ram_pages (Some d) init read =
    let span = bind_ok (items_in d >>= init_of_items ram_pages) _ init read in
    let items = bind_ok (items_in d) (init_of_items ram_pages) span.0 span.1 in
    subst (λ (o : Option Span). init_within ram_pages o ≡ true) (ok_same (Some span.0) init span.2) (span_items_read ram_pages items.0 span.0 items.2)

kernel_read : (ram_pages : ℕ) (ms : Members) (kernel : List ℕ × Option Span) → kernel_rule ram_pages ms ≡ Ok kernel → init_within ram_pages kernel.1 ≡ true
kernel_read ram_pages ms kernel read =
    let table = bind_ok (kernel_of ms) _ kernel read in
    let measure = bind_ok (key_measure table.0) _ kernel table.2 in
    let init = bind_ok (init_of ram_pages (get_member (codes "init") table.0)) _ kernel measure.2 in
    subst (λ (k : List ℕ × Option Span). init_within ram_pages k.1 ≡ true) (ok_same (measure.0, init.0) kernel init.2) (init_read ram_pages (get_member (codes "init") table.0) init.0 init.1)

-- ---- modules

next_site_true : (pages exports : ℕ) (before : List Site) (s : Site) → place_within pages s.offset ≡ true →
    is_aligned s.kind s.offset ≡ true → base_within exports s.base ≡ true → anchor_within pages s.kind s.offset s.anchor ≡ true →
    is_after before s ≡ true → next_site_within pages exports before s ≡ true
next_site_true pages exports before s placed aligned based anchored behind =
    both_true (both_true (both_true (both_true placed aligned) based) anchored) behind

five_read : (pages exports : ℕ) (before : List Site) (offset kind base addend anchor : Data) (s : Site) →
    site_of_five pages exports before offset kind base addend anchor ≡ Ok s → next_site_within pages exports before s ≡ true
unfolding site_of_five
five_read pages exports before offset kind base addend anchor s read =
    after (offset_of pages offset) _ s read λ at at_is read.
    after (kind_of kind) _ s read λ any any_is read.
    after (fitting_kind any at) _ s read λ fit fit_is read.
    after (base_of exports base) _ s read λ from from_is read.
    after (integer_of addend) _ s read λ plus plus_is read.
    after (anchor_of pages fit at anchor) _ s read λ to to_is read.
    let aligned = limited_ok (is_aligned any at) any fit fit_is in
    let site : Site = record { offset = at; kind = fit; base = from; addend = plus; anchor = to } in
    let behind = if_ok (is_after before site) site s PolicyFault.NotAscending read in
    subst (λ (x : Site). next_site_within pages exports before x ≡ true) behind.1
    (next_site_true pages exports before site
    (number_within (place_within pages) offset at at_is)
    (subst (λ (k : RelocationKind). is_aligned k at ≡ true) aligned.1 aligned.0)
    (number_within (base_within exports) base from from_is)
    (number_within (anchor_within pages fit at) anchor to to_is)
    behind.0)

site_items_read : (pages exports : ℕ) (before : List Site) (items : Items) (s : Site) → site_of_items pages exports before items ≡ Ok s → next_site_within pages exports before s ≡ true
site_items_read pages exports before no_items s read = cc read
site_items_read pages exports before (item a no_items) s read = cc read
site_items_read pages exports before (item a (item b no_items)) s read = cc read
site_items_read pages exports before (item a (item b (item c no_items))) s read = cc read
site_items_read pages exports before (item a (item b (item c (item d no_items)))) s read = cc read
site_items_read pages exports before (item a (item b (item c (item d (item e no_items))))) s read = five_read pages exports before a b c d e s read
site_items_read pages exports before (item a (item b (item c (item d (item e (item f items)))))) s read = cc read

site_read : (pages exports : ℕ) (before : List Site) (d : Data) (s : Site) → site_of pages exports before d ≡ Ok s → next_site_within pages exports before s ≡ true
site_read pages exports before d s read =
    let items = bind_ok (items_in d) (site_of_items pages exports before) s read in
    site_items_read pages exports before items.0 s items.2

sites_read : (pages exports before : ℕ) (d : Data) (sites : List Site) → sites_in pages exports before d ≡ Ok sites →
    (sites_count_within before (length sites) ≡ true) × (sites_within pages exports sites ≡ true)
sites_read pages exports before d sites read =
    limited_read (site_of pages exports) (next_site_within pages exports) (site_read pages exports) (sites_count_within before) d sites read

members_read : (exports : ℕ) (before : List ModuleRule) (ms : Members) (m : ModuleRule) → module_of_members exports before ms ≡ Ok m → module_within exports before m ≡ true
unfolding module_of_members
members_read exports before ms m read =
    after (key_name ms) _ m read λ name name_is read.
    after (key_pages ms) _ m read λ pages pages_is read.
    after (key_measure ms) _ m read λ measure measure_is read.
    after (required_member (codes "sites") ms >>= sites_in pages exports (sites_of before)) _ m read λ sites sites_is read.
    let sites_data = bind_ok (required_member (codes "sites") ms) _ sites sites_is in
    let pages_data = bind_ok (required_member (codes "pages") ms) module_pages_of pages pages_is in
    let within = sites_read pages exports (sites_of before) sites_data.0 sites sites_data.2 in
    let apart = unrepeated_ok (is_module name before) (module_rule_of name pages measure sites) m read in
    subst (λ (x : ModuleRule). module_within exports before x ≡ true) apart.1
    (both_true (both_true (both_true (number_within module_pages_within pages_data.0 pages pages_data.2) within.0) within.1) apart.0)

module_read : (exports : ℕ) (before : List ModuleRule) (d : Data) (m : ModuleRule) → module_of exports before d ≡ Ok m → module_within exports before m ≡ true
module_read exports before d m read =
    let known = bind_ok (members_in d >>= with_known module_keys) (module_of_members exports before) m read in
    members_read exports before known.0 m known.2

modules_read : (exports : ℕ) (d : Option Data) (modules : List ModuleRule) → modules_of exports d ≡ Ok modules →
    (modules_count_within (length modules) ≡ true) × (modules_within exports modules ≡ true)
modules_read exports None modules read = subst (λ (ms : List ModuleRule). (modules_count_within (length ms) ≡ true) × (modules_within exports ms ≡ true)) (ok_same [] modules read) (refl, refl)
modules_read exports (Some d) modules read = limited_read (module_of exports) (module_within exports) (module_read exports) modules_count_within d modules read

-- ---- the whole

format_read : (ms : Members) (n : ℕ) → format_of ms ≡ Ok n → format_within n ≡ true
format_read ms n read =
    let z = bind_ok (required_member (codes "format") ms >>= integer_of) format_number n read in
    number_read z.0 n z.2

rules_true : (r : Rules) → format_within r.format ≡ true → harts_within r.harts ≡ true → ram_pages_within r.ram_pages ≡ true →
    (entries_count_within (length r.entries) ≡ true) × (entries_within r.entries ≡ true) →
    (exports_count_within (length r.exports) ≡ true) × (exports_within r.exports ≡ true) → bound_within r ≡ true → init_within r.ram_pages r.init ≡ true →
    (modules_count_within (length r.modules) ≡ true) × (modules_within (length r.exports) r.modules ≡ true) → rules_within r ≡ true
rules_true r format harts ram_pages entries exports bound init modules =
    both_true (both_true (both_true (both_true (both_true (both_true format harts) ram_pages)
    (both_true (both_true (both_true (both_true entries.0 entries.1) exports.0) exports.1) bound)) init) modules.0) modules.1

pub rules_read : (ms : Members) (r : Rules) → rules_of_members ms ≡ Ok r → rules_within r ≡ true
unfolding rules_of_members rules_after
rules_read ms r read =
    after (format_of ms) _ r read λ format format_is read.
    after (known_keys ms) _ r read λ known known_is read.
    after (key_harts known) _ r read λ harts harts_is read.
    after (key_ram_pages known) _ r read λ ram_pages ram_pages_is read.
    after (key_entries format ram_pages known) _ r read λ entries entries_is read.
    after (exports_of (get_member (codes "exports") known)) _ r read λ exports exports_is read.
    after (kernel_rule ram_pages known) _ r read λ kernel kernel_is read.
    after (modules_of (length exports) (get_member (codes "module") known)) _ r read λ modules modules_is read.
    let harts_data = bind_ok (required_member (codes "harts") known) (number_of harts_within) harts harts_is in
    let pages_data = bind_ok (required_member (codes "ram_pages") known) (number_of ram_pages_within) ram_pages ram_pages_is in
    let entries_data = bind_ok (required_member (codes "entries") known) (entries_of format ram_pages) entries entries_is in
    let listed = entries_read format ram_pages entries_data.0 entries entries_data.2 in
    let rules : Rules = record {
      format = format;
      harts = harts;
      ram_pages = ram_pages;
      entries = entries.0;
      bound = entries.1;
      exports = exports;
      kernel = kernel.0;
      init = kernel.1;
      modules = modules;
    } in
    subst (λ (x : Rules). rules_within x ≡ true) (ok_same rules r read)
    (rules_true rules (format_read ms format format_is)
    (number_within harts_within harts_data.0 harts harts_data.2)
    (number_within ram_pages_within pages_data.0 ram_pages pages_data.2)
    (listed.0, listed.1)
    (exports_read (get_member (codes "exports") known) exports exports_is)
    listed.2
    (kernel_read ram_pages known kernel kernel_is)
    (modules_read (length exports) (get_member (codes "module") known) modules modules_is))
