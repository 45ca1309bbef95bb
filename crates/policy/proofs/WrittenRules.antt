-- A policy within its limits reads back from its printed table.
use Rattle.std.proofs.Common.{◌≡◌, ℕ, ◌+◌, ◌*◌, ◌/◌, ◌%◌, ◌<◌, ◌≤◌, ◌-◌, nat_le, codes, pos, Bool, true, false, not, List, [], ◌∷◌, length}
use Rattle.std.proofs.Common.{map, Option, Some, None, Ok, refl, sym, ◌∙◌, ap, arith, if◌then◌else◌, ◌==◌}
use Rattle.std.proofs.lemmas.Bool.{and_parts, leb-true, le-leb, eqb-true, not-true}
use Rattle.std.proofs.lemmas.List.{nil_from_length}
use Rattle.std.proofs.lemmas.Bool.Decides.{nat_tests}
use Rattle.std.specs.List.{All}
use Rattle.toml.specs.Data.{Items, Members, get_member}
use Rattle.toml.specs.View.{items_of}
use Rattle.spec_processor.specs.Bytes.{ram_base, page_size}
use Rattle.sv_types.specs.Policies.{Rules, ModuleRule, each_within, entry_within, entries_count_within, exports_count_within, export_within}
use Rattle.sv_types.specs.Policies.{is_exported, span_within, init_within, next_site_within, site_within, place_within, is_aligned}
use Rattle.sv_types.specs.Policies.{base_within, anchor_within, is_after, sites_within, sites_count_within, sites_of, module_within}
use Rattle.sv_types.specs.Policies.{modules_within, modules_count_within, is_module, module_pages_within, format_within, harts_within}
use Rattle.sv_types.specs.Policies.{ram_pages_within, entries_within, exports_within, all_bound, bound_within, numbers_within, lists_within}
use Rattle.sv_types.specs.Policies.{rules_within}
use Rattle.sv_types.specs.RelocationKinds as kinds
use Rattle.spec_processor.specs.Regions.{max_ram_pages}
use Rattle.sv_types.specs.declared.module.Span.{Span}
use Rattle.sv_types.specs.declared.module.Site.{Site}
use Rattle.sv_types.specs.declared.policy.Export.{Export}
use Rattle.sv_types.specs.declared.relocation_kind.RelocationKind.{RelocationKind}
use Rattle.sv_types.specs.declared.relocation_kind.RelocationKind.TheVariants.{Word64, Branch, Jal, PcrelHi20, PcrelLo12I, PcrelLo12S, Hi20, Lo12I, Lo12S}
use Rattle.policy.specs.Values.{if_within_limit, entry_of, items_length}
use Rattle.policy.specs.Bindings.{bindings_of, entries_in, bound_in}
use Rattle.policy.specs.Text.{format_number, plain_entries, bound_entries, entries_of, export_of_two, export_of, some_exports_of, span_at}
use Rattle.policy.specs.Text.{init_of_two, init_of, kernel_rule, site_of_five, site_of, sites_in, module_of_members, module_of}
use Rattle.policy.specs.Text.{some_modules_of, rules_after, rules_of_members, rules_of_text, table_of_text}
use Rattle.policy.specs.Printed.{address_data, binding_data, entries_data, export_data, exports_data, span_data, site_data, sites_data, module_data, modules_data, kernel_data, rules_members}
use Rattle.policy.specs.Ranges.{IsAddress, IsDigest, IsExport, IsModule, IsPolicy}
use Rattle.policy.proofs.Judging.{then_ok, limited_true}
use Rattle.policy.proofs.WrittenValues.{address_back, measure_back}
use Rattle.policy.proofs.WrittenLists.{each_item_back, items_length-map}
use Rattle.policy.proofs.BindingsBack.{bindings_back, bound_length, entries_of_pairs, bound_of_pairs, pairs_length}

-- ---- entries and exports

entry_back : (before : List ℕ) (a : ℕ) → IsAddress a → entry_within a ≡ true → entry_of (address_data a) ≡ Ok a
entry_back before a small within = then_ok _ (λ address. if_within_limit (entry_within address) address) a _ (address_back a small) (limited_true _ a within)

-- the items that are printed for entries of either format
abbrev entry_items : (is_plain : Bool) (entries bound : List ℕ) → Items
entry_items is_plain entries bound = items_of (if is_plain then map address_data entries else map binding_data (bindings_of entries bound))

-- what binds entries in either format
abbrev binds : (is_plain : Bool) (ram_pages : ℕ) (entries bound : List ℕ) → Bool
binds is_plain ram_pages entries bound = if is_plain then length bound == 0 else all_bound ram_pages [] entries bound

entry_count : (is_plain : Bool) (ram_pages : ℕ) (entries bound : List ℕ) → binds is_plain ram_pages entries bound ≡ true →
    items_length (entry_items is_plain entries bound) ≡ length entries
entry_count true ram_pages entries bound bounds = items_length-map address_data entries
entry_count false ram_pages entries bound bounds =
    items_length-map binding_data (bindings_of entries bound) ∙ pairs_length entries bound (bound_length ram_pages [] entries bound bounds)

by_format_back : (is_plain : Bool) (ram_pages : ℕ) (entries bound : List ℕ) → ram_pages ≤ max_ram_pages → All IsAddress entries →
    each_within (λ before entry. entry_within entry) [] entries ≡ true → binds is_plain ram_pages entries bound ≡ true →
    (if is_plain then plain_entries (entry_items is_plain entries bound) else bound_entries ram_pages (entry_items is_plain entries bound)) ≡ Ok (entries, bound)
by_format_back true ram_pages entries bound few ranges within bounds =
    then_ok _ (λ list. Ok (list, [])) entries _
    (each_item_back (λ before. entry_of) address_data (λ before entry. entry_within entry) IsAddress entry_back [] entries ranges within)
    (ap (λ (none : List ℕ). Ok (entries, none)) (sym (nil_from_length bound (eqb-true (length bound) 0 bounds))))
by_format_back false ram_pages entries bound few ranges within bounds =
    let same = bound_length ram_pages [] entries bound bounds in
    then_ok _ (λ bindings. Ok (entries_in bindings, bound_in bindings)) (bindings_of entries bound) _
    (bindings_back ram_pages [] [] entries bound few ranges within bounds)
    (rw (entries_of_pairs entries bound same, bound_of_pairs entries bound same) refl)

entries_back : (format ram_pages : ℕ) (entries bound : List ℕ) → ram_pages ≤ max_ram_pages → All IsAddress entries → entries_count_within (length entries) ≡ true →
    each_within (λ before entry. entry_within entry) [] entries ≡ true → binds (format == 1) ram_pages entries bound ≡ true →
    entries_of format ram_pages (entries_data format entries bound) ≡ Ok (entries, bound)
entries_back format ram_pages entries bound few ranges count within bounds =
    rw (entry_count (format == 1) ram_pages entries bound bounds, count) (by_format_back (format == 1) ram_pages entries bound few ranges within bounds)

export_back : (before : List Export) (e : Export) → IsExport e → export_within before e ≡ true → export_of before (export_data e) ≡ Ok e
unfolding export_data export_of_two
export_back before e is within =
    rw (is.name, address_back e.addr is.addr, not-true (is_exported e.name before) within) refl

exports_back : (exports : List Export) → All IsExport exports → exports_count_within (length exports) ≡ true →
    each_within export_within [] exports ≡ true → some_exports_of (exports_data exports) ≡ Ok exports
exports_back exports ranges count within =
    rw (items_length-map export_data exports, count)
    (each_item_back export_of export_data export_within IsExport export_back [] exports ranges within)

-- ---- the kernel

first_below : (ram_pages : ℕ) (span : Span) → span_within ram_pages span ≡ true → ram_pages ≤ max_ram_pages → span.first < max_ram_pages
first_below ram_pages span within few = grind (arith, nat_tests)

page_address : (first : ℕ) → (ram_base + page_size * first) % page_size ≡ 0
page_address first = omega arith

page_of_address : (first : ℕ) → ((ram_base + page_size * first) - ram_base) / page_size ≡ first
page_of_address first = omega arith

span_at_back : (ram_pages : ℕ) (span : Span) → span_within ram_pages span ≡ true →
    span_at ram_pages (ram_base + page_size * span.first) span.count ≡ Ok span
span_at_back ram_pages span within =
    let below : nat_le ram_base (ram_base + page_size * span.first) ≡ true = le-leb _ _ (omega arith) in
    rw (below, page_of_address span.first, within) refl

span_back : (ram_pages : ℕ) (span : Span) → span_within ram_pages span ≡ true → ram_pages ≤ max_ram_pages →
    init_of ram_pages (Some (span_data span)) ≡ Ok (Some span)
unfolding init_of init_of_two span_data
span_back ram_pages span within few =
    let below : span.first < max_ram_pages = first_below ram_pages span within few in
    let some : nat_le 1 span.count ≡ true = (and_parts (nat_le 1 span.count) _ within).0 in
    rw (address_back (ram_base + page_size * span.first) (omega arith), page_address span.first, some, span_at_back ram_pages span within) refl

init_back : (ram_pages : ℕ) (kernel : List ℕ) (init : Option Span) (ms : Members) → get_member (codes "kernel") ms ≡ Some (kernel_data kernel init) →
    IsDigest kernel → init_within ram_pages init ≡ true → ram_pages ≤ max_ram_pages → kernel_rule ram_pages ms ≡ Ok (kernel, init)
unfolding kernel_data
init_back ram_pages kernel None ms at digest within few =
    rw (at, measure_back kernel digest) (unfold init_of in refl)
init_back ram_pages kernel (Some span) ms at digest within few =
    rw (at, measure_back kernel digest, span_back ram_pages span within few) refl

-- ---- modules

kind_back : (kind : RelocationKind) → kinds.kind_of (kinds.kind_number kind) ≡ Some kind
kind_back Word64 = refl
kind_back Branch = refl
kind_back Jal = refl
kind_back PcrelHi20 = refl
kind_back PcrelLo12I = refl
kind_back PcrelLo12S = refl
kind_back Hi20 = refl
kind_back Lo12I = refl
kind_back Lo12S = refl

site_back : (pages exports : ℕ) (before : List Site) (s : Site) → next_site_within pages exports before s ≡ true →
    site_of pages exports before (site_data s) ≡ Ok s
unfolding site_data site_of_five
site_back pages exports before s within =
    let behind = and_parts (site_within pages exports s) (is_after before s) within in
    let anchor = and_parts _ (anchor_within pages s.kind s.offset s.anchor) behind.0 in
    let base = and_parts _ (base_within exports s.base) anchor.0 in
    let aligned = and_parts (place_within pages s.offset) (is_aligned s.kind s.offset) base.0 in
    rw (aligned.0, kind_back s.kind, aligned.1, base.1, anchor.1, behind.1) refl

sites_back : (pages exports before : ℕ) (sites : List Site) → sites_count_within before (length sites) ≡ true → sites_within pages exports sites ≡ true →
    sites_in pages exports before (sites_data sites) ≡ Ok sites
sites_back pages exports before sites count within =
    rw (items_length-map site_data sites, count)
    (each_item_back (site_of pages exports) site_data (next_site_within pages exports) (λ _. Unit {0}) (λ before s _ fits. site_back pages exports before s fits) [] sites (λ k d lt. tt) within)

module_back : (exports : ℕ) (before : List ModuleRule) (m : ModuleRule) → IsModule m → module_within exports before m ≡ true →
    module_of exports before (module_data m) ≡ Ok m
unfolding module_data module_of_members
module_back exports before m is within =
    let apart = and_parts _ (not (is_module m.name before)) within in
    let sites = and_parts _ (sites_within m.pages exports m.sites) apart.0 in
    let count = and_parts (module_pages_within m.pages) (sites_count_within (sites_of before) (length m.sites)) sites.0 in
    rw (is.name, count.0, measure_back m.measure is.measure, sites_back m.pages exports (sites_of before) m.sites count.1 sites.1, not-true (is_module m.name before) apart.1) refl

modules_back : (exports : ℕ) (modules : List ModuleRule) → All IsModule modules → modules_count_within (length modules) ≡ true →
    modules_within exports modules ≡ true → some_modules_of exports (modules_data modules) ≡ Ok modules
modules_back exports modules ranges count within =
    rw (items_length-map module_data modules, count)
    (each_item_back (module_of exports) module_data (module_within exports) IsModule (module_back exports) [] modules ranges within)

-- ---- the whole

format_back : (n : ℕ) → format_within n ≡ true → format_number (pos n) ≡ Ok n
format_back n within = rw within refl

-- what reading the parts of a printed policy gives
record Back (r : Rules) : Type 0 where
  format : format_number (pos r.format) ≡ Ok r.format
  harts : harts_within r.harts ≡ true
  ram_pages : ram_pages_within r.ram_pages ≡ true
  entries : entries_of r.format r.ram_pages (entries_data r.format r.entries r.bound) ≡ Ok (r.entries, r.bound)
  exports : some_exports_of (exports_data r.exports) ≡ Ok r.exports
  kernel : (ms : Members) → get_member (codes "kernel") ms ≡ Some (kernel_data r.kernel r.init) → kernel_rule r.ram_pages ms ≡ Ok (r.kernel, r.init)
  modules : some_modules_of (length r.exports) (modules_data r.modules) ≡ Ok r.modules

parts_back : (r : Rules) → IsPolicy r → rules_within r ≡ true → Back r
parts_back r is within =
    let modules = and_parts _ (modules_within (length r.exports) r.modules) within in
    let modules_count = and_parts _ (modules_count_within (length r.modules)) modules.0 in
    let init = and_parts _ (init_within r.ram_pages r.init) modules_count.0 in
    let lists = and_parts (numbers_within r) (lists_within r) init.0 in
    let numbers = and_parts _ (ram_pages_within r.ram_pages) lists.0 in
    let harts = and_parts (format_within r.format) (harts_within r.harts) numbers.0 in
    let bound = and_parts _ (bound_within r) lists.1 in
    let exports = and_parts _ (exports_within r.exports) bound.0 in
    let exports_count = and_parts _ (exports_count_within (length r.exports)) exports.0 in
    let entries = and_parts (entries_count_within (length r.entries)) (entries_within r.entries) exports_count.0 in
    let few : r.ram_pages ≤ max_ram_pages = leb-true r.ram_pages max_ram_pages (and_parts (nat_le 16 r.ram_pages) (nat_le r.ram_pages max_ram_pages) numbers.1).1 in
    record {
      format = format_back r.format harts.0;
      harts = harts.1;
      ram_pages = numbers.1;
      entries = entries_back r.format r.ram_pages r.entries r.bound few is.entries entries.0 entries.1 bound.1;
      exports = exports_back r.exports is.exports exports_count.1 exports.1;
      kernel = λ ms at. init_back r.ram_pages r.kernel r.init ms at is.kernel init.1 few;
      modules = modules_back (length r.exports) r.modules is.modules modules_count.1 modules.1;
    }

abbrev rules_from : (format harts ram_pages : ℕ) → (entries bound : List ℕ) → List Export → List ℕ → Option Span → List ModuleRule → Rules
rules_from format harts ram_pages entries bound exports kernel init modules = record {
  format = format;
  harts = harts;
  ram_pages = ram_pages;
  entries = entries;
  bound = bound;
  exports = exports;
  kernel = kernel;
  init = init;
  modules = modules;
}

-- with and without exports and modules
lists_back : (format harts ram_pages : ℕ) (entries bound : List ℕ) (exports : List Export) (kernel : List ℕ) (init : Option Span) (modules : List ModuleRule) →
    Back (rules_from format harts ram_pages entries bound exports kernel init modules) →
    rules_of_members (rules_members (rules_from format harts ram_pages entries bound exports kernel init modules)) ≡ Ok (rules_from format harts ram_pages entries bound exports kernel init modules)
unfolding rules_of_members rules_after rules_members
lists_back format harts ram_pages entries bound [] kernel init [] b = rw (b.format, b.harts, b.ram_pages, b.entries, b.kernel _ refl) refl
lists_back format harts ram_pages entries bound [] kernel init (m ∷ ms) b = rw (b.format, b.harts, b.ram_pages, b.entries, b.kernel _ refl, b.modules) refl
lists_back format harts ram_pages entries bound (e ∷ es) kernel init [] b = rw (b.format, b.harts, b.ram_pages, b.entries, b.exports, b.kernel _ refl) refl
lists_back format harts ram_pages entries bound (e ∷ es) kernel init (m ∷ ms) b =
    rw (b.format, b.harts, b.ram_pages, b.entries, b.exports, b.kernel _ refl, b.modules) refl

pub rules_back : (r : Rules) → IsPolicy r → rules_within r ≡ true → rules_of_members (rules_members r) ≡ Ok r
rules_back r is within = lists_back r.format r.harts r.ram_pages r.entries r.bound r.exports r.kernel r.init r.modules (parts_back r is within)

pub text_back : (r : Rules) → IsPolicy r → rules_within r ≡ true → (bytes : List ℕ) → table_of_text bytes ≡ Ok (rules_members r) → rules_of_text bytes ≡ Ok r
text_back r is within bytes at = then_ok (table_of_text bytes) rules_of_members (rules_members r) _ at (rules_back r is within)
