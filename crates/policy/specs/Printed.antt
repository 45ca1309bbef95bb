-- The table of a policy, as it is printed.
-- TOML 1.0; the keys are this project's own.
use Rattle.std.specs.Prelude.{ℕ, pos, List, [], ◌∷◌, map, codes, Option, Some, None, ◌+◌, ◌*◌, ◌==◌, if◌then◌else◌}
use Rattle.std.specs.Ordering.{nat_cmp, match_ordering}
use Rattle.std.specs.Cmp.Lexicographic.{slice_cmp}
use Rattle.hex.specs.Hex.{encode_lower}
use Rattle.toml.specs.Data.{Data, string, integer, array, table, Members, no_members, member}
use Rattle.toml.specs.View.{items_of}
use Rattle.spec_processor.specs.Bytes.{page_size, ram_base}
use Rattle.sv_types.specs.Limits.{plain_format}
use Rattle.sv_types.specs.Output.{address_text}
use Rattle.sv_types.specs.Policies.{Rules, ModuleRule}
use Rattle.sv_types.specs.RelocationKinds.{kind_number}
use Rattle.sv_types.specs.declared.module.Span.{Span}
use Rattle.sv_types.specs.declared.module.Site.{Site}
use Rattle.sv_types.specs.declared.policy.Export.{Export}
use Rattle.policy.specs.Bindings.{bindings_of}
use Rattle.policy.specs.declared.binding.Binding.{Binding}

-- the members, where the key holds the value
abbrev pub with_member : List ℕ → Data → Members → Members
with_member key d no_members = member key d no_members
with_member key d (member k e members) =
    match_ordering (slice_cmp nat_cmp key k) (member key d (member k e members)) (member k d members) (member k e (with_member key d members))

abbrev pub number_data : ℕ → Data
number_data n = integer (pos n)

unfoldable pub address_data : ℕ → Data
address_data address = string (address_text address)

abbrev pub measure_data : List ℕ → Data
measure_data digest = string (encode_lower digest)

unfoldable pub export_data : Export → Data
export_data export = array (items_of (string export.name ∷ address_data export.addr ∷ []))

unfoldable pub span_data : Span → Data
span_data span = array (items_of (address_data (ram_base + page_size * span.first) ∷ number_data span.count ∷ []))

unfoldable pub site_data : Site → Data
site_data site =
    array (items_of (number_data site.offset ∷ number_data (kind_number site.kind) ∷ number_data site.base ∷ integer site.addend ∷ number_data
    site.anchor ∷ []))

unfoldable pub binding_data : Binding → Data
binding_data b = array (items_of (address_data b.va ∷ address_data b.gpa ∷ []))

-- format 1 lists the entries alone, and format 2 each with the address that it is bound to
abbrev pub entries_data : (format : ℕ) → (entries bound : List ℕ) → Data
entries_data format entries bound =
    array (items_of (if format == plain_format then map address_data entries else map binding_data (bindings_of entries bound)))

abbrev pub exports_data : List Export → Data
exports_data exports = array (items_of (map export_data exports))

abbrev pub sites_data : List Site → Data
sites_data sites = array (items_of (map site_data sites))

unfoldable pub module_data : ModuleRule → Data
module_data m =
    table (with_member (codes "sites") (sites_data m.sites) (with_member (codes "measure") (measure_data m.measure)
    (with_member (codes "pages") (number_data m.pages) (with_member (codes "name") (string m.name) no_members))))

abbrev pub modules_data : List ModuleRule → Data
modules_data modules = array (items_of (map module_data modules))

abbrev pub with_init : Option Span → Members → Members
with_init None members = members
with_init (Some span) members = with_member (codes "init") (span_data span) members

unfoldable pub kernel_data : List ℕ → Option Span → Data
kernel_data kernel init = table (with_init init (with_member (codes "measure") (measure_data kernel) no_members))

-- a list without an item has no key
abbrev pub with_exports : List Export → Members → Members
with_exports [] members = members
with_exports (e ∷ es) members = with_member (codes "exports") (exports_data (e ∷ es)) members

abbrev pub with_modules : List ModuleRule → Members → Members
with_modules [] members = members
with_modules (m ∷ ms) members = with_member (codes "module") (modules_data (m ∷ ms)) members

unfoldable pub rules_members : Rules → Members
rules_members r =
    with_modules r.modules (with_member (codes "kernel") (kernel_data r.kernel r.init)
    (with_exports r.exports (with_member (codes "entries") (entries_data r.format r.entries r.bound)
    (with_member (codes "ram_pages") (number_data r.ram_pages) (with_member (codes "harts") (number_data r.harts)
    (with_member (codes "format") (number_data r.format) no_members))))))
