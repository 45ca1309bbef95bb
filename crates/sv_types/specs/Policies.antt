-- What a policy permits, as plain data, and the limits of its values. The limits are this project's own.
use Rattle.std.specs.Prelude.{ℕ, ◌+◌, ◌-◌, slice_get, ◌*◌, ◌%◌, Bool, true, false, ◌&&◌, ◌||◌, not, ◌==◌, nat_le, nat_lt, List, [], ◌∷◌}
use Rattle.std.specs.Prelude.{◌++◌, length, map, sum, if◌then◌else◌, Option, Some, None}
use Rattle.std.specs.List.{list_any}
use Rattle.std.specs.Str.{bytes_eq}
use Rattle.spec_processor.specs.Bytes.{page_size, is_ram_address, instruction_size}
use Rattle.spec_processor.specs.Regions.{max_ram_pages}
use Rattle.sv_types.specs.Limits.{plain_format, bound_format, max_harts, min_ram_pages, max_entries, max_exports, max_modules}
use Rattle.sv_types.specs.Limits.{max_module_pages, max_module_sites, max_sites, first_export_base}
use Rattle.sv_types.specs.declared.module.Span.{Span}
use Rattle.sv_types.specs.declared.module.Site.{Site}
use Rattle.sv_types.specs.declared.policy.Export.{Export}
use Rattle.sv_types.specs.declared.policy.ModulePolicy.{ModulePolicy}
use Rattle.sv_types.specs.declared.policy.Policy.{Policy}
use Rattle.sv_types.specs.declared.relocation_kind.RelocationKind.{RelocationKind}
use Rattle.sv_types.specs.declared.relocation_kind.RelocationKind.TheVariants.{Word64, PcrelLo12I, PcrelLo12S}

-- ---- a policy as plain data

pub record ModuleRule : Type 0 where
  pub name : List ℕ
  pub pages : ℕ
  pub measure : List ℕ
  pub sites : List Site

pub record Rules : Type 0 where
  pub format : ℕ
  pub harts : ℕ
  pub ram_pages : ℕ
  -- the virtual addresses at which user mode may enter the kernel
  pub entries : List ℕ
  -- in the bound format the guest-physical address that each of them is bound to
  pub bound : List ℕ
  pub exports : List Export
  pub kernel : List ℕ
  pub init : Option Span
  pub modules : List ModuleRule

abbrev pub module_rule : ModulePolicy → ModuleRule
module_rule m = record { name = m.name; pages = m.pages; measure = m.measure; sites = m.sites.items }

abbrev pub rules_of : Policy → Rules
rules_of policy = record {
  format = policy.format;
  harts = policy.harts;
  ram_pages = policy.ram_pages;
  entries = policy.entries.items;
  bound = policy.bound.items;
  exports = policy.exports.items;
  kernel = policy.kernel;
  init = policy.init;
  modules = map module_rule policy.modules.items;
}

-- ---- limits of numbers

abbrev pub is_between : ℕ → ℕ → ℕ → Bool
is_between low high n = nat_le low n && nat_le n high

abbrev pub harts_within : ℕ → Bool
harts_within = is_between 1 max_harts

abbrev pub ram_pages_within : ℕ → Bool
ram_pages_within = is_between min_ram_pages max_ram_pages

abbrev pub entries_count_within : ℕ → Bool
entries_count_within = is_between 1 max_entries

abbrev pub exports_count_within : ℕ → Bool
exports_count_within n = nat_le n max_exports

abbrev pub modules_count_within : ℕ → Bool
modules_count_within n = nat_le n max_modules

abbrev pub module_pages_within : ℕ → Bool
module_pages_within = is_between 1 max_module_pages

-- the sites of one module, and those of the modules before it
abbrev pub sites_count_within : ℕ → ℕ → Bool
sites_count_within before n = nat_le n max_module_sites && nat_le (before + n) max_sites

-- ---- lists, each of whose items is judged alongside those before it

abbrev pub each_within : {A : Type 0} → (List A → A → Bool) → List A → List A → Bool
each_within fits before [] = true
each_within fits before (x ∷ xs) = fits before x && each_within fits (before ++ x ∷ []) xs

-- ---- entries, exports and init pages

-- an instruction's address
abbrev pub entry_within : ℕ → Bool
entry_within address = address % instruction_size == 0

-- one of these exports has the name
abbrev pub is_exported : List ℕ → List Export → Bool
is_exported name exports = list_any (λ e. bytes_eq e.name name) exports

abbrev pub export_within : List Export → Export → Bool
export_within before export = not (is_exported export.name before)

abbrev pub entries_within : List ℕ → Bool
entries_within = each_within (λ before entry. entry_within entry) []

abbrev pub exports_within : List Export → Bool
exports_within = each_within export_within []

-- a page at least, and every page in RAM
abbrev pub span_within : ℕ → Span → Bool
span_within ram_pages span = nat_le 1 span.count && nat_le (span.first + span.count) ram_pages

abbrev pub init_within : ℕ → Option Span → Bool
init_within ram_pages None = true
init_within ram_pages (Some span) = span_within ram_pages span

-- ---- bound entries

-- in RAM, at the place in its page that the entry has in its own
abbrev pub bound_fits : (ram_pages entry gpa : ℕ) → Bool
bound_fits ram_pages entry gpa =
    is_ram_address ram_pages gpa && gpa % page_size == entry % page_size

-- each entry has its address, and none stands twice
abbrev pub all_bound : (ram_pages : ℕ) → (before entries bound : List ℕ) → Bool
all_bound ram_pages before [] [] = true
all_bound ram_pages before [] (gpa ∷ bound) = false
all_bound ram_pages before (entry ∷ entries) [] = false
all_bound ram_pages before (entry ∷ entries) (gpa ∷ bound) =
    bound_fits ram_pages entry gpa && not (list_any (λ e. e == entry) before) && all_bound ram_pages (before ++ entry ∷ []) entries bound

-- the plain format binds no entry, and the bound one each
abbrev pub bound_within : Rules → Bool
bound_within r = if r.format == plain_format then length r.bound == 0 else all_bound r.ram_pages [] r.entries r.bound

-- ---- sites

-- the low half of an address, whose high half an AUIPC elsewhere holds
abbrev pub is_low_part : RelocationKind → Bool
is_low_part PcrelLo12I = true
is_low_part PcrelLo12S = true
is_low_part _ = false

-- the bytes of a field
abbrev pub site_size : RelocationKind → ℕ
site_size Word64 = 8
site_size _ = instruction_size

abbrev pub module_bytes : ℕ → ℕ
module_bytes pages = page_size * pages

-- an instruction of the module begins there
abbrev pub place_within : ℕ → ℕ → Bool
place_within pages offset = offset % instruction_size == 0 && nat_lt offset (module_bytes pages)

abbrev pub is_aligned : RelocationKind → ℕ → Bool
is_aligned kind offset = offset % site_size kind == 0

-- text, data space, no base, or one of the exports
abbrev pub base_within : ℕ → ℕ → Bool
base_within exports base = nat_lt base (first_export_base + exports)

abbrev pub anchor_within : ℕ → RelocationKind → ℕ → ℕ → Bool
anchor_within pages kind offset anchor = place_within pages anchor && (is_low_part kind || anchor == offset)

-- the values of one site
abbrev pub site_within : ℕ → ℕ → Site → Bool
site_within pages exports site =
    place_within pages site.offset && is_aligned site.kind site.offset && base_within exports site.base &&
    anchor_within pages site.kind site.offset site.anchor

-- the byte after a site's field
abbrev pub field_end : Site → ℕ
field_end site = site.offset + site_size site.kind

abbrev pub site_end : Option Site → ℕ
site_end None = 0
site_end (Some site) = field_end site

-- the byte after the field of the last of the sites
abbrev pub sites_end : List Site → ℕ
sites_end sites = site_end (slice_get sites (length sites - 1))

-- it begins after the sites before it
abbrev pub is_after : List Site → Site → Bool
is_after before site = nat_le (sites_end before) site.offset

abbrev pub next_site_within : ℕ → ℕ → List Site → Site → Bool
next_site_within pages exports before site = site_within pages exports site && is_after before site

abbrev pub sites_within : ℕ → ℕ → List Site → Bool
sites_within pages exports = each_within (next_site_within pages exports) []

-- ---- modules

abbrev pub is_module : List ℕ → List ModuleRule → Bool
is_module name modules = list_any (λ m. bytes_eq m.name name) modules

-- the number of all sites
abbrev pub sites_of : List ModuleRule → ℕ
sites_of modules = sum (map (λ m. length m.sites) modules)

abbrev pub module_within : ℕ → List ModuleRule → ModuleRule → Bool
module_within exports before m =
    module_pages_within m.pages && sites_count_within (sites_of before) (length m.sites) &&
    sites_within m.pages exports m.sites && not (is_module m.name before)

abbrev pub modules_within : ℕ → List ModuleRule → Bool
modules_within exports = each_within (module_within exports) []

-- ---- the whole

abbrev pub format_within : ℕ → Bool
format_within = is_between plain_format bound_format

abbrev pub numbers_within : Rules → Bool
numbers_within r = format_within r.format && harts_within r.harts && ram_pages_within r.ram_pages

abbrev pub lists_within : Rules → Bool
lists_within r =
    entries_count_within (length r.entries) && entries_within r.entries && exports_count_within (length r.exports) &&
    exports_within r.exports && bound_within r

abbrev pub rules_within : Rules → Bool
rules_within r =
    numbers_within r && lists_within r && init_within r.ram_pages r.init && modules_count_within (length r.modules) &&
    modules_within (length r.exports) r.modules
