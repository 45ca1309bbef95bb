-- What the gate records, a load under way, and the pages that a module takes. This project's own.
use Rattle.std.specs.Prelude.{◌≡◌, ℕ, ◌*◌, ◌%◌, ◌&&◌, Bool, true, false, List, [], ◌==◌, ◌-◌, not, Option, Some, None, slice_get}
use Rattle.std.specs.List.{list_any}
use Rattle.spec_processor.specs.Bytes.{page_size, page_of, in_ram}
use Rattle.sv_types.specs.Policies.{Rules, ModuleRule}
use Rattle.sv_types.specs.ApprovedPages.{numbers_from}
use Rattle.sv_types.specs.declared.module.Span.{Span}
use Rattle.sv_types.specs.declared.saved.ModulePlacement.{ModulePlacement}
use Rattle.sv_types.specs.declared.protection.Protection.{Protection}
use Rattle.sv_types.specs.declared.protection.Protection.TheVariants.{Approved}
use Rattle.spec_reference.specs.Protections.{is_taken}
use Rattle.spec_reference.specs.States.{pages_in_rule, find_module}
use Rattle.spec_hardware.specs.HwExits.{page_counted}
use Rattle.spec_hardware.specs.Machine.{HwLoad}
use Rattle.page_guard.specs.Guarded.{IsInRam, AllAre}

-- the loaded modules, ascending by id, the digests of the pages that the last load counted, and whether the init pages are retired
pub record Records : Type 0 where
  pub loaded : List ModulePlacement
  pub digests : List (List ℕ)
  pub retired : Bool

-- a load under way besides its digests: its arguments, the pages of its module and those that are left to count, and whether the
-- fields of the others are right
pub record Progress : Type 0 where
  pub about : ModulePlacement
  pub pages : ℕ
  pub left : ℕ
  pub right : Bool

-- a load under way with the digests of its pages
pub record PageTurns : Type 0 where
  pub about : ModulePlacement
  pub pages : ℕ
  pub left : ℕ
  pub digests : List (List ℕ)
  pub right : Bool

abbrev pub with_digests : List (List ℕ) → Progress → PageTurns
with_digests digests load = record { about = load.about; pages = load.pages; left = load.left; digests = digests; right = load.right }

-- as the machine records it for a hart
abbrev pub hw_load : ℕ → PageTurns → HwLoad
hw_load hart load = record { hart = hart; about = load.about; left = load.left; digests = load.digests; right = load.right }

-- so many pages from an address on
abbrev pub pages_at : ℕ → ℕ → Span
pages_at gpa pages = record { first = page_of gpa; count = pages }

abbrev pub load_span : Progress → Span
load_span load = pages_at load.about.gpa load.pages

-- the pages of a loaded module, as many as the policy says
abbrev pub module_span : Rules → ModulePlacement → Span
module_span rules about = pages_at about.gpa (pages_in_rule (slice_get rules.modules about.id))

-- no module is loaded, and none was
abbrev pub no_modules : Records
no_modules = record { loaded = []; digests = []; retired = false }

-- the addresses are multiples of a page's bytes, and the pages are in RAM
abbrev pub is_place : List ℕ → (gpa va pages : ℕ) → Bool
is_place ram gpa va pages = gpa % page_size == 0 && va % page_size == 0 && in_ram ram gpa (page_size * pages)

-- and all of them are free
unfoldable pub is_good_place : List ℕ → List Protection → ModulePlacement → ℕ → Bool
is_good_place ram guard about pages = is_place ram about.gpa about.va pages && not (list_any (is_taken guard) (numbers_from (page_of about.gpa) pages))

-- nothing was counted yet
abbrev pub new_load : ModulePlacement → ℕ → Progress
new_load about pages = record { about = about; pages = pages; left = pages; right = true }

-- the pages of each loaded module are in RAM, and approved
pub record AreApproved (rules : Rules) (guard : List Protection) (loaded : List ModulePlacement) : Type 0 where
  pub inside : (id : ℕ) (about : ModulePlacement) → find_module loaded id ≡ Some about → IsInRam guard (module_span rules about)
  pub approved : (id : ℕ) (about : ModulePlacement) → find_module loaded id ≡ Some about → AllAre guard (module_span rules about) Approved

-- the load with its next page counted, whose bytes these are
unfoldable pub next_counted : Rules → List ℕ → HwLoad → Option ModuleRule → HwLoad
next_counted rules bytes load None = load
next_counted rules bytes load (Some rule) = page_counted rules rule load (rule.pages - load.left) bytes (load.left - 1)
