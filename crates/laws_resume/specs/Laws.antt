-- What code may rely on in a machine that stands for a state of the reference machine. This project's own.
use Rattle.std.specs.Prelude.{◌≡◌, ℕ, ◌*◌, ◌%◌, ◌<◌, ◌≤◌, List, [], map, drop, length, None, Some, IfSome, IsTrue, slice_get, slice_index_or}
use Rattle.sv_types.specs.ApprovedPages.{approved_bytes}
use Rattle.spec_processor.specs.Bytes.{page_size, instruction_size}
use Rattle.sv_types.specs.Policies.{Rules, rules_within}
use Rattle.spec_processor.specs.Regions.{Region, IsRegion}
use Rattle.sv_types.specs.Views.{AreViews}
use Rattle.spec_processor.specs.GStage.{WalksApart}
use Rattle.spec_processor.specs.Roots.{IsSv39x4}
use Rattle.sv_types.specs.Limits.{max_harts}
use Rattle.sv_types.specs.declared.saved.ModulePlacement.{ModulePlacement}
use Rattle.sv_types.specs.declared.protection.Protection.{Protection}
use Rattle.sv_types.specs.declared.protection.Protection.TheVariants.{Held}
use Rattle.spec_reference.specs.Origins.{is_kernel_text, ownership}
use Rattle.sv_types.specs.Protections.{is_free}
use Rattle.spec_reference.specs.Protections.{protection_at}
use Rattle.spec_reference.specs.Start.{AreWords}
use Rattle.spec_reference.specs.States.{State, find_module, pages_in_rule}
use Rattle.spec_hardware.specs.Machine.{Machine, HwHart, HwLoad}
use Rattle.spec_hardware.specs.StandsFor.{StandsFor, hregs_in, bound_pages}
use Rattle.page_guard.specs.Guarded.{IsInRam, AllAre}
use Rattle.module_gate.specs.Gates.{module_span, AreApproved}
use Rattle.hart.specs.Conditions.{KeepsMode}

-- ---- harts

-- a hart may make an attempt
pub record MayAttempt (region : Region) (hw : HwHart) : Type 0 where
  pub aligned : hw.core.pc % instruction_size ≡ 0
  pub registers : hw.core.hregs ≡ hregs_in hw.core.hregs.mode hw.entry
  pub keeps : KeepsMode hw.core.hregs
  pub stage : IsSv39x4 hw.core.hregs.hgatp
  pub apart : WalksApart region hw.core.hregs.hgatp

abbrev pub HartsLaw : Type 0
HartsLaw = (m : Machine) (r : State) (h : ℕ) (hw : HwHart) → StandsFor m r → slice_get m.harts h ≡ Some hw → MayAttempt m.region hw

-- the same for the hart at a place of the list
abbrev pub HartInLaw : Type 0
HartInLaw = (m : Machine) (r : State) (h : ℕ) (past : HwHart) → StandsFor m r → h < length m.harts → MayAttempt m.region (slice_index_or m.harts h past)

-- where the policy binds no entry, no hart is in one
abbrev pub NoEntryLaw : Type 0
NoEntryLaw = (m : Machine) (r : State) (h : ℕ) (hw : HwHart) → StandsFor m r → m.rules.bound ≡ [] → slice_get m.harts h ≡ Some hw → hw.entry ≡ None

-- ---- sizes, pages and views

pub record IsInOrder (m : Machine) : Type 0 where
  pub within : IsTrue (rules_within m.rules)
  pub words : AreWords m.rules.entries
  pub number : length m.harts ≡ m.rules.harts
  pub few : m.rules.harts ≤ max_harts
  pub pages : length m.protections ≡ m.rules.ram_pages
  pub dma : m.dma ≡ map is_free m.protections
  pub size : length m.region.ram ≡ page_size * m.rules.ram_pages
  pub region : IsRegion m.region
  pub views : AreViews m.region.tables m.rules.ram_pages (bound_pages m.rules) (protection_at m.protections)

abbrev pub OrderLaw : Type 0
OrderLaw = (m : Machine) (r : State) → StandsFor m r → IsInOrder m

-- ---- modules

-- the pages of each loaded module lie in RAM, and are approved
abbrev pub LoadedLaw : Type 0
LoadedLaw = (m : Machine) (r : State) → StandsFor m r → AreApproved m.rules m.protections m.loaded

-- the module of a load under way is one of the policy's and isn't loaded, and its pages lie in RAM and are held
pub record HoldsItsPages (rules : Rules) (guard : List Protection) (loaded : List ModulePlacement) (load : HwLoad) : Type 0 where
  pub known : load.about.id < length rules.modules
  pub inside : IsInRam guard (module_span rules load.about)
  pub held : AllAre guard (module_span rules load.about) Held
  pub other : find_module loaded load.about.id ≡ None
  pub left : load.left ≤ pages_in_rule (slice_get rules.modules load.about.id)

abbrev pub LoadingLaw : Type 0
LoadingLaw = (m : Machine) (r : State) → StandsFor m r → IfSome m.loading (HoldsItsPages m.rules m.protections m.loaded)

-- ---- a machine determines the state

-- two states that no machine tells apart: they are the same but for the order in which approved pages are listed, the list of
-- text pages that were retired, and printed bytes that were taken away
pub record AreSame (cleared : ℕ) (r s : State) : Type 0 where
  pub rules : r.rules ≡ s.rules
  pub harts : r.harts ≡ s.harts
  pub ram : r.ram ≡ s.ram
  pub approved : (page : ℕ) → approved_bytes r.approved page ≡ approved_bytes s.approved page
  pub held : r.held ≡ s.held
  pub loaded : r.loaded ≡ s.loaded
  pub loading : r.loading ≡ s.loading
  pub retired : r.retired ≡ s.retired
  pub text : (page : ℕ) → is_kernel_text (ownership r) page ≡ is_kernel_text (ownership s) page
  pub devices : r.devices ≡ s.devices
  pub notes : r.journal.notes ≡ s.journal.notes
  pub counts : r.journal.counts ≡ s.journal.counts
  pub verdict : r.journal.verdict ≡ s.journal.verdict
  pub printed : drop cleared r.journal.printed ≡ drop cleared s.journal.printed

abbrev pub DeterminesLaw : Type 0
DeterminesLaw = (m : Machine) (r s : State) → StandsFor m r → StandsFor m s → AreSame m.cleared r s
