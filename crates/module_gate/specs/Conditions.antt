-- What holds of modules and their pages before each answer. This project's own.
use Rattle.std.specs.Prelude.{◌≡◌, ◌+◌, ◌≤◌, List, length, Option, None, IfSome, slice_get}
use Rattle.sv_types.specs.Policies.{Rules}
use Rattle.spec_processor.specs.Regions.{Region}
use Rattle.sv_types.specs.declared.saved.ModulePlacement.{ModulePlacement}
use Rattle.sv_types.specs.declared.protection.Protection.{Protection}
use Rattle.sv_types.specs.declared.protection.Protection.TheVariants.{Held}
use Rattle.spec_reference.specs.States.{pages_in_rule, find_module}
use Rattle.spec_hardware.specs.Machine.{HwLoad}
use Rattle.page_guard.specs.Guarded.{Guarded, IsInRam, AllAre, TablesMatchGuard}
use Rattle.module_gate.specs.Gates.{Records, load_span, module_span, AreApproved}
use Rattle.module_gate.specs.Parts.{loading_of}
use Rattle.module_gate.specs.declared.modules.Modules.{Modules}
use Rattle.module_gate.specs.declared.modules.PendingLoad.{PendingLoad}

-- a load takes as many pages as the policy says
abbrev pub TakesItsPages : Rules → PendingLoad → Type 0
TakesItsPages rules u = pages_in_rule (slice_get rules.modules u.load.about.id) ≡ u.load.pages

-- each of its pages is left to count, or its digest is kept
abbrev pub IsTallied : Records → PendingLoad → Type 0
IsTallied gate u = length gate.digests + u.load.left ≡ u.load.pages

-- what each call keeps of a load under way
pub record AreJoined (rules : Rules) (modules : Modules) : Type 0 where
  pub digests : IfSome modules.loading (IsTallied modules.gate)
  pub pages : IfSome modules.loading (TakesItsPages rules)

-- the module under way isn't loaded, and its pages are held
pub record IsHeld (rules : Rules) (guard : List Protection) (loaded : List ModulePlacement) (load : HwLoad) : Type 0 where
  pub inside : IsInRam guard (module_span rules load.about)
  pub held : AllAre guard (module_span rules load.about) Held
  pub other : find_module loaded load.about.id ≡ None
  pub left : load.left ≤ pages_in_rule (slice_get rules.modules load.about.id)

-- what follows from the soundness of the state that the machine stands for
pub record AreGuarded (rules : Rules) (guard : List Protection) (loaded : List ModulePlacement) (loading : Option HwLoad)
    : Type 0 where
  pub pages : length guard ≡ rules.ram_pages
  pub approved : AreApproved rules guard loaded
  pub load : IfSome loading (IsHeld rules guard loaded)

-- the load under way may end: what holds of its module, by the pages that it took
pub record MayEnd (guard : List Protection) (loaded : List ModulePlacement) (u : PendingLoad) : Type 0 where
  pub inside : IsInRam guard (load_span u.load)
  pub held : AllAre guard (load_span u.load) Held
  pub other : find_module loaded u.load.about.id ≡ None

-- RAM is guarded, so that a load that is under way finds its pages there
pub record IsReadable (rules : Rules) (region : Region) (modules : Modules) : Type 0 where
  pub guard : Guarded
  pub tables_match : TablesMatchGuard region guard
  pub guarded : AreGuarded rules guard.pages modules.gate.loaded (loading_of modules)
