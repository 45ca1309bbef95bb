-- What each answer makes of pages and modules is what the machine's does.
use Rattle.std.proofs.Common.{◌≡◌, ℕ, List, [], sym, ap, subst}
use Rattle.std.specs.Prelude.{Option, Some, None, IfSome, slice_get}
use Rattle.sv_types.specs.Policies.{Rules}
use Rattle.spec_processor.specs.Regions.{Region}
use Rattle.sv_types.specs.declared.saved.ModulePlacement.{ModulePlacement}
use Rattle.sv_types.specs.declared.protection.Protection.{Protection}
use Rattle.sv_types.specs.declared.protection.Protection.TheVariants.{Free, Held, Approved}
use Rattle.spec_reference.specs.States.{pages_in_rule, with_module}
use Rattle.spec_reference.specs.declared.answers.SideEffect.TheVariants.{BeginsLoad, ApprovesModule, ReleasesModule}
use Rattle.spec_hardware.specs.HwCalls.{hw_pages_side_effect}
use Rattle.spec_hardware.specs.HwExits.{with_tables}
use Rattle.spec_hardware.specs.Machine.{Machine}
use Rattle.page_guard.specs.Guarded.{with_span}
use Rattle.module_gate.specs.Gates.{Progress, new_load, load_span, pages_at}
use Rattle.module_gate.specs.Parts.{with_modules}
use Rattle.module_gate.specs.declared.modules.Modules.{Modules}
use Rattle.module_gate.specs.declared.modules.PendingLoad.{PendingLoad}

pub at_load : (P : PendingLoad → Type 0) (o : Option PendingLoad) (u : PendingLoad) → o ≡ Some u → IfSome o P → P u
at_load P o u there holds = subst (λ (o : Option PendingLoad). IfSome o P) there holds

module _ (m : Machine) (rules : Rules) (region : Region) (h : ℕ) (guard : List Protection) (modules : Modules) (tables : List ℕ) where
  abbrev after : List Protection → Modules → Machine
  after guard modules = with_modules m rules (record region { tables = tables }) guard modules

  abbrev old : Machine
  old = with_modules m rules region guard modules

  pub begins : (about : ModulePlacement) (pages asked : ℕ) → pages ≡ asked
      → after (with_span guard (load_span (new_load about pages)) Held) (record { gate = record modules.gate { digests = [] }; loading = Some (record { hart = h; load = new_load about pages }) })
      ≡ with_tables (hw_pages_side_effect (BeginsLoad about asked) h old) tables
  unfolding hw_pages_side_effect
  begins about pages asked same =
      ap (λ (k : ℕ). after (with_span guard (load_span (new_load about k)) Held) (record {
        gate = record modules.gate { digests = [] };
        loading = Some (record { hart = h; load = new_load about k });
      })) same

  pub approves : (load : Progress) → pages_in_rule (slice_get rules.modules load.about.id) ≡ load.pages
      → after (with_span guard (load_span load) Approved) (record { gate = record modules.gate { loaded = with_module modules.gate.loaded load.about }; loading = None })
      ≡ with_tables (hw_pages_side_effect (ApprovesModule load.about) h old) tables
  unfolding hw_pages_side_effect
  approves load takes =
      ap (λ (k : ℕ). after (with_span guard (pages_at load.about.gpa k) Approved) (record {
        gate = record modules.gate { loaded = with_module modules.gate.loaded load.about };
        loading = None;
      })) (sym takes)

  pub releases : (load : Progress) → pages_in_rule (slice_get rules.modules load.about.id) ≡ load.pages
      → after (with_span guard (load_span load) Free) (record modules { loading = None })
      ≡ with_tables (hw_pages_side_effect (ReleasesModule load.about) h old) tables
  unfolding hw_pages_side_effect
  releases load takes =
      ap (λ (k : ℕ). after (with_span guard (pages_at load.about.gpa k) Free) (record modules { loading = None })) (sym takes)
