-- A load whose pages are counted again. This project's own.
use Rattle.std.specs.Prelude.{◌≡◌, ℕ, ◌+◌, ◌*◌, ◌%◌, ◌≤◌, List, length, slice_get, true}
use Rattle.spec_processor.specs.Bytes.{page_size, ram_offset}
use Rattle.sv_types.specs.Policies.{Rules}
use Rattle.spec_reference.specs.States.{pages_in_rule}
use Rattle.spec_hardware.specs.StandsFor.{load_kept}
use Rattle.spec_reference.specs.declared.saved_machine.whole.SavedLoad.{SavedLoad}
use Rattle.module_gate.specs.Gates.{PageTurns, hw_load}
use Rattle.snapshot_format.specs.Judgements.{fits}

-- a load of the policy whose pages lie in RAM and begin with a page, as its own addresses do
pub record IsWithin (rules : Rules) (load : SavedLoad) : Type 0 where
  pub fits : fits rules load.«module» ≡ true
  pub gpa : load.«module».gpa % page_size ≡ 0
  pub va : load.«module».va % page_size ≡ 0
  pub left : load.left ≤ pages_in_rule (slice_get rules.modules load.«module».id)

-- what is kept of the pages that were counted is what RAM has there now
pub record IsCounted (rules : Rules) (ram : List ℕ) (load : PageTurns) : Type 0 where
  pub kept : (hart : ℕ) → hw_load hart load ≡ load_kept rules ram (record { hart = hart; about = load.about; left = load.left })
  pub pages : pages_in_rule (slice_get rules.modules load.about.id) ≡ load.pages
  pub few : load.left ≤ load.pages
  pub tallied : length load.digests + load.left ≡ load.pages
  pub begins : ram_offset load.about.gpa % page_size ≡ 0
  pub inside : ram_offset load.about.gpa + page_size * load.pages ≤ length ram
