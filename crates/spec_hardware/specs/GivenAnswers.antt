-- What happens besides an answer that is given: a call is answered so, or the end of a load. This project's own.
use Rattle.std.specs.Prelude.{◌≡◌, ℕ, ◌⊎◌, Bool, List, [], Option, Some, slice_get}
use Rattle.sv_types.specs.Policies.{Rules}
use Rattle.spec_reference.specs.Calls.{Asked, Facts}
use Rattle.spec_reference.specs.ModuleCalls.{answer_of, load_decision}
use Rattle.spec_reference.specs.declared.answers.SideEffect.{SideEffect}
use Rattle.spec_hardware.specs.HwExits.{hw_is_good}
use Rattle.spec_hardware.specs.Machine.{HwLoad}

-- some call is answered so, whichever harts are started and whatever input waits
pub record IsOfCall (facts : Facts) (side_effect : SideEffect) : Type 0 where
  pub started : List Bool
  pub input : List ℕ
  pub ask : Asked
  pub same : side_effect ≡ (answer_of (record facts { started = started; input = input }) ask).side_effect

-- the load under way, all of whose pages are counted, is decided so
pub record IsOfLoad (rules : Rules) (loading : Option HwLoad) (side_effect : SideEffect) : Type 0 where
  pub load : HwLoad
  pub there : loading ≡ Some load
  pub counted : load.left ≡ 0
  pub same : side_effect ≡ (load_decision (hw_is_good load (slice_get rules.modules load.about.id)) load.about).side_effect

-- by the facts but for harts and input, and the load under way
abbrev pub IsGiven : Facts → Option HwLoad → SideEffect → Type 0
IsGiven facts loading side_effect = IsOfCall (record facts { started = []; input = [] }) side_effect ⊎ IsOfLoad facts.rules loading side_effect
