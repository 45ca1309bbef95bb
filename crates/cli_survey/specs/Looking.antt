-- What is looked at in a machine before an event. This project's own.
use Rattle.std.specs.Prelude.{◌≡◌, ℕ, Bool, false, ◌&&◌, List, [], ◌∷◌, ◌==◌, Option, Some, None, option_map}
use Rattle.spec_reference.specs.SavedStates.{saved_load}
use Rattle.spec_reference.specs.States.{State, Hart}
use Rattle.spec_reference.specs.declared.saved_machine.whole.SavedLoad.{SavedLoad}
use Rattle.spec_hardware.specs.Machine.{Machine}
use Rattle.spec_hardware.specs.StandsFor.{StandsFor}
use Rattle.machine.specs.Standing.{HasState}
use Rattle.report.specs.declared.findings.loads.RefusedLoad.{RefusedLoad}

-- this load is under way
pub record IsUnderWay (m : Machine) (load : SavedLoad) : Type 0 where
  pub has : HasState m
  pub under : (r : State) → StandsFor m r → Some load ≡ option_map saved_load r.loading

-- a load is decided in a turn of this hart
unfoldable pub is_due_to : ℕ → Option Hart → SavedLoad → Bool
is_due_to h None load = false
is_due_to h (Some hart) load = hart.started && load.hart == h && load.left == 0

abbrev pub listed : Option RefusedLoad → List RefusedLoad
listed None = []
listed (Some load) = load ∷ []
