-- What a machine is to a state of the reference machine, and to its console's bytes. Only this file looks inside a machine.
use Rattle.std.specs.Prelude.{◌≡◌, ℕ, List, ◌++◌, take}
use Rattle.spec_reference.specs.States.{State}
use Rattle.spec_reference.specs.Report.{report}
use Rattle.spec_hardware.specs.Machine.{Machine}
use Rattle.spec_hardware.specs.StandsFor.{StandsFor}
use Rattle.spec_hardware.specs.Reaches.{Cleared}

-- the machine stands for this state, and these bytes of its console were taken away
pub record Stands (machine : Machine) (cleared : List ℕ) (state : State) : Type 0 where
  pub stands : StandsFor machine state
  pub away : cleared ≡ take machine.cleared state.journal.printed

-- these bytes of the console were taken away from one machine, and nothing else changed
pub record TakesAway (before : Machine) (bytes : List ℕ) (after : Machine) : Type 0 where
  pub cleared : Cleared before after
  pub away : bytes ≡ take cleared.taken before.journal.printed

-- there is a state that the machine stands for
pub record HasState (machine : Machine) : Type 0 where
  pub state : State
  pub stands : StandsFor machine state

-- the console's bytes that weren't taken away, and the report
abbrev pub machine_output : Machine → List ℕ
machine_output m = m.journal.printed ++ report m.journal
