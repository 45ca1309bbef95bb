-- Equal events in a row, of which the last one alone may be stopped by a write. This project's own.
use Rattle.std.specs.Prelude.{◌≡◌, ℕ, replicate}
use Rattle.sv_types.specs.declared.event.Event.{Event}
use Rattle.spec_reference.specs.Run.{run}
use Rattle.spec_reference.specs.States.{State}
use Rattle.laws_simulation.specs.Passing.{passed_over, survey}
use Rattle.laws_simulation.specs.Passes.{pass_of, passes}

-- their survey is the run of them, with a pass at its end
pub record GoesAsRow (r : State) (n : ℕ) (e : Event) : Type 0 where
  pub state : survey r (replicate n e) ≡ passed_over (run r (replicate n e))
  pub passed : passes r (replicate n e) ≡ pass_of (run r (replicate n e)).journal.verdict
