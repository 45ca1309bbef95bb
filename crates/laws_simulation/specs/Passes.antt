-- The writes that a survey passes over, in their order; and events in a row, of which the last one alone may be stopped by a write.
-- This project's own.
use Rattle.std.specs.Prelude.{◌≡◌, ℕ, suc, List, [], ◌∷◌, ◌++◌, replicate}
use Rattle.sv_types.specs.declared.event.Event.{Event}
use Rattle.sv_types.specs.declared.event.Rule.TheVariants.{Entry, Write}
use Rattle.sv_types.specs.declared.event.Verdict.{Verdict}
use Rattle.sv_types.specs.declared.event.Verdict.TheVariants.{Running, Shutdown, Stopped}
use Rattle.spec_reference.specs.Run.{run, step}
use Rattle.spec_reference.specs.States.{State}
use Rattle.laws_simulation.specs.Passing.{passed_over, survey_step, survey}
use Rattle.laws_simulation.specs.SurveyLaws.{IsNoWrite}

-- a write that was passed over: the instruction's pc, where it would have written, by which hart, and in which turn
pub record Pass : Type 0 where
  pub pc : ℕ
  pub gpa : ℕ
  pub hart : ℕ
  pub turn : ℕ

-- the write that stopped the machine
unfoldable pub pass_of : Verdict → List Pass
pass_of Running = []
pass_of Shutdown = []
pass_of (Stopped (Entry target) h turn) = []
pass_of (Stopped (Write pc gpa) h turn) = record { pc = pc; gpa = gpa; hart = h; turn = turn } ∷ []

abbrev pub passes : State → List Event → List Pass
passes r [] = []
passes r (e ∷ events) = pass_of (step r e).journal.verdict ++ passes (survey_step r e) events

-- those of events after others are those from the state that the survey has reached
abbrev pub PassesOnLaw : Type 0
PassesOnLaw = (r : State) (front back : List Event) → passes r (front ++ back) ≡ passes r front ++ passes (survey r front) back

-- the survey of an event so many times and once more is the run, with a pass at its end
pub record IsRow (r : State) (n : ℕ) (e : Event) : Type 0 where
  pub state : survey r (replicate (suc n) e) ≡ passed_over (run r (replicate (suc n) e))
  pub passed : passes r (replicate (suc n) e) ≡ pass_of (run r (replicate (suc n) e)).journal.verdict

abbrev pub RowLaw : Type 0
RowLaw = (r : State) (n : ℕ) (e : Event) → IsNoWrite (run r (replicate n e)).journal.verdict → IsRow r n e
