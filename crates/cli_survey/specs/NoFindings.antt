-- A survey that finds nothing is a run. This project's own.
use Rattle.std.specs.Prelude.{◌≡◌, ℕ, List, []}
use Rattle.sv_types.specs.Output.{run_status}
use Rattle.sv_types.specs.declared.event.Event.{Event}
use Rattle.spec_reference.specs.Report.{output}
use Rattle.spec_reference.specs.Run.{run}
use Rattle.spec_reference.specs.States.{State}
use Rattle.laws_simulation.specs.Passing.{survey}
use Rattle.cli_survey.specs.SurveyAnswers.{bytes_due, lines_due, status_due}

-- the state, all bytes and the status are those of the run
pub record IsThatRun (file : List ℕ) (start : State) (events : List Event) : Type 0 where
  pub state : survey start events ≡ run start events
  pub bytes : bytes_due file start events ≡ output (run start events)
  pub status : status_due file start events ≡ run_status (run start events).journal.verdict

abbrev pub NoFindingsLaw : Type 0
NoFindingsLaw = (file : List ℕ) (start : State) (events : List Event) → lines_due file start events ≡ [] → IsThatRun file start events
