-- How `live` ends where nothing is refused. This project's own.
use Rattle.std.specs.Prelude.{◌≡◌, ◌<◌, ◌⊎◌, ℕ, List, Option, Result}
use Rattle.sv_types.specs.declared.event.Event.{Event}
use Rattle.sv_types.specs.declared.status.Status.{Status}
use Rattle.sv_types.specs.Output.{run_status}
use Rattle.spec_reference.specs.Run.{run}
use Rattle.spec_reference.specs.States.{State}
use Rattle.secvisor_cli.specs.Answers.{outside}
use Rattle.secvisor_cli.specs.DueIn.{due_in, AreReadWhole, EndsAs}
use Rattle.cli_plans.specs.CommandLine.{LiveWords}
use Rattle.cli_plans.specs.Plans.{RunFrom, live_plan}
use Rattle.cli_plans.specs.declared.refusal.Refusal.{Refusal}
use Rattle.cli_live.specs.LiveAnswers.{LiveOutside, LiveHeadline}

-- with this status; or a write or the save failed, which is counted; or memory ran out; or a read of the keys failed, which is
-- counted too
abbrev pub EndsLive : (due : Status) → LiveOutside → LiveOutside → (answer : Status) → Type 0
EndsLive due old new answer =
    EndsAs due (outside old.files old.sink old.bench) (outside new.files new.sink new.bench) answer
    ⊎ ((answer ≡ Status.ReadFault) × (old.keys.faults < new.keys.faults))

-- the status is that of the run over some list of events, the journal
pub record LiveEnds (start : State) (old new : LiveOutside) (answer : Status) : Type 0 where
  pub journal : List Event
  pub ends : EndsLive (run_status (run start journal).journal.verdict) old new answer

abbrev pub LiveEndsLaw : Type 0
LiveEndsLaw = (words : Result LiveWords Refusal) (start : State) (events : List Event) (save : Option (List ℕ)) (old new : LiveOutside) (answer : Status) →
    AreReadWhole old.files new.files → due_in old.files.held (live_plan words) ≡ RunFrom start events save → LiveHeadline words old new answer →
    LiveEnds start old new answer
