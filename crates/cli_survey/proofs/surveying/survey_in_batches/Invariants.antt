use Rattle.std.proofs.Common.{◌≡◌, ◌+◌, []}
use Rattle.sv_types.specs.Schedule.{first_events}
use Rattle.spec_reference.specs.Start.{IsStart}
use Rattle.spec_reference.specs.States.{State}
use Rattle.spec_hardware.specs.Reaches.{IsNew}
use Rattle.machine.specs.Drawing.{count_left, events_with}
use Rattle.cli_survey.specs.Advances.{MayGoOn}
use Rattle.cli_survey.specs.Surveys.{SurveysUp}
use Rattle.cli_survey.proofs.surveying.survey_in_batches.Given as goal

abbrev pub invariant-parts : goal.invariant-parts
invariant-parts g l = record {
  on : (start : State) → IsNew l.initial.machine start → IsStart start →
      SurveysUp start (first_events l.events (g.S.EventSource.schedule l.fn.source)) (events_with (l.left.now + l.left.later) g.S.EventSource.schedule l.drawing)
      l.machine l.found (g.O.Sink.state l.initial.out) (g.O.Sink.state l.out);
  spare : l.spare ≡ [];
  may : MayGoOn l.machine (count_left l.drawing + (l.left.now + l.left.later)) (g.O.Sink.state l.out);
}

abbrev pub decreases-parts : goal.decreases-parts
decreases-parts g l = count_left l.drawing + (l.left.now + l.left.later)
