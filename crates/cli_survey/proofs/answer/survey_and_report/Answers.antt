use Rattle.sv_types.specs.Schedule.{first_events}
use Rattle.secvisor_cli.proofs.ReadyLemmas.{err_by}
use Rattle.cli_survey.specs.SurveyAnswers.{SurveysTo}
use Rattle.cli_survey.proofs.EndLemmas.{may_write, survey_failed, survey_finished}
use Rattle.cli_survey.proofs.SurveyLemmas.{new_notes, new_runs}
use Rattle.cli_survey.proofs.answer.survey_and_report.Goals as goal

pub survey-requires : goal.survey-requires
survey-requires g c = record {
  run = c.requires.may;
  running = new_runs c.args.machine.now c.requires.starts.start c.requires.starts.is_new c.requires.starts.is_start;
  none = c.nothing_found-found.ensures.writes;
  none_refused = c.nothing_found-found.ensures.loads;
  none_noted = c.nothing_found-found.ensures.noted;
  no_notes = new_notes c.args.machine.now c.requires.starts.start c.requires.starts.is_new c.requires.starts.is_start;
}

pub returns-in_err-survey : goal.returns-in_err-survey
returns-in_err-survey g c = λ start new is_start.
    err_by _ c.in_err-survey.field-0.0
    (λ r. SurveysTo c.args.kernel.now.bytes.items start (first_events c.args.events c.args.script) c.survey.new.machine (g.O.Sink.state c.args.out.now) (g.O.Sink.state c.survey.new.out) r)
    c.from_residual.ensures.1
    (survey_failed c.args.kernel.now.bytes.items start _ c.survey.new.machine c.survey.new.found _ _ c.in_err-survey.field-0.0 (c.in_err-survey.ensures start new is_start))

pub finish-requires : goal.finish-requires
finish-requires g c =
    let s = c.requires.starts in
    record { sink = may_write s.start _ c.survey.new.machine c.survey.new.found _ _ (c.in_ok-survey.ensures s.start s.is_new s.is_start) c.requires.may.sink }

pub returns : goal.returns
returns g c = λ start new is_start.
    survey_finished c.args.kernel.now.bytes.items start _ c.survey.new.machine c.survey.new.found _ _ _ c.finish.result (c.in_ok-survey.ensures start new is_start) c.finish.ensures.writes
