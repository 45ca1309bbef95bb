use Rattle.std.proofs.Common.{refl}
use Rattle.cli_survey.proofs.AnswerLemmas.{may_run}
use Rattle.cli_survey.proofs.answer.survey_on_bench.Goals as goal

pub survey_and_report-result-requires-clause-may : goal.survey_and_report-result-requires-clause-may
survey_and_report-result-requires-clause-may g c = may_run c.args.ready.booted _ c.requires.fresh c.requires.sink

pub returns : goal.returns
returns g c = λ start files new is_start.
    record { machine = c.survey_and_report-result.new.machine; bench = refl; files = refl; surveys = c.survey_and_report-result.ensures start new is_start }
