use Rattle.std.proofs.Common.{refl, None}
use Rattle.cli_plans.specs.Plans.{run_plan}
use Rattle.cli_plans.specs.Words.{run_value}
use Rattle.cli_plans.proofs.PlanLemmas.{asked_may, asked_refuses, asked_wants}
use Rattle.secvisor_cli.proofs.TopLemmas.{refused_writes}
use Rattle.cli_survey.proofs.AnswerLemmas.{words_performed}
use Rattle.cli_survey.proofs.answer.answer.Goals as goal

pub survey_files-requires-clause-permitted : goal.survey_files-requires-clause-permitted
survey_files-requires-clause-permitted g c = λ κs lives. asked_may run_plan _ (run_value c.in-Ok.asked) _ c.in-Ok.ensures.asked c.requires.permitted

pub returns-in-Ok : goal.returns-in-Ok
returns-in-Ok g c = words_performed _ (run_value c.in-Ok.asked) _ _ _ c.in-Ok.ensures.asked c.survey_files.ensures

pub returns-in-Err-Refused : goal.returns-in-Err-Refused
returns-in-Err-Refused g c =
    let is = rw c.in-Err-Refused.field-0-is at c.in-Err-Refused.ensures.asked in record {
      reached = _;
      read = _;
      follows = asked_refuses run_plan _ c.in-Err-Refused.refusal _ is;
      answers = refused_writes _ _ _ _ _ _ c.refuse.ensures.writes c.refuse.ensures.wants c.refuse.ensures.quiet;
    }

pub returns-in-Err-Memory : goal.returns-in-Err-Memory
returns-in-Err-Memory g c =
    let good = rw c.in-Err-Memory.field-0-is at c.in-Err-Memory.ensures.asked in
    record { reached = None; read = _; follows = asked_wants run_plan _ _ good; answers = (refl, refl) }
