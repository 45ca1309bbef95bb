use Rattle.std.proofs.Common.{map, string_bytes}
use Rattle.cli_plans.specs.CommandLine.{debug_judged}
use Rattle.cli_plans.specs.Plans.{run_plan}
use Rattle.cli_plans.specs.Words.{run_value}
use Rattle.cli_plans.proofs.PlanLemmas.{asked_may}
use Rattle.cli_debug.proofs.AnswerLemmas.{answers_ok, answers_refused, answers_want}
use Rattle.cli_debug.proofs.answer.answer.Goals as goal

pub debug_files-requires-clause-permitted : goal.debug_files-requires-clause-permitted
debug_files-requires-clause-permitted g c = λ κs lives.
    asked_may run_plan (debug_judged (map string_bytes c.args.words.now)) (run_value c.in-Ok.asked) _ c.in-Ok.ensures.asked c.requires.permitted

pub returns-in-Ok : goal.returns-in-Ok
returns-in-Ok g c = answers_ok (debug_judged (map string_bytes c.args.words.now)) (run_value c.in-Ok.asked) _ _ _ _ _ c.in-Ok.ensures.asked c.debug_files.ensures

pub returns-in-Err-Refused : goal.returns-in-Err-Refused
returns-in-Err-Refused g c =
    let is = rw c.in-Err-Refused.field-0-is at c.in-Err-Refused.ensures.asked in
    answers_refused (debug_judged (map string_bytes c.args.words.now)) c.in-Err-Refused.refusal _ _ _ _ _ is c.refuse.ensures

pub returns-in-Err-Memory : goal.returns-in-Err-Memory
returns-in-Err-Memory g c =
    let good = rw c.in-Err-Memory.field-0-is at c.in-Err-Memory.ensures.asked in
    answers_want (debug_judged (map string_bytes c.args.words.now)) _ _ good
