use Rattle.std.proofs.Common.{map, string_bytes}
use Rattle.cli_plans.specs.CommandLine.{sweep_judged}
use Rattle.cli_plans.specs.Words.{sweep_value}
use Rattle.cli_trials.proofs.AnswerLemmas.{may_ok, sweeps_ok, sweeps_refused, sweeps_want}
use Rattle.cli_trials.proofs.sweep.answer.answer.Goals as goal

pub sweep_files-requires-clause-permitted : goal.sweep_files-requires-clause-permitted
sweep_files-requires-clause-permitted g c = λ κs lives. may_ok (sweep_judged (map string_bytes c.args.words.now)) (sweep_value c.in-Ok.asked) _ c.in-Ok.ensures.asked c.requires.permitted

pub returns-in-Ok : goal.returns-in-Ok
returns-in-Ok g c = sweeps_ok (sweep_judged (map string_bytes c.args.words.now)) (sweep_value c.in-Ok.asked) _ _ _ _ _ c.in-Ok.ensures.asked c.sweep_files.ensures

pub returns-in-Err-Refused : goal.returns-in-Err-Refused
returns-in-Err-Refused g c =
    let is = rw c.in-Err-Refused.field-0-is at c.in-Err-Refused.ensures.asked in
    sweeps_refused (sweep_judged (map string_bytes c.args.words.now)) c.in-Err-Refused.refusal _ _ _ _ is c.refuse.ensures

pub returns-in-Err-Memory : goal.returns-in-Err-Memory
returns-in-Err-Memory g c =
    let good = rw c.in-Err-Memory.field-0-is at c.in-Err-Memory.ensures.asked in
    sweeps_want (sweep_judged (map string_bytes c.args.words.now)) _ _ good
