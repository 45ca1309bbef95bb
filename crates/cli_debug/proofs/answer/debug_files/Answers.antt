use Rattle.cli_plans.specs.Words.{run_value}
use Rattle.cli_debug.proofs.AnswerLemmas.{debugged_files, refused_files, wants_files}
use Rattle.cli_debug.proofs.answer.debug_files.Goals as goal

pub returns-in-Ok : goal.returns-in-Ok
returns-in-Ok g c =
    debugged_files (run_value c.args.asked.now) c.in-Ok.parts _ _ _ _ _ c.requires.run.0 c.in-Ok.ensures (c.debug_parts.ensures c.in-Ok.ensures.rules c.in-Ok.ensures.reads)

pub returns-in-Err-Refused : goal.returns-in-Err-Refused
returns-in-Err-Refused g c =
    let p = rw c.in-Err-Refused.field-0-is at c.in-Err-Refused.ensures in
    refused_files (run_value c.args.asked.now) _ _ c.in-Err-Refused.refusal _ _ _ _ p c.refuse.ensures

pub returns-in-Err-Memory : goal.returns-in-Err-Memory
returns-in-Err-Memory g c =
    let p = rw c.in-Err-Memory.field-0-is at c.in-Err-Memory.ensures in
    wants_files (run_value c.args.asked.now) _ _ _ p
