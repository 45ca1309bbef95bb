use Rattle.cli_plans.specs.Words.{snap_value}
use Rattle.cli_trials.proofs.ShrinkAnswerLemmas.{may_count, may_under, refused_files, shrunk_files, wants_files}
use Rattle.cli_trials.proofs.shrink.answer.shrink_files.Goals as goal

pub shrink_parts-requires-clause-script : goal.shrink_parts-requires-clause-script
shrink_parts-requires-clause-script g c = λ κs lives. may_under (snap_value c.args.asked.now) c.args.asked.now.out.now _ _ _ c.in-Ok.ensures.follows c.requires.script

pub shrink_parts-requires-clause-saves : goal.shrink_parts-requires-clause-saves
shrink_parts-requires-clause-saves g c = λ κs lives. may_count (snap_value c.args.asked.now) _ _ _ c.in-Ok.ensures.follows c.requires.saves

pub returns-in-Ok : goal.returns-in-Ok
returns-in-Ok g c =
    shrunk_files (snap_value c.args.asked.now) c.in-Ok.parts _ _ _ _ _ _ c.requires.block.0 c.in-Ok.ensures (c.shrink_parts.ensures c.in-Ok.ensures.rules c.in-Ok.ensures.reads)

pub returns-in-Err-Refused : goal.returns-in-Err-Refused
returns-in-Err-Refused g c =
    let p = rw c.in-Err-Refused.field-0-is at c.in-Err-Refused.ensures in
    refused_files (snap_value c.args.asked.now) _ _ c.in-Err-Refused.refusal _ _ _ p c.refuse.ensures

pub returns-in-Err-Memory : goal.returns-in-Err-Memory
returns-in-Err-Memory g c =
    let p = rw c.in-Err-Memory.field-0-is at c.in-Err-Memory.ensures in
    wants_files (snap_value c.args.asked.now) _ _ _ p
