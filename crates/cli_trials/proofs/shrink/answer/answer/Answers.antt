use Rattle.std.proofs.Common.{map, string_bytes}
use Rattle.cli_plans.specs.CommandLine.{shrink_judged}
use Rattle.cli_plans.specs.Words.{snap_value}
use Rattle.cli_trials.proofs.ShrinkAnswerLemmas.{may_read, may_save, shrinks_ok, shrinks_refused, shrinks_want}
use Rattle.cli_trials.proofs.shrink.answer.answer.Goals as goal

pub shrink_files-requires-clause-permitted : goal.shrink_files-requires-clause-permitted
shrink_files-requires-clause-permitted g c = λ κs lives. may_read (shrink_judged (map string_bytes c.args.words.now)) (snap_value c.in-Ok.asked) _ c.in-Ok.ensures.asked c.requires.permitted

pub shrink_files-requires-clause-script : goal.shrink_files-requires-clause-script
shrink_files-requires-clause-script g c = λ κs lives.
    may_save (shrink_judged (map string_bytes c.args.words.now)) (snap_value c.in-Ok.asked) (g.F.Files.state c.args.files.now) c.in-Ok.ensures.asked c.requires.permitted

pub returns-in-Ok : goal.returns-in-Ok
returns-in-Ok g c = shrinks_ok (shrink_judged (map string_bytes c.args.words.now)) (snap_value c.in-Ok.asked) _ _ _ _ _ c.in-Ok.ensures.asked c.shrink_files.ensures

pub returns-in-Err-Refused : goal.returns-in-Err-Refused
returns-in-Err-Refused g c =
    let is = rw c.in-Err-Refused.field-0-is at c.in-Err-Refused.ensures.asked in
    shrinks_refused (shrink_judged (map string_bytes c.args.words.now)) c.in-Err-Refused.refusal _ _ _ _ is c.refuse.ensures

pub returns-in-Err-Memory : goal.returns-in-Err-Memory
returns-in-Err-Memory g c =
    let good = rw c.in-Err-Memory.field-0-is at c.in-Err-Memory.ensures.asked in
    shrinks_want (shrink_judged (map string_bytes c.args.words.now)) _ _ good
