use Rattle.std.proofs.Common.{map, string_bytes}
use Rattle.cli_plans.specs.CommandLine.{show_judged}
use Rattle.cli_snap.proofs.ShowAnswerLemmas.{may_ok, shows_ok, shows_refused, shows_want}
use Rattle.cli_snap.proofs.show.answer.answer.Goals as goal

pub show_files-requires-clause-permitted : goal.show_files-requires-clause-permitted
show_files-requires-clause-permitted g c = may_ok (show_judged (map string_bytes c.args.words.now)) _ _ c.in-Ok.ensures c.requires.permitted

pub returns-in-Ok : goal.returns-in-Ok
returns-in-Ok g c = shows_ok (show_judged (map string_bytes c.args.words.now)) _ _ _ _ _ _ c.in-Ok.ensures c.show_files.ensures

pub returns-in-Err-Refused : goal.returns-in-Err-Refused
returns-in-Err-Refused g c =
    let is = rw c.in-Err-Refused.field-0-is at c.in-Err-Refused.ensures in
    shows_refused (show_judged (map string_bytes c.args.words.now)) _ _ _ _ _ is c.refuse.ensures

pub returns-in-Err-Memory : goal.returns-in-Err-Memory
returns-in-Err-Memory g c =
    let good = rw c.in-Err-Memory.field-0-is at c.in-Err-Memory.ensures in
    shows_want (show_judged (map string_bytes c.args.words.now)) _ _ good
