use Rattle.std.proofs.Common.{sym, ◌∙◌, map, string_bytes}
use Rattle.cli_plans.specs.CommandLine.{debug_judged}
use Rattle.cli_debug.proofs.AnswerLemmas.{debug_fault, keeps_files, rises, unread}
use Rattle.cli_debug.proofs.answer.secvisor_debug.Goals as goal

pub returns-clause-headline : goal.returns-clause-headline
returns-clause-headline g c = record { result = c.answer.result; answers = c.answer.ensures; status = c.status_of_end.ensures }

pub returns-clause-read_fault : goal.returns-clause-read_fault
returns-clause-read_fault g c = λ is. debug_fault (map string_bytes c.args.words.now) _ _ _ _ _ c.answer.ensures (sym c.status_of_end.ensures ∙ is)

pub returns-clause-same : goal.returns-clause-same
returns-clause-same g c = let it = keeps_files (debug_judged (map string_bytes c.args.words.now)) _ _ _ _ _ c.answer.ensures in (it.held, it.saves)

pub returns-clause-unread : goal.returns-clause-unread
returns-clause-unread g c = λ bad. unread (debug_judged (map string_bytes c.args.words.now)) _ _ _ _ _ bad c.answer.ensures

pub returns-clause-reads : goal.returns-clause-reads
returns-clause-reads g c = (keeps_files (debug_judged (map string_bytes c.args.words.now)) _ _ _ _ _ c.answer.ensures).reads

pub returns-clause-writes : goal.returns-clause-writes
returns-clause-writes g c = (rises (debug_judged (map string_bytes c.args.words.now)) _ _ _ _ _ c.answer.ensures).writes

pub returns-clause-keys : goal.returns-clause-keys
returns-clause-keys g c = (rises (debug_judged (map string_bytes c.args.words.now)) _ _ _ _ _ c.answer.ensures).keys
