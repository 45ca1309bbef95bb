use Rattle.std.proofs.Common.{sym, ◌∙◌, map, string_bytes}
use Rattle.cli_plans.specs.CommandLine.{sweep_judged}
use Rattle.cli_trials.proofs.AnswerLemmas.{keeps_files, sweep_fault, unread, writes}
use Rattle.cli_trials.proofs.sweep.answer.secvisor_sweep.Goals as goal

pub returns-clause-headline : goal.returns-clause-headline
returns-clause-headline g c = record { result = c.answer.result; sweeps = c.answer.ensures; status = c.status_of_end.ensures }

pub returns-clause-same : goal.returns-clause-same
returns-clause-same g c = let it = keeps_files (sweep_judged (map string_bytes c.args.words.now)) _ _ _ _ _ c.answer.ensures in (it.held, it.saves)

pub returns-clause-unread : goal.returns-clause-unread
returns-clause-unread g c = λ bad. unread (sweep_judged (map string_bytes c.args.words.now)) _ _ _ _ _ bad c.answer.ensures

pub returns-clause-reads : goal.returns-clause-reads
returns-clause-reads g c = (keeps_files (sweep_judged (map string_bytes c.args.words.now)) _ _ _ _ _ c.answer.ensures).reads

pub returns-clause-writes : goal.returns-clause-writes
returns-clause-writes g c = writes (sweep_judged (map string_bytes c.args.words.now)) _ _ _ _ _ c.answer.ensures

pub returns-clause-read_fault : goal.returns-clause-read_fault
returns-clause-read_fault g c = λ is. sweep_fault (map string_bytes c.args.words.now) _ _ _ _ _ c.answer.ensures (sym c.status_of_end.ensures ∙ is)
