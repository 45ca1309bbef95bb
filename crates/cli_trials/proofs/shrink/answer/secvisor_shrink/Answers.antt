use Rattle.std.proofs.Common.{sym, ◌∙◌, map, string_bytes}
use Rattle.cli_plans.specs.CommandLine.{shrink_judged}
use Rattle.cli_trials.proofs.ClauseLemmas.{shrink_effect, shrink_fault, shrink_unread, shrink_writes}
use Rattle.cli_trials.proofs.shrink.answer.secvisor_shrink.Goals as goal

pub returns-clause-headline : goal.returns-clause-headline
returns-clause-headline g c = record { result = c.answer.result; shrinks = c.answer.ensures; status = c.status_of_end.ensures }

pub returns-clause-read_fault : goal.returns-clause-read_fault
returns-clause-read_fault g c = λ is. shrink_fault (map string_bytes c.args.words.now) _ _ _ _ _ c.answer.ensures (sym c.status_of_end.ensures ∙ is)

pub returns-clause-reads : goal.returns-clause-reads
returns-clause-reads g c = (shrink_effect (shrink_judged (map string_bytes c.args.words.now)) _ _ _ _ _ c.answer.ensures).reads

pub returns-clause-writes : goal.returns-clause-writes
returns-clause-writes g c = shrink_writes (shrink_judged (map string_bytes c.args.words.now)) _ _ _ _ _ c.answer.ensures

pub returns-clause-saves : goal.returns-clause-saves
returns-clause-saves g c = (shrink_effect (shrink_judged (map string_bytes c.args.words.now)) _ _ _ _ _ c.answer.ensures).saves

pub returns-clause-unread : goal.returns-clause-unread
returns-clause-unread g c = λ bad. shrink_unread (shrink_judged (map string_bytes c.args.words.now)) _ _ _ _ _ bad c.answer.ensures

pub returns-clause-held : goal.returns-clause-held
returns-clause-held g c = (shrink_effect (shrink_judged (map string_bytes c.args.words.now)) _ _ _ _ _ c.answer.ensures).held
