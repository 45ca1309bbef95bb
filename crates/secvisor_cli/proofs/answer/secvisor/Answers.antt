use Rattle.std.proofs.Common.{◌∙◌, sym, map, string_bytes}
use Rattle.cli_plans.specs.CommandLine.{judgement_of_words}
use Rattle.cli_plans.specs.Plans.{command_plan}
use Rattle.secvisor_cli.proofs.TopLemmas.{effect, headline, headline_writes, performs_fault, unread}
use Rattle.secvisor_cli.proofs.answer.secvisor.Goals as goal

pub returns-clause-headline : goal.returns-clause-headline
returns-clause-headline g c = rw c.status_of_end.ensures (headline _ _ _ _ c.answer.ensures)

pub returns-clause-read_fault : goal.returns-clause-read_fault
returns-clause-read_fault g c = λ is. performs_fault (map string_bytes c.args.words.now) _ _ _ c.answer.ensures (sym c.status_of_end.ensures ∙ is)

pub returns-clause-reads : goal.returns-clause-reads
returns-clause-reads g c = (effect _ _ _ _ c.answer.ensures).reads

pub returns-clause-writes : goal.returns-clause-writes
returns-clause-writes g c = headline_writes _ _ _ _ (headline _ _ _ _ c.answer.ensures)

pub returns-clause-unread : goal.returns-clause-unread
returns-clause-unread g c = λ refused. unread command_plan (judgement_of_words (map string_bytes c.args.words.now)) _ _ _ refused c.answer.ensures

pub returns-clause-saves : goal.returns-clause-saves
returns-clause-saves g c = (effect _ _ _ _ c.answer.ensures).saves

pub returns-clause-held : goal.returns-clause-held
returns-clause-held g c = (effect _ _ _ _ c.answer.ensures).held

pub returns-clause-unsaved : goal.returns-clause-unsaved
returns-clause-unsaved g c = (effect _ _ _ _ c.answer.ensures).unsaved
