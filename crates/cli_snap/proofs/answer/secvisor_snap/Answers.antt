use Rattle.std.proofs.Common.{sym, ◌∙◌, map, string_bytes}
use Rattle.cli_plans.specs.CommandLine.{snap_judged}
use Rattle.cli_snap.proofs.ClauseLemmas.{snap_fault, snap_effect, snap_writes, snap_unread}
use Rattle.cli_snap.proofs.answer.secvisor_snap.Goals as goal

pub returns-clause-headline : goal.returns-clause-headline
returns-clause-headline g c = record { result = c.answer.result; performs = c.answer.ensures; status = c.status_of_end.ensures }

pub returns-clause-read_fault : goal.returns-clause-read_fault
returns-clause-read_fault g c = λ is. snap_fault (map string_bytes c.args.words.now) _ _ _ c.answer.ensures (sym c.status_of_end.ensures ∙ is)

pub returns-clause-reads : goal.returns-clause-reads
returns-clause-reads g c = (snap_effect _ _ _ _ c.answer.ensures).reads

pub returns-clause-writes : goal.returns-clause-writes
returns-clause-writes g c = snap_writes _ _ _ _ c.answer.ensures

pub returns-clause-saves : goal.returns-clause-saves
returns-clause-saves g c = (snap_effect _ _ _ _ c.answer.ensures).saves

pub returns-clause-unread : goal.returns-clause-unread
returns-clause-unread g c = λ refused. snap_unread (snap_judged (map string_bytes c.args.words.now)) _ _ _ refused c.answer.ensures

pub returns-clause-held : goal.returns-clause-held
returns-clause-held g c = (snap_effect _ _ _ _ c.answer.ensures).held
