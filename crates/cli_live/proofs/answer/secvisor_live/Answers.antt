use Rattle.std.proofs.Common.{sym, ◌∙◌, ap, map, string_bytes}
use Rattle.cli_plans.specs.CommandLine.{live_judged}
use Rattle.cli_live.proofs.ClauseLemmas.{replays, live_fault, live_effect, live_writes, live_keys, live_keyless, live_unread, live_unsaved}
use Rattle.cli_live.proofs.answer.secvisor_live.Goals as goal

pub returns-clause-headline : goal.returns-clause-headline
returns-clause-headline g c = record { result = c.answer.result; performs = c.answer.ensures; status = c.status_of_end.ensures }

pub returns-clause-replay : goal.returns-clause-replay
returns-clause-replay g c = λ line words_are ended.
    rw c.status_of_end.ensures
    (replays line (live_judged (map string_bytes c.args.words.now)) _ _ _ (ap live_judged (sym words_are)) c.answer.ensures (rw c.status_of_end.ensures at ended))

pub returns-clause-read_fault : goal.returns-clause-read_fault
returns-clause-read_fault g c = λ is. live_fault (map string_bytes c.args.words.now) _ _ _ c.answer.ensures (sym c.status_of_end.ensures ∙ is)

pub returns-clause-reads : goal.returns-clause-reads
returns-clause-reads g c = (live_effect _ _ _ _ c.answer.ensures).reads

pub returns-clause-writes : goal.returns-clause-writes
returns-clause-writes g c = live_writes _ _ _ _ c.answer.ensures

pub returns-clause-saves : goal.returns-clause-saves
returns-clause-saves g c = (live_effect _ _ _ _ c.answer.ensures).saves

pub returns-clause-keys : goal.returns-clause-keys
returns-clause-keys g c = live_keys _ _ _ _ c.answer.ensures

pub returns-clause-unread : goal.returns-clause-unread
returns-clause-unread g c = λ refused. live_unread (live_judged (map string_bytes c.args.words.now)) _ _ _ refused c.answer.ensures

pub returns-clause-unasked : goal.returns-clause-unasked
returns-clause-unasked g c = λ refused. live_keyless _ _ _ _ c.answer.ensures (rw c.status_of_end.ensures at refused)

pub returns-clause-held : goal.returns-clause-held
returns-clause-held g c = (live_effect _ _ _ _ c.answer.ensures).held

pub returns-clause-unsaved : goal.returns-clause-unsaved
returns-clause-unsaved g c = λ is. live_unsaved _ _ _ _ c.answer.ensures (rw c.status_of_end.ensures at is)
