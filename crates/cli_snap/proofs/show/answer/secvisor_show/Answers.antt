use Rattle.std.proofs.Common.{map, string_bytes}
use Rattle.cli_snap.specs.Showing.{asked_in}
use Rattle.cli_snap.proofs.ShowAnswerLemmas.{answers_held, keeps_files, writes}
use Rattle.cli_snap.proofs.show.answer.secvisor_show.Goals as goal

pub returns-clause-headline : goal.returns-clause-headline
returns-clause-headline g c = record { result = c.answer.result; shows = c.answer.ensures; status = c.status_of_end.ensures }

pub returns-clause-held : goal.returns-clause-held
returns-clause-held g c = λ asked is tells same. record {
  result = c.answer.result;
  ends = answers_held asked (asked_in (map string_bytes c.args.words.now)) _ _ _ _ c.answer.result is tells same c.answer.ensures;
  status = c.status_of_end.ensures;
}

pub returns-clause-same : goal.returns-clause-same
returns-clause-same g c = let it = keeps_files _ _ _ _ _ _ c.answer.ensures in (it.held, it.saves)

pub returns-clause-reads : goal.returns-clause-reads
returns-clause-reads g c = (keeps_files _ _ _ _ _ _ c.answer.ensures).reads

pub returns-clause-writes : goal.returns-clause-writes
returns-clause-writes g c = writes _ _ _ _ _ _ c.answer.ensures
