use Rattle.cli_snap.proofs.ShowAnswerLemmas.{show_ends}
use Rattle.cli_snap.proofs.show.laws.law_show_ends.Goals as goal

pub returns : goal.returns
returns c = show_ends
