use Rattle.cli_snap.proofs.CountsRise.{counts_law}
use Rattle.cli_snap.proofs.laws.law_counts.Goals as goal

pub returns : goal.returns
returns c = counts_law
