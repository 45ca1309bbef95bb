use Rattle.cli_snap.proofs.EndLemmas.{snap_ends}
use Rattle.cli_snap.proofs.laws.law_snap_ends.Goals as goal

pub returns : goal.returns
returns c = snap_ends
