use Rattle.cli_snap.proofs.DisksStay.{block_law}
use Rattle.cli_snap.proofs.laws.law_block.Goals as goal

pub returns : goal.returns
returns c = block_law
