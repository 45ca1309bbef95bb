use Rattle.cli_live.proofs.LiveEnding.{live_ends}
use Rattle.cli_live.proofs.laws.law_live_ends.Goals as goal

pub returns : goal.returns
returns c = live_ends
