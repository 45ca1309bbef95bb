use Rattle.std.proofs.Common.{◌∙◌}
use Rattle.cli_debug.proofs.Standings.{turn_by}
use Rattle.cli_debug.proofs.target.debugged.DebuggedMachineTarget.next_turn.Goals as goal

pub returns : goal.returns
returns g c = λ run at. c.turning.ensures ∙ turn_by c.args.self.now.next c.args.self.now.left c.args.self.now.script run c.args.self.now.some at.left_are
