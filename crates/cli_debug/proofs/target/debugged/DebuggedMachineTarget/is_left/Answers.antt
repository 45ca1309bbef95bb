use Rattle.std.proofs.Common.{◌∙◌}
use Rattle.cli_debug.proofs.Standings.{left_by}
use Rattle.cli_debug.proofs.target.debugged.DebuggedMachineTarget.is_left.Goals as goal

pub returns : goal.returns
returns g c = λ run at.
    c.is_some.ensures ∙ left_by c.args.self.now.next c.args.self.now.left c.args.self.now.script run.made run.events c.args.self.now.some at.left_are
