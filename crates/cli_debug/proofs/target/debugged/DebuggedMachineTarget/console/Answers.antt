use Rattle.std.proofs.Common.{◌∙◌}
use Rattle.debug_session.specs.Runs.{state}
use Rattle.cli_debug.proofs.AlikeStates.{console_printed}
use Rattle.cli_debug.proofs.target.debugged.DebuggedMachineTarget.console.Goals as goal

pub returns : goal.returns
returns g c = λ run at.
    c.deref.ensures.value ∙ console_printed c.args.self.now.machine c.args.self.now.console.items (state run) at.here c.args.self.now.none
