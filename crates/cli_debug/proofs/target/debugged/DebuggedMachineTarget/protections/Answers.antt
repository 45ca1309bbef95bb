use Rattle.std.proofs.Common.{◌∙◌}
use Rattle.debug_session.specs.Runs.{state}
use Rattle.cli_debug.proofs.AlikeStates.{protections_alike}
use Rattle.cli_debug.proofs.target.debugged.DebuggedMachineTarget.protections.Goals as goal

pub returns-clause-state : goal.returns-clause-state
returns-clause-state g c = λ run at.
    c.protections.ensures.state at.here.like at.here.here.stands ∙ protections_alike at.here.front (state run) at.here.like at.here.alike

pub returns-clause-few : goal.returns-clause-few
returns-clause-few g c = c.protections.ensures.few
