use Rattle.std.proofs.Common.{◌∙◌, ap}
use Rattle.spec_reference.specs.States.{State}
use Rattle.cli_debug.proofs.target.debugged.DebuggedMachineTarget.ram.Goals as goal

pub returns : goal.returns
returns g c = λ run at. c.ram.ensures at.here.like at.here.here.stands ∙ ap (λ (r : State). r.ram) at.here.alike.rest
