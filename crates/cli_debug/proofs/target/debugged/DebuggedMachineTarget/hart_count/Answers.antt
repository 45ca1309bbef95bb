use Rattle.std.proofs.Common.{◌∙◌, ap, length}
use Rattle.spec_reference.specs.States.{State}
use Rattle.cli_debug.proofs.target.debugged.DebuggedMachineTarget.hart_count.Goals as goal

pub returns : goal.returns
returns g c = λ run at. c.hart_count.ensures at.here.like at.here.here.stands ∙ ap (λ (r : State). length r.harts) at.here.alike.rest
