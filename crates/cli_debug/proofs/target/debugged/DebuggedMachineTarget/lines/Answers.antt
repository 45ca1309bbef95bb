use Rattle.std.proofs.Common.{◌∙◌, ap}
use Rattle.std.specs.Prelude.{option_map, slice_get}
use Rattle.spec_reference.specs.Devices.{lines_at}
use Rattle.spec_reference.specs.States.{State}
use Rattle.cli_debug.proofs.target.debugged.DebuggedMachineTarget.lines.Goals as goal

pub returns : goal.returns
returns g c = λ run at.
    c.lines.ensures at.here.like at.here.here.stands ∙ ap (λ (r : State). option_map (λ _. lines_at r.devices c.args.hart) (slice_get r.harts c.args.hart)) at.here.alike.rest
