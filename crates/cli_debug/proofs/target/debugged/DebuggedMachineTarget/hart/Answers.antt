use Rattle.std.proofs.Common.{◌∙◌, ap}
use Rattle.std.specs.Prelude.{option_map, slice_get}
use Rattle.spec_reference.specs.SavedStates.{saved_hart}
use Rattle.spec_reference.specs.States.{State}
use Rattle.cli_debug.proofs.target.debugged.DebuggedMachineTarget.hart.Goals as goal

pub returns : goal.returns
returns g c = λ run at.
    c.hart.ensures at.here.like at.here.here.stands
    ∙ ap (λ (r : State). option_map (saved_hart r.devices.clock c.args.hart) (slice_get r.harts c.args.hart)) at.here.alike.rest
