use Rattle.std.proofs.Common.{◌∙◌, ap}
use Rattle.std.specs.Prelude.{option_map, slice_get}
use Rattle.spec_hardware.specs.Machine.{Machine}
use Rattle.spec_reference.specs.Devices.{lines_at}
use Rattle.machine.proofs.Looking.{lines_seen}
use Rattle.machine.proofs.machine.Machine.lines.Goals as goal

pub returns : goal.returns
returns c = λ r stands.
    c.lines_of.ensures
    ∙ ap (λ (m : Machine). option_map (λ _. lines_at m.devices c.args.hart) (slice_get m.harts c.args.hart)) c.self.view_is
    ∙ lines_seen c.args.self.now r c.args.hart stands
