use Rattle.std.proofs.Common.{rules, ◌<◌, ◌∙◌, ap, length, Some}
use Rattle.spec_reference.specs.Devices.{lines_at}
use Rattle.machine.proofs.Looking.{lines_there}
use Rattle.machine.proofs.seen.lines_among.Goals as goal

pub returns : goal.returns
returns c =
    let below : c.args.hart < length c.args.slots.now = search rules in
    ap Some c.lines.ensures ∙ lines_there c.args.slots.now c.args.hart (lines_at c.args.devices.now c.args.hart) below
