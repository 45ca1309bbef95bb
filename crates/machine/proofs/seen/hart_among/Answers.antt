use Rattle.std.proofs.Common.{rules, ◌<◌, ◌∙◌, ap, length, Some}
use Rattle.sv_types.specs.Clock.{timer_of}
use Rattle.monitor_exits.specs.HwOfSlots.{hw_at}
use Rattle.machine.specs.Keeping.{kept_hart}
use Rattle.machine.proofs.Kept.{slot_keepable}
use Rattle.machine.proofs.Looking.{hart_there}
use Rattle.machine.proofs.seen.hart_among.Goals as goal

pub saved_hart-requires : goal.saved_hart-requires
saved_hart-requires c =
    let below : c.args.hart < length c.args.slots.now = search rules in
    slot_keepable c.args.tables c.args.slots.now c.args.hart c.index-slots-h.result below c.index-slots-h.is c.requires.addresses

pub returns : goal.returns
returns c =
    ap Some (c.saved_hart.ensures ∙ ap (λ t. kept_hart c.args.tables t (hw_at c.index-slots-h.result)) c.timer-timer.ensures)
    ∙ hart_there c.args.tables (timer_of c.args.devices.now.clock c.args.hart) c.args.slots.now c.args.hart c.index-slots-h.result c.if-h-slots.false c.index-slots-h.is
