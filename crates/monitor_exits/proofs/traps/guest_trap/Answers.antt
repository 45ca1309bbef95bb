use Rattle.std.proofs.Common.{refl}
use Rattle.spec_processor.specs.Traps.{is_interrupt, guest_number}
use Rattle.spec_hardware.specs.HwHarts.{hw_at_trap}
use Rattle.monitor_exits.specs.HwOfSlots.{hw_at}
use Rattle.monitor_exits.proofs.Places.{update_there}
use Rattle.monitor_exits.proofs.traps.guest_trap.Goals as goal

pub returns-in-Ok : goal.returns-in-Ok
returns-in-Ok c = record {
  machine = λ m same bound.
      rw (
        c.in-Ok.ensures.permitted m.rules same,
        update_there m.harts c.args.hart (hw_at c.args.slot.now) (hw_at_trap m.rules (is_interrupt c.args.trap.cause) (guest_number c.args.trap.cause) c.args.trap.tval),
        c.in-Ok.ensures.hart m.rules same bound,
        c.count_trap.ensures,
        c.mode-from.ensures,
      ) refl;
}
