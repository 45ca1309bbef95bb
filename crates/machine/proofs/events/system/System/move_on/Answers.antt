use Rattle.std.proofs.Common.{◌≡◌, ◌∙◌, ap, subst, slice_get, slice_set, arith}
use Rattle.spec_reference.specs.States.{Journal}
use Rattle.spec_hardware.specs.Machine.{Machine}
use Rattle.monitor_exits.specs.HwOfSlots.{hw_harts_of}
use Rattle.secvisor_core.specs.Visors.{machine_of}
use Rattle.laws_simulation.specs.HwPassing.{hw_moved_on}
use Rattle.machine.proofs.Passings.{slot_moved, machine_moved, machine_stays, slots_below, slots_above}
use Rattle.machine.proofs.events.system.System.move_on.Goals as goal

pub returns-then-hart-len : goal.returns-then-hart-len
returns-then-hart-len c =
    let number = c.len.ensures in
    let above = c.if-hart-len.true in
    subst (λ (m : Machine). m ≡ hw_moved_on m c.args.hart (slice_get m.harts c.args.hart)) c.self.view_is
    (machine_stays (machine_of c.self.inside.visor c.self.inside.hardware c.self.inside.journal) c.args.hart
    (slots_above c.self.inside.hardware.slots.items c.args.hart (omega (arith, number, above))))

pub returns : goal.returns
returns c =
    let number = c.len.ensures in
    let below = c.if-hart-len.false in
    let machine : Machine = machine_of c.self.inside.visor c.self.inside.hardware c.self.inside.journal in
    let moved = hw_harts_of (slice_set c.self.inside.hardware.slots.items c.args.hart c.move_slot_on.new.slot) in
    subst (λ (m : Machine). record machine { harts = moved; journal = c.run_on.new.self } ≡ hw_moved_on m c.args.hart (slice_get m.harts c.args.hart)) c.self.view_is
    (ap (λ (j : Journal). record machine { harts = moved; journal = j }) c.run_on.ensures
    ∙ machine_moved machine c.args.hart moved
    (slot_moved c.self.inside.hardware.slots.items c.args.hart c.index_mut.result.now c.move_slot_on.new.slot c.index_mut.ensures.value c.move_slot_on.ensures)
    (slots_below c.self.inside.hardware.slots.items c.args.hart (omega (arith, number, below))))
