use Rattle.std.proofs.Common.{◌∙◌, sym}
use Rattle.spec_reference.specs.Devices.{device_store}
use Rattle.monitor_exits.specs.HwOfSlots.{hw_at}
use Rattle.page_guard.specs.Privileges.{mode_of}
use Rattle.monitor_exits.proofs.DeviceAnswers.{stored_there, not_stored}
use Rattle.monitor_exits.proofs.device_accesses.device_store.Goals as goal

pub returns-then-store : goal.returns-then-store
returns-then-store c = record {
  machine = λ m same bound.
      rw (c.pass.ensures.hart c.args.slot.now.privilege, c.count_retired.ensures, c.store.ensures.devices, c.store.ensures.journal)
      (stored_there m c.args.hart (hw_at c.args.slot.now) (mode_of c.args.slot.now.privilege) c.args.store.address
      c.args.devices.now c.args.journal.now
      (device_store c.args.devices.now c.args.journal.now c.args.store.gpa c.args.store.width c.args.store.value)
      (sym c.store.ensures.found ∙ c.if-store.true));
}

pub returns-else-store : goal.returns-else-store
returns-else-store c = record {
  machine = λ m same bound.
      c.guest_trap.ensures.machine (record m { devices = c.store.new.self }) same bound
      ∙ rw (c.access_fault-fault.ensures, c.store.ensures.devices, c.store.ensures.journal)
      (not_stored m c.args.hart (hw_at c.args.slot.now) (mode_of c.args.slot.now.privilege) c.args.store.address
      c.args.devices.now c.args.journal.now
      (device_store c.args.devices.now c.args.journal.now c.args.store.gpa c.args.store.width c.args.store.value)
      (sym c.store.ensures.found ∙ c.if-store.false));
}
