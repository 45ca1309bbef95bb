use Rattle.std.proofs.Common.{◌∙◌, sym}
use Rattle.spec_reference.specs.Devices.{device_load}
use Rattle.monitor_exits.specs.HwOfSlots.{hw_at}
use Rattle.page_guard.specs.Privileges.{mode_of}
use Rattle.monitor_exits.proofs.DeviceAnswers.{loaded_there, not_loaded}
use Rattle.monitor_exits.proofs.device_accesses.device_load.Goals as goal

pub returns-in-Some : goal.returns-in-Some
returns-in-Some c = record {
  machine = λ m same bound.
      rw (c.set.ensures.hart c.args.slot.now.privilege, c.count_retired.ensures, c.loaded_value-value.ensures, c.load.ensures.devices)
      (loaded_there m c.args.hart (hw_at c.args.slot.now) (mode_of c.args.slot.now.privilege) c.args.load.rd c.args.load.address
      c.args.load.width c.args.load.signed c.args.devices.now c.args.journal.now
      (device_load c.args.devices.now c.args.load.gpa c.args.load.width) c.in-Some.value
      (sym c.load.ensures.value ∙ c.in-Some.is));
}

pub returns-in-None : goal.returns-in-None
returns-in-None c = record {
  machine = λ m same bound.
      c.guest_trap.ensures.machine (record m { devices = c.load.new.self }) same bound
      ∙ rw (c.access_fault-fault.ensures, c.load.ensures.devices)
      (not_loaded m c.args.hart (hw_at c.args.slot.now) (mode_of c.args.slot.now.privilege) c.args.load.rd c.args.load.address
      c.args.load.width c.args.load.signed c.args.devices.now c.args.journal.now
      (device_load c.args.devices.now c.args.load.gpa c.args.load.width)
      (sym c.load.ensures.value ∙ c.in-None.is));
}
