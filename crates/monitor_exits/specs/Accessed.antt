-- A machine, whatever its other parts are, with one hart, the devices and the journal put in. This project's own.
use Rattle.std.specs.Prelude.{ℕ}
use Rattle.spec_reference.specs.States.{Devices, Journal}
use Rattle.spec_hardware.specs.Machine.{Machine, HwHart}
use Rattle.monitor_exits.specs.Answered.{with_hart}

abbrev pub with_devices : Machine → ℕ → HwHart → Devices → Journal → Machine
with_devices m h hw devices journal = record (with_hart m h hw journal) { devices = devices }
