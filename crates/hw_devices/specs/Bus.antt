-- What the code's names stand for, and what an answer of the bus leaves. This project's own.
use Rattle.std.specs.Prelude.{[], Option, Some, None}
use Rattle.sv_types.specs.Clock.{clock_at_boot}
use Rattle.spec_reference.specs.States.{Devices, Disk, Journal}
use Rattle.spec_reference.specs.Devices.{Port, ConsoleAt, DiskAt, Nowhere, DeviceLoad, DeviceStore}
use Rattle.hw_devices.specs.declared.ports.Place.{Place}

-- a device's place, as the definition names it
abbrev pub port_named : Place → Port
port_named (Place.Console offset) = ConsoleAt offset
port_named (Place.Disk offset) = DiskAt offset
port_named Place.Nowhere = Nowhere

-- no input waits, the disk stands as it is given, and time begins
abbrev pub devices_at_boot : Disk → Devices
devices_at_boot disk = record { console = []; disk = disk; clock = clock_at_boot }

-- the devices after a load, which change only where a register is there
abbrev pub devices_loaded : Devices → Option DeviceLoad → Devices
devices_loaded d None = d
devices_loaded d (Some l) = l.devices

-- the devices and the journal after a store
abbrev pub devices_stored : Devices → Option DeviceStore → Devices
devices_stored d None = d
devices_stored d (Some s) = s.devices

abbrev pub journal_stored : Journal → Option DeviceStore → Journal
journal_stored j None = j
journal_stored j (Some s) = s.journal
