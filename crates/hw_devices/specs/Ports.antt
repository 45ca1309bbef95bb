-- The disk that a port stands for, and what holds of its device at each moment. This project's own.
use Rattle.std.specs.Prelude.{ℕ, List}
use Rattle.spec_reference.specs.States.{Disk, BlockDisk, VirtioDisk}
use Rattle.sv_types.specs.declared.port.PortState.{PortState}
use Rattle.virtio_blk.specs.Held.{device_of, IsSound as IsSoundVirtio}
use Rattle.hw_devices.specs.BlockRegisters.{IsSound as IsSoundBlock}
use Rattle.hw_devices.specs.declared.disk_port.Port.{Port}

abbrev pub port_disk : Port → Disk
port_disk (Port.Block device) = BlockDisk device
port_disk (Port.Virtio device) = VirtioDisk (device_of device)

-- a transfer or a request under way is one that the device began, and lies on the disk
abbrev pub IsSoundPort : PortState → (bytes : List ℕ) → Type 0
IsSoundPort (PortState.Block block) bytes = IsSoundBlock (record { block = block; bytes = bytes })
IsSoundPort (PortState.Virtio state) bytes = IsSoundVirtio (record { state = state; bytes = bytes })
