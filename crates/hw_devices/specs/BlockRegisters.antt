-- The registers as the code names them, and what holds of the device at each moment.
use Rattle.std.specs.Prelude.{◌≡◌, ℕ, ◌+◌, ◌*◌, ◌%◌, ◌<◌, ◌≤◌, Bool, not, if◌then◌else◌, List, length, true}
use Rattle.spec_processor.specs.Bytes.{in_ram}
use Rattle.sv_types.specs.declared.block.BlockStatus.{BlockStatus}
use Rattle.spec_reference.specs.States.{BlockDevice}
use Rattle.spec_reference.specs.Start.{block_at_boot}
use Rattle.spec_reference.specs.BlockDisk.{BlockRegister, block_width, Sector, Address, Count, Command, Status, beat_size, sector_size}
use Rattle.spec_reference.specs.BlockDisk.{is_busy, beats_done, beat_gpa, BlockBeat, transfer_ended, block_to_memory, block_to_disk}
use Rattle.spec_reference.specs.Move.{OutsideRam}
use Rattle.hw_devices.specs.declared.block.registers.Register.{Register}

abbrev pub register_named : Register → BlockRegister
register_named Register.Sector = Sector
register_named Register.Address = Address
register_named Register.Count = Count
register_named Register.Command = Command
register_named Register.Status = Status

abbrev pub width_of : Register → ℕ
width_of register = block_width (register_named register)

-- a transfer under way begins at a multiple of a beat's bytes, has beats left, and lies on the disk
pub record IsSound (d : BlockDevice) : Type 0 where
  pub aligned : is_busy d.block ≡ true → d.block.gpa % beat_size ≡ 0
  pub left : is_busy d.block ≡ true → beat_size * beats_done d.block.status < sector_size * d.block.count
  pub inside : is_busy d.block ≡ true → sector_size * (d.block.sector + d.block.count) ≤ length d.bytes

-- an idle device with a disk
abbrev pub idle_disk : List ℕ → BlockDevice
idle_disk bytes = record { block = block_at_boot; bytes = bytes }

-- a beat of each command, where a transfer is under way
abbrev pub beat_to_memory : BlockDevice → List ℕ → (ℕ → Bool) → BlockBeat
beat_to_memory d ram may_write =
    if not (in_ram ram (beat_gpa d.block) beat_size) then transfer_ended d BlockStatus.OutOfRange OutsideRam else block_to_memory d may_write

abbrev pub beat_to_disk : BlockDevice → List ℕ → BlockBeat
beat_to_disk d ram =
    if not (in_ram ram (beat_gpa d.block) beat_size) then transfer_ended d BlockStatus.OutOfRange OutsideRam else block_to_disk d ram
