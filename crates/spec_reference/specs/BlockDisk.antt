-- The block device: its registers and its beats, with one definition each for a load, a store, a beat and the line.
-- This project's own. It knows no machine: a beat is told RAM and which pages may be written.
use Rattle.std.specs.Prelude.{ℕ, ◌+◌, ◌*◌, ◌%◌, ◌^◌, Bool, true, false, not, ◌&&◌, List, length, ◌==◌, if◌then◌else◌, nat_le, nat_lt}
use Rattle.std.specs.Prelude.{Option, Some, None, option_map}
use Rattle.spec_processor.specs.Bytes.{part, overwrite, in_ram, ram_offset, page_of}
use Rattle.sv_types.specs.BlockNumbers.{sector_offset, address_offset, count_offset, command_offset, status_offset, command_of, status_number}
use Rattle.sv_types.specs.declared.block.BlockCommand.{BlockCommand}
use Rattle.sv_types.specs.declared.block.BlockState.{BlockState}
use Rattle.sv_types.specs.declared.block.BlockStatus.{BlockStatus}
use Rattle.spec_reference.specs.Move.{Move, Idle, FromRam, IntoRam, DeniedAt, OutsideRam}
use Rattle.spec_reference.specs.States.{BlockDevice}

-- ---- registers

pub data BlockRegister : Type 0 where
  Sector Address Count Command Status : BlockRegister

-- their offsets, and their widths in bytes
abbrev pub block_offset : BlockRegister → ℕ
block_offset Sector = sector_offset
block_offset Address = address_offset
block_offset Count = count_offset
block_offset Command = command_offset
block_offset Status = status_offset

abbrev pub block_width : BlockRegister → ℕ
block_width Sector = 8
block_width Address = 8
block_width Count = 4
block_width Command = 4
block_width Status = 4

abbrev pub is_register : ℕ → ℕ → BlockRegister → Bool
is_register offset width register = offset == block_offset register && width == block_width register

unfoldable pub block_register : ℕ → ℕ → Option BlockRegister
block_register offset width =
    if is_register offset width Sector then Some Sector
    else if is_register offset width Address then Some Address
    else if is_register offset width Count then Some Count
    else if is_register offset width Command then Some Command
    else if is_register offset width Status then Some Status
    else None

abbrev pub block_value : BlockState → BlockRegister → ℕ
block_value b Sector = b.sector
block_value b Address = b.gpa
block_value b Count = b.count
block_value b Command = 0
block_value b Status = status_number b.status

-- what a load gives; none where no register has that offset and width
unfoldable pub block_load : BlockDevice → ℕ → ℕ → Option ℕ
block_load d offset width = option_map (block_value d.block) (block_register offset width)

-- ---- stores

-- bytes of a sector, and of a beat
abbrev pub sector_size : ℕ
sector_size = 512

abbrev pub beat_size : ℕ
beat_size = 64

-- a transfer is under way
abbrev pub is_under_way : BlockStatus → Bool
is_under_way BlockStatus.Idle = false
is_under_way (BlockStatus.Busy command done) = true
is_under_way BlockStatus.Done = false
is_under_way BlockStatus.Denied = false
is_under_way BlockStatus.OutOfRange = false

abbrev pub is_busy : BlockState → Bool
is_busy b = is_under_way b.status

-- there are sectors, all on the disk, and the address is a multiple of a beat's bytes
abbrev pub can_begin : BlockState → ℕ → Bool
can_begin b disk_size = nat_lt 0 b.count && nat_le (sector_size * (b.sector + b.count)) disk_size && b.gpa % beat_size == 0

-- no transfer is under way any more
abbrev pub block_ended : BlockState → BlockStatus → BlockState
block_ended b status = record b { status = status }

-- a transfer begins, or is out of range; an unknown command is ignored
abbrev pub block_told : BlockState → ℕ → Option BlockCommand → BlockState
block_told b disk_size None = b
block_told b disk_size (Some command) =
    if can_begin b disk_size then record b { status = BlockStatus.Busy command 0 } else block_ended b BlockStatus.OutOfRange

abbrev pub after_command : BlockState → ℕ → ℕ → BlockState
after_command b disk_size number = block_told b disk_size (command_of number)

abbrev pub block_stored : BlockState → ℕ → BlockRegister → ℕ → BlockState
block_stored b disk_size Sector value = record b { sector = value }
block_stored b disk_size Address value = record b { gpa = value }
block_stored b disk_size Count value = record b { count = value }
block_stored b disk_size Command value = after_command b disk_size value
block_stored b disk_size Status value = block_ended b BlockStatus.Idle

-- all stores are ignored while a transfer is under way
abbrev pub unless_busy : BlockState → BlockState → BlockState
unless_busy b next = if is_busy b then b else next

-- the device after a store of the low bytes of a value; none where no register has that offset and width
unfoldable pub block_store : BlockDevice → (offset width value : ℕ) → Option BlockDevice
block_store d offset width value =
    option_map (λ k. record d { block = unless_busy d.block (block_stored d.block (length d.bytes) k (value % 256 ^ width)) }) (block_register offset width)

-- ---- the line

-- a transfer has ended
abbrev pub has_ended : BlockStatus → Bool
has_ended BlockStatus.Idle = false
has_ended (BlockStatus.Busy command done) = false
has_ended BlockStatus.Done = true
has_ended BlockStatus.Denied = true
has_ended BlockStatus.OutOfRange = true

unfoldable pub block_line : BlockDevice → Bool
block_line d = has_ended d.block.status

-- ---- beats

-- the device after a beat, and what it moved
pub record BlockBeat : Type 0 where
  pub device : BlockDevice
  pub move : Move

-- the beats that are done, and one more
abbrev pub beats_done : BlockStatus → ℕ
beats_done BlockStatus.Idle = 0
beats_done (BlockStatus.Busy command done) = done
beats_done BlockStatus.Done = 0
beats_done BlockStatus.Denied = 0
beats_done BlockStatus.OutOfRange = 0

abbrev pub one_further : BlockStatus → BlockStatus
one_further BlockStatus.Idle = BlockStatus.Idle
one_further (BlockStatus.Busy command done) = BlockStatus.Busy command (done + 1)
one_further BlockStatus.Done = BlockStatus.Done
one_further BlockStatus.Denied = BlockStatus.Denied
one_further BlockStatus.OutOfRange = BlockStatus.OutOfRange

-- the transfer under way goes from the disk to memory
abbrev pub is_to_memory : BlockStatus → Bool
is_to_memory BlockStatus.Idle = false
is_to_memory (BlockStatus.Busy BlockCommand.DiskToMemory done) = true
is_to_memory (BlockStatus.Busy BlockCommand.MemoryToDisk done) = false
is_to_memory BlockStatus.Done = false
is_to_memory BlockStatus.Denied = false
is_to_memory BlockStatus.OutOfRange = false

-- where the next beat goes: in memory, and on the disk
abbrev pub beat_gpa : BlockState → ℕ
beat_gpa b = b.gpa + beat_size * beats_done b.status

abbrev pub beat_place : BlockState → ℕ
beat_place b = sector_size * b.sector + beat_size * beats_done b.status

-- one beat is done; the last one ends the transfer
abbrev pub block_after_beat : BlockState → BlockState
block_after_beat b =
    if beat_size * (beats_done b.status + 1) == sector_size * b.count then block_ended b BlockStatus.Done
    else record b { status = one_further b.status }

abbrev pub transfer_ended : BlockDevice → BlockStatus → Move → BlockBeat
transfer_ended d status move = record { device = record d { block = block_ended d.block status }; move = move }

abbrev pub block_to_memory : BlockDevice → (ℕ → Bool) → BlockBeat
block_to_memory d may_write =
    if may_write (page_of (beat_gpa d.block))
    then record {
      device = record d { block = block_after_beat d.block };
      move = IntoRam (beat_gpa d.block) (part d.bytes (beat_place d.block) beat_size);
    }
    else transfer_ended d BlockStatus.Denied (DeniedAt (beat_gpa d.block))

abbrev pub block_to_disk : BlockDevice → List ℕ → BlockBeat
block_to_disk d ram = record {
  device = record {
    block = block_after_beat d.block;
    bytes = overwrite d.bytes (beat_place d.block) (part ram (ram_offset (beat_gpa d.block)) beat_size);
  };
  move = FromRam (beat_gpa d.block);
}

-- a beat, where `may_write` tests pages of RAM. RAM may be read everywhere
unfoldable pub block_beat : BlockDevice → List ℕ → (ℕ → Bool) → BlockBeat
block_beat d ram may_write =
    if not (is_busy d.block) then record { device = d; move = Idle }
    else if not (in_ram ram (beat_gpa d.block) beat_size) then transfer_ended d BlockStatus.OutOfRange OutsideRam
    else if is_to_memory d.block.status then block_to_memory d may_write
    else block_to_disk d ram
