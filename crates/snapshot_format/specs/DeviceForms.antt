-- The forms of the devices: the console's input, the device that the disk is behind, and the disk. This project's own.
use Rattle.std.specs.Prelude.{ℕ, Option, Some, None, is_some, ◌+◌, ◌*◌, ◌/◌, ◌%◌, ◌^◌, List, Bool, true, false, not, ◌&&◌, ◌||◌, nat_lt}
use Rattle.std.specs.Prelude.{nat_le, ◌==◌, if◌then◌else◌}
use Rattle.sv_types.specs.Console.{max_queued}
use Rattle.sv_types.specs.Limits.{max_disk_bytes}
use Rattle.spec_reference.specs.BlockDisk.{is_busy, beats_done, beat_size, sector_size}
use Rattle.snapshot_format.specs.Forms.{Form, number, within, and_then, ◌⨾◌, map_form, always, counted_bytes}
use Rattle.sv_types.specs.BlockNumbers.{command_number, command_of, status_number}
use Rattle.sv_types.specs.declared.block.BlockCommand.{BlockCommand}
use Rattle.sv_types.specs.declared.block.BlockState.{BlockState}
use Rattle.sv_types.specs.declared.block.BlockStatus.{BlockStatus}
use Rattle.sv_types.specs.declared.port.PortState.{PortState}
use Rattle.sv_types.specs.declared.virtio.VirtioState.{VirtioState}
use Rattle.spec_reference.specs.Start.{block_at_boot}
use Rattle.snapshot_format.specs.VirtioForms.{virtio, holds_data}
use Rattle.snapshot_format.specs.declared.whole.PortKind.{PortKind}
use Rattle.snapshot_format.specs.declared.whole.PortKind.TheVariants.{Block, Virtio}

-- no more than the console keeps
unfoldable pub console : Form (List ℕ)
console = counted_bytes (λ n. nat_le n max_queued)

-- ---- the block device

-- the status of a transfer under way, whichever it is
abbrev pub busy : ℕ
busy = status_number (BlockStatus.Busy BlockCommand.DiskToMemory 0)

-- a transfer under way has a command that was taken, and beats left; else there is neither
abbrev pub goes_with : (gpa count command status : ℕ) → Bool
goes_with gpa count command status =
    if status == busy
    then is_some (command_of command) && nat_lt 0 count && gpa % beat_size == 0
    else nat_le status (status_number BlockStatus.OutOfRange) && command == 0

abbrev pub beats_of : ℕ → ℕ
beats_of count = sector_size / beat_size * count

abbrev pub has_beats : (count status beats : ℕ) → Bool
has_beats count status beats = if status == busy then nat_lt beats (beats_of count) else beats == 0

-- command, status, beats that are done
abbrev pub StatusParts : Type 0
StatusParts = ℕ × (ℕ × ℕ)

unfoldable pub transfer : (gpa count : ℕ) → Form StatusParts
transfer gpa count =
    and_then (within (λ n. nat_le n (command_number BlockCommand.MemoryToDisk)) number) (λ command.
    and_then (within (goes_with gpa count command) number) (λ now. within (has_beats count now) number))

-- a status from its parts, and its parts: 0 is the command where no transfer is under way
abbrev pub status_by : Option BlockCommand → StatusParts → BlockStatus
status_by (Some command) x = BlockStatus.Busy command x.1.1
status_by None x =
    if x.1.0 == status_number BlockStatus.Done then BlockStatus.Done
    else if x.1.0 == status_number BlockStatus.Denied then BlockStatus.Denied
    else if x.1.0 == status_number BlockStatus.OutOfRange then BlockStatus.OutOfRange
    else BlockStatus.Idle

abbrev pub status_of : StatusParts → BlockStatus
status_of x = status_by (command_of x.0) x

abbrev pub command_under_way : BlockStatus → ℕ
command_under_way BlockStatus.Idle = 0
command_under_way (BlockStatus.Busy command done) = command_number command
command_under_way BlockStatus.Done = 0
command_under_way BlockStatus.Denied = 0
command_under_way BlockStatus.OutOfRange = 0

abbrev pub status_parts : BlockStatus → StatusParts
status_parts status = (command_under_way status, (status_number status, beats_done status))

unfoldable pub standing_status : (gpa count : ℕ) → Form BlockStatus
standing_status gpa count = map_form status_of status_parts always (transfer gpa count)

-- a number of 32 bits
abbrev pub sectors : Form ℕ
sectors = within (λ n. nat_lt n (2 ^ 32)) number

-- sector, address, count, and how the device stands
abbrev pub BlockParts : Type 0
BlockParts = ℕ × (ℕ × (ℕ × BlockStatus))

abbrev pub block_of : BlockParts → BlockState
block_of x = record {
  sector = x.0;
  gpa = x.1.0;
  count = x.1.1.0;
  status = x.1.1.1;
}

abbrev pub block_parts : BlockState → BlockParts
block_parts b = (b.sector, (b.gpa, (b.count, b.status)))

unfoldable pub block : Form BlockState
block =
    map_form block_of block_parts always
    (number ⨾ and_then number (λ gpa. and_then sectors (standing_status gpa)))

-- ---- the device that the disk is behind, of the kind that the beginning tells

abbrev pub kind_of : PortState → PortKind
kind_of (PortState.Block b) = Block
kind_of (PortState.Virtio v) = Virtio

abbrev pub is_block : PortState → Bool
is_block (PortState.Block b) = true
is_block (PortState.Virtio v) = false

abbrev pub block_in : PortState → BlockState
block_in (PortState.Block b) = b
block_in (PortState.Virtio v) = block_at_boot

abbrev pub no_virtio : VirtioState
no_virtio = record {
  device_select = 0;
  driver_select = 0;
  driver_low = 0;
  driver_high = 0;
  queue = 0;
  size = 0;
  ready = false;
  interrupt = 0;
  status = 0;
  descriptors = 0;
  available = 0;
  used = 0;
  accepted = 0;
  request = None;
}

abbrev pub virtio_in : PortState → VirtioState
virtio_in (PortState.Block b) = no_virtio
virtio_in (PortState.Virtio v) = v

unfoldable pub port : PortKind → Form PortState
port Block = map_form PortState.Block block_in is_block block
port Virtio = map_form PortState.Virtio virtio_in (λ p. not (is_block p)) virtio

-- ---- the disk

-- the sectors of a transfer, or the data of a request, lie on it
abbrev pub lies_on : PortState → ℕ → Bool
lies_on (PortState.Block b) n = not (is_busy b) || nat_le (b.sector + b.count) (n / sector_size)
lies_on (PortState.Virtio v) n = holds_data v.request n

-- whole sectors
abbrev pub holds_disk : PortState → ℕ → Bool
holds_disk p n = nat_le n max_disk_bytes && n % sector_size == 0 && lies_on p n

unfoldable pub disk : PortState → Form (List ℕ)
disk p = counted_bytes (holds_disk p)

abbrev pub Devices : Type 0
Devices = List ℕ × (PortState × List ℕ)

unfoldable pub devices : PortKind → Form Devices
devices kind = console ⨾ and_then (port kind) disk
