-- The device as the code holds it, and what holds of it at each moment.
use Rattle.std.specs.Prelude.{◌≡◌, ℕ, ◌+◌, ◌-◌, ◌*◌, ◌%◌, ◌^◌, ◌<◌, ◌≤◌, true, false, if◌then◌else◌, List, [], ◌∷◌, ◌++◌, length, replicate}
use Rattle.std.specs.Prelude.{Option, Some, None, IfSome}
use Rattle.spec_processor.specs.Bytes.{page_size, ram_base, ram_offset}
use Rattle.spec_reference.specs.BlockDisk.{beat_size}
use Rattle.spec_reference.specs.VirtioDevice.{VirtioDevice, index_values, is_broken, max_places}
use Rattle.spec_reference.specs.VirtioQueue.{ring_header_size, available_entry_size, used_entry_size, used_word_size, ring_index_size}
use Rattle.spec_reference.specs.VirtioStores.{is_size, descriptors_alignment, available_alignment, used_alignment}
use Rattle.spec_reference.specs.VirtioChain.{descriptor_size, header_size, no_part, max_parts, header_of, least_parts}
use Rattle.spec_reference.specs.VirtioRequests.{bytes_in}
use Rattle.spec_reference.specs.VirtioStates.{last_place, part_at, data_left, disk_offset, moves_left, virtio_of}
use Rattle.sv_types.specs.declared.virtio.VirtioMove.{VirtioMove}
use Rattle.sv_types.specs.declared.virtio.VirtioPart.{VirtioPart}
use Rattle.sv_types.specs.declared.virtio.VirtioRequest.{VirtioRequest}
use Rattle.sv_types.specs.declared.virtio.VirtioState.{VirtioState}
use Rattle.sv_types.specs.declared.virtio.VirtioResult.{VirtioResult}
use Rattle.sv_types.specs.VirtioResults.{is_done}

pub record Held : Type 0 where
  pub state : VirtioState
  pub bytes : List ℕ

-- the device that is held
abbrev pub device_of : Held → VirtioDevice
device_of h = virtio_of h.state h.bytes

unfoldable pub state_at_reset : VirtioState
state_at_reset = record {
  device_select = 0;
  driver_select = 0;
  driver_low = 0;
  driver_high = 0;
  queue = 0;
  size = 0;
  ready = false;
  interrupt = 0;
  status = 0;
  descriptors = 0;
  available = 0;
  used = 0;
  accepted = 0;
  request = None;
}

-- ---- what holds at each moment

-- the moves after the data: the result, and three of the used ring
abbrev pub tail_moves : ℕ
tail_moves = 4

-- where a request stands in its chain
pub record IsPlaced (q : VirtioRequest) : Type 0 where
  pub parts : length q.parts ≡ max_parts
  pub least : least_parts ≤ q.count
  pub most : q.count ≤ max_parts
  pub begun : 1 ≤ q.part
  pub inside : q.part ≤ last_place q
  pub tail : q.tail ≤ tail_moves
  -- the last moves are made after all data's
  pub data_first : q.part < last_place q → q.tail ≡ 0
  -- no more bytes of a part are moved than it has
  pub offset : q.part < last_place q → q.offset ≤ (part_at q q.part).len
  pub at_end : q.part ≡ last_place q → q.offset ≡ 0
  -- places from the number of descriptors on are empty
  pub empty : (k : ℕ) → q.count ≤ k → part_at q k ≡ no_part
  -- the addresses of bytes don't wrap
  pub addresses : (k : ℕ) → q.part ≤ k → k < last_place q → 0 < (part_at q k).len → (part_at q k).gpa + (part_at q k).len < 2 ^ 63
  pub size_some : 1 ≤ q.size
  pub size_most : q.size ≤ max_places
  pub aligned : q.used % used_alignment ≡ 0
  pub used : q.used < 2 ^ 63

-- the data that is left lies on the disk
abbrev pub IsOnDisk : ℕ → VirtioRequest → Type 0
IsOnDisk disk_size q = q.part < last_place q → disk_offset q + bytes_in (data_left q) ≤ disk_size

-- the queue in use has a size and its three alignments; a request is in its chain and on the disk, and the device isn't broken
pub record IsSound (h : Held) : Type 0 where
  pub accepted : h.state.accepted < index_values
  pub size : h.state.ready ≡ true → is_size h.state.size ≡ true
  pub descriptors : h.state.ready ≡ true → h.state.descriptors % descriptors_alignment ≡ 0
  pub available : h.state.ready ≡ true → h.state.available % available_alignment ≡ 0
  pub used : h.state.ready ≡ true → h.state.used % used_alignment ≡ 0
  pub placed : IfSome h.state.request IsPlaced
  pub on_disk : IfSome h.state.request (IsOnDisk (length h.bytes))
  pub whole : IfSome h.state.request (λ q. is_broken (device_of h) ≡ false)

-- ---- the place in a chain, as moves are taken

-- another place in the chain for the same moves
pub record IsSame (before after : VirtioRequest) : Type 0 where
  pub moves : (accepted : ℕ) → moves_left accepted after ≡ moves_left accepted before
  pub disk : (disk_size : ℕ) → IsOnDisk disk_size before → IsOnDisk disk_size after
  pub others : after ≡ record before { part = after.part; offset = after.offset }

abbrev pub first_move : List VirtioMove → Option VirtioMove
first_move [] = None
first_move (move ∷ moves) = Some move

-- a move stays in a page, and on the disk
abbrev pub CanBeMade : ℕ → VirtioMove → Type 0
CanBeMade disk_size (VirtioMove.ToMemory gpa place size) = (size ≤ beat_size) × ((gpa % page_size + size ≤ page_size) × (place + size ≤ disk_size))
CanBeMade disk_size (VirtioMove.ToDisk gpa place size) = (size ≤ beat_size) × ((gpa % page_size + size ≤ page_size) × (place + size ≤ disk_size))
CanBeMade disk_size (VirtioMove.PutResult gpa) = gpa % page_size + 1 ≤ page_size
CanBeMade disk_size (VirtioMove.PutHead gpa head) = gpa % page_size + used_word_size ≤ page_size
CanBeMade disk_size (VirtioMove.PutLength gpa) = gpa % page_size + used_word_size ≤ page_size
CanBeMade disk_size (VirtioMove.PutIndex gpa index) = gpa % page_size + ring_index_size ≤ page_size

-- ---- the next request

-- the parts of a chain, with empty ones after them
abbrev pub padded_parts : List VirtioPart → List VirtioPart
padded_parts parts = parts ++ replicate (max_parts - length parts) no_part

-- the three parts of the queue lie in RAM
pub record HaveRings (d : VirtioDevice) (ram : List ℕ) : Type 0 where
  pub descriptors : ram_base ≤ d.descriptors
  pub descriptors_end : ram_offset d.descriptors + descriptor_size * d.size ≤ length ram
  pub available : ram_base ≤ d.available
  pub available_end : ram_offset d.available + (ring_header_size + available_entry_size * d.size) ≤ length ram
  pub used : ram_base ≤ d.used
  pub used_end : ram_offset d.used + (ring_header_size + used_entry_size * d.size) ≤ length ram

-- a request that is done as far as it was judged begins with its data, any other with its last moves
abbrev pub first_part : VirtioResult → (last : ℕ) → ℕ
first_part result last = if is_done result then 1 else last

-- the request that a chain asks for, at its first move
abbrev pub new_of : (head sector size used : ℕ) → VirtioResult → List VirtioPart → VirtioRequest
new_of head sector size used result parts = record {
  head = head;
  sector = sector;
  size = size;
  used = used;
  count = length parts;
  parts = padded_parts parts;
  part = first_part result (length parts - 1);
  offset = 0;
  tail = 0;
  result = result;
  written = 0;
}

-- a chain whose header lies in RAM
pub record HasHeader (ram : List ℕ) (parts : List VirtioPart) : Type 0 where
  pub few : least_parts ≤ length parts
  pub begins : ram_base ≤ (header_of parts).gpa
  pub ends : ram_offset (header_of parts).gpa + header_size ≤ length ram
