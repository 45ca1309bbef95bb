-- The virtio block device as data of a fixed size, with a place in a chain for the moves that are left, and the device that
-- it stands for. This project's own.
use Rattle.std.specs.Prelude.{ℕ, ◌+◌, ◌-◌, ◌*◌, List, [], ◌∷◌, ◌++◌, drop, get_or, option_map}
use Rattle.spec_reference.specs.BlockDisk.{sector_size}
use Rattle.sv_types.specs.declared.virtio.VirtioMove.{VirtioMove}
use Rattle.sv_types.specs.declared.virtio.VirtioPart.{VirtioPart}
use Rattle.sv_types.specs.declared.virtio.VirtioRequest.{VirtioRequest}
use Rattle.sv_types.specs.declared.virtio.VirtioState.{VirtioState}
use Rattle.spec_reference.specs.VirtioDevice.{VirtioDevice, Request}
use Rattle.spec_reference.specs.VirtioChain.{no_part, between}
use Rattle.spec_reference.specs.VirtioRequests.{bytes_in, data_moves, last_moves}

-- ---- the moves that are left of a request

-- data without the bytes of its first part that are moved
abbrev pub behind : ℕ → List VirtioPart → List VirtioPart
behind offset [] = []
behind offset (part ∷ parts) = record part { gpa = part.gpa + offset; len = part.len - offset } ∷ parts

-- the place of the result in the chain, after the data
abbrev pub last_place : VirtioRequest → ℕ
last_place q = q.count - 1

abbrev pub part_at : VirtioRequest → ℕ → VirtioPart
part_at q k = get_or q.parts k no_part

-- the data that is left
abbrev pub data_left : VirtioRequest → List VirtioPart
data_left q = behind q.offset (between q.parts q.part (last_place q))

-- where the next byte of data lies on the disk
abbrev pub disk_offset : VirtioRequest → ℕ
disk_offset q = sector_size * q.sector + (bytes_in (between q.parts 1 q.part) + q.offset)

abbrev pub last_left : ℕ → VirtioRequest → List VirtioMove
last_left accepted q = drop q.tail (last_moves (part_at q (last_place q)).gpa q.used q.size q.head accepted)

unfoldable pub moves_left : ℕ → VirtioRequest → List VirtioMove
moves_left accepted q = data_moves (disk_offset q) (data_left q) ++ last_left accepted q

abbrev pub request_of : ℕ → VirtioRequest → Request
request_of accepted q = record { moves = moves_left accepted q; result = q.result; written = q.written }

-- ---- the device

abbrev pub virtio_of : VirtioState → (bytes : List ℕ) → VirtioDevice
virtio_of s bytes = record {
  device_select = s.device_select;
  driver_select = s.driver_select;
  driver_low = s.driver_low;
  driver_high = s.driver_high;
  queue = s.queue;
  size = s.size;
  ready = s.ready;
  descriptors = s.descriptors;
  available = s.available;
  used = s.used;
  interrupt = s.interrupt;
  status = s.status;
  accepted = s.accepted;
  request = option_map (request_of s.accepted) s.request;
  bytes = bytes;
}
