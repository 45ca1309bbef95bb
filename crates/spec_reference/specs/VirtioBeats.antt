-- A beat: one move of the request under way, or a look for the next request. VIRTIO 1.2, "Split Virtqueues" and "Device
-- Operation" of the block device; that a beat moves so few bytes (`beat_size`) is this project's own. The chain is read at the
-- beat that accepts it, and every other word at the beat that reads it. A beat is told RAM and which pages may be written.
use Rattle.std.specs.Prelude.{ℕ, ◌+◌, ◌%◌, ◌^◌, Bool, true, false, not, ◌&&◌, ◌==◌, bit_or, List, [], ◌∷◌, ◌++◌, length, filter, nat_lt}
use Rattle.std.specs.Prelude.{if◌then◌else◌, Option, Some, None}
use Rattle.spec_processor.specs.Bytes.{part, overwrite, low_bytes, in_ram, ram_offset, page_of}
use Rattle.spec_reference.specs.Move.{Move, Idle, FromRam, IntoRam, DeniedAt, OutsideRam}
use Rattle.spec_reference.specs.VirtioDevice.{VirtioDevice, Request, driver_ok, is_broken, index_values, request_done, state_changed}
use Rattle.spec_reference.specs.VirtioStores.{needs_reset}
use Rattle.spec_reference.specs.VirtioQueue.{rings_in_ram, available_index, next_head, waiting_count, used_word_size, ring_index_size}
use Rattle.spec_reference.specs.VirtioChain.{chain, max_parts, is_good_chain, data_of, result_of}
use Rattle.spec_reference.specs.VirtioRequests.{type_of, sector_of, result_by, moves_by, last_moves}
use Rattle.sv_types.specs.declared.virtio.VirtioMove.{VirtioMove}
use Rattle.sv_types.specs.declared.virtio.VirtioPart.{VirtioPart}
use Rattle.sv_types.specs.declared.virtio.VirtioResult.{VirtioResult}
use Rattle.sv_types.specs.VirtioResults.{result_number}

-- the device after a beat, and what it moved
pub record VirtioBeat : Type 0 where
  pub device : VirtioDevice
  pub move : Move

abbrev pub nothing : VirtioDevice → VirtioBeat
nothing d = record { device = d; move = Idle }

-- the device is broken until its reset, which the driver is told by an interrupt; no request is under way any more
abbrev pub broken_beat : VirtioDevice → Move → VirtioBeat
broken_beat d move = record {
  device = record d { status = bit_or d.status needs_reset; interrupt = bit_or d.interrupt state_changed; request = None };
  move = move;
}

-- ---- moves

abbrev pub with_request : VirtioDevice → Request → VirtioDevice
with_request d q = record d { request = Some q }

abbrev pub is_last : VirtioMove → Bool
is_last (VirtioMove.ToMemory gpa place size) = false
is_last (VirtioMove.ToDisk gpa place size) = false
is_last _ = true

-- a request whose data may not be written makes its last moves alone
abbrev pub last_moves_alone : Request → Request
last_moves_alone q = record q { moves = filter is_last q.moves; result = VirtioResult.Failed }

abbrev pub with_written : Request → ℕ → Request
with_written q size = record q { written = (q.written + size) % 2 ^ 32 }

-- bytes of the disk into memory
unfoldable pub to_memory : VirtioDevice → Request → (gpa place size : ℕ) → List ℕ → (ℕ → Bool) → VirtioBeat
to_memory d q gpa place size ram may_write =
    if not (in_ram ram gpa size) then broken_beat d OutsideRam
    else if may_write (page_of gpa)
    then record { device = with_request d (with_written q size); move = IntoRam gpa (part d.bytes place size) }
    else record { device = with_request d (last_moves_alone q); move = DeniedAt gpa }

-- bytes of memory onto the disk
unfoldable pub to_disk : VirtioDevice → Request → (gpa place size : ℕ) → List ℕ → VirtioBeat
to_disk d q gpa place size ram =
    if not (in_ram ram gpa size) then broken_beat d OutsideRam
    else record {
      device = record d { request = Some q; bytes = overwrite d.bytes place (part ram (ram_offset gpa) size) };
      move = FromRam gpa;
    }

-- one of the last moves writes bytes, or breaks the device
unfoldable pub put_last : VirtioDevice → VirtioDevice → ℕ → List ℕ → List ℕ → (ℕ → Bool) → VirtioBeat
put_last d next gpa bytes ram may_write =
    if not (in_ram ram gpa (length bytes)) then broken_beat d OutsideRam
    else if may_write (page_of gpa) then record { device = next; move = IntoRam gpa bytes }
    else broken_beat d (DeniedAt gpa)

-- the request is done, which the driver is told by an interrupt
abbrev pub finish_request : VirtioDevice → VirtioDevice
finish_request d = record d { request = None; interrupt = bit_or d.interrupt request_done }

-- a move, where the request has the moves after it
unfoldable pub make : VirtioDevice → Request → VirtioMove → List ℕ → (ℕ → Bool) → VirtioBeat
make d q (VirtioMove.ToMemory gpa place size) ram may_write = to_memory d q gpa place size ram may_write
make d q (VirtioMove.ToDisk gpa place size) ram may_write = to_disk d q gpa place size ram
make d q (VirtioMove.PutResult gpa) ram may_write = put_last d (with_request d q) gpa (low_bytes 1 (result_number q.result)) ram may_write
make d q (VirtioMove.PutHead gpa head) ram may_write = put_last d (with_request d q) gpa (low_bytes used_word_size head) ram may_write
make d q (VirtioMove.PutLength gpa) ram may_write = put_last d (with_request d q) gpa (low_bytes used_word_size (q.written + 1)) ram may_write
make d q (VirtioMove.PutIndex gpa index) ram may_write = put_last d (finish_request d) gpa (low_bytes ring_index_size index) ram may_write

-- the first of the moves that are left
abbrev pub make_first : VirtioDevice → Request → List VirtioMove → List ℕ → (ℕ → Bool) → VirtioBeat
make_first d q [] ram may_write = nothing d
make_first d q (move ∷ moves) ram may_write = make d (record q { moves = moves }) move ram may_write

-- ---- the next request

-- the request that a chain asks for, as the device accepts it
abbrev pub request_by : VirtioResult → (sector : ℕ) → VirtioDevice → (head accepted : ℕ) → List VirtioPart → Request
request_by result sector d head accepted parts = record {
  moves = moves_by result sector (data_of parts) ++ last_moves (result_of parts).gpa d.used d.size head accepted;
  result = result;
  written = 0;
}

abbrev pub next_beat_count : VirtioDevice → ℕ
next_beat_count d = (d.accepted + 1) % index_values

abbrev pub result_in : VirtioDevice → List ℕ → List VirtioPart → VirtioResult
result_in d ram parts = result_by ram (length d.bytes) (type_of ram parts) (sector_of ram parts) (data_of parts)

unfoldable pub accept_request : VirtioDevice → List ℕ → (head : ℕ) → List VirtioPart → VirtioDevice
accept_request d ram head parts = record d {
  accepted = next_beat_count d;
  request = Some (request_by (result_in d ram parts) (sector_of ram parts) d head (next_beat_count d) parts);
}

unfoldable pub accept : VirtioDevice → List ℕ → (head : ℕ) → Option (List VirtioPart) → VirtioBeat
accept d ram head None = broken_beat d OutsideRam
accept d ram head (Some parts) =
    if is_good_chain ram parts then record { device = accept_request d ram head parts; move = Idle } else broken_beat d OutsideRam

-- a head that isn't in the table has no chain
unfoldable pub look : VirtioDevice → List ℕ → VirtioBeat
look d ram =
    if not (rings_in_ram d ram) then broken_beat d OutsideRam
    else if available_index d ram == d.accepted then nothing d
    else if nat_lt d.size (waiting_count d ram) then broken_beat d OutsideRam
    else accept d ram (next_head d ram) (chain max_parts ram (ram_offset d.descriptors) d.size (next_head d ram))

-- ---- beats

abbrev pub go_on : VirtioDevice → Option Request → List ℕ → (ℕ → Bool) → VirtioBeat
go_on d None ram may_write = look d ram
go_on d (Some q) ram may_write = make_first d q q.moves ram may_write

-- the driver is ready, the queue in use, and the device not broken
abbrev pub is_live : VirtioDevice → Bool
is_live d = driver_ok d && d.ready && not (is_broken d)

unfoldable pub virtio_beat : VirtioDevice → List ℕ → (ℕ → Bool) → VirtioBeat
virtio_beat d ram may_write = if is_live d then go_on d d.request ram may_write else nothing d
