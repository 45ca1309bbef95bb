-- The form of the virtio block device: its registers, and the request under way with its place in its chain. VIRTIO 1.2, "MMIO
-- Device Register Layout", "Split Virtqueues" and "Block Device"; the order of the values is this project's own.
use Rattle.std.specs.Prelude.{ℕ, ◌+◌, ◌-◌, ◌*◌, ◌%◌, ◌^◌, List, [], length, get_or, Bool, true, false, not, ◌&&◌, ◌||◌, Option, Some, None, is_some}
use Rattle.std.specs.Prelude.{nat_lt, nat_le, ◌==◌, if◌then◌else◌}
use Rattle.spec_processor.specs.Bits.{bit}
use Rattle.spec_reference.specs.BlockDisk.{sector_size}
use Rattle.spec_reference.specs.VirtioChain.{between, least_parts, max_parts, no_part}
use Rattle.spec_reference.specs.VirtioDevice.{index_values, max_places, needs_reset_bit}
use Rattle.spec_reference.specs.VirtioRequests.{bytes_in}
use Rattle.spec_reference.specs.VirtioStores.{available_alignment, descriptors_alignment, is_size, used_alignment}
use Rattle.snapshot_format.specs.Forms.{Form, number, nothing, within, and_then, ◌⨾◌, map_form, always, list_form}
use Rattle.snapshot_format.specs.HartForms.{flag}
use Rattle.snapshot_format.specs.PageForms.{some_or}
use Rattle.sv_types.specs.Policies.{is_between}
use Rattle.sv_types.specs.VirtioResults.{result_number}
use Rattle.sv_types.specs.declared.virtio.VirtioPart.{VirtioPart}
use Rattle.sv_types.specs.declared.virtio.VirtioRequest.{VirtioRequest}
use Rattle.sv_types.specs.declared.virtio.VirtioResult.{VirtioResult}
use Rattle.sv_types.specs.declared.virtio.VirtioState.{VirtioState}

-- a register of 32 bits
unfoldable pub register : Form ℕ
register = within (λ n. nat_lt n (2 ^ 32)) number

-- an index of a ring, and a head
unfoldable pub ring_index : Form ℕ
ring_index = within (λ n. nat_lt n index_values) number

-- ---- the registers

-- which features are read and which written, the features that were taken, the queue and its size
abbrev pub Selection : Type 0
Selection = ℕ × (ℕ × (ℕ × (ℕ × (ℕ × ℕ))))

unfoldable pub selection : Form Selection
selection = register ⨾ (register ⨾ (register ⨾ (register ⨾ (register ⨾ register))))

abbrev pub size_in : Selection → ℕ
size_in x = x.1.1.1.1.1

-- a queue in use has a size
unfoldable pub in_use : (size : ℕ) → Form Bool
in_use size = within (λ ready. not ready || is_size size) flag

-- a part of a queue in use is aligned
abbrev pub is_aligned : (ready : Bool) → (size n : ℕ) → Bool
is_aligned ready size n = not ready || n % size == 0

unfoldable pub aligned : (ready : Bool) → (size : ℕ) → Form ℕ
aligned ready size = within (is_aligned ready size) number

-- interrupt, status, the three parts of the queue, and the number of accepted requests
abbrev pub Queue : Type 0
Queue = ℕ × (ℕ × (ℕ × (ℕ × (ℕ × ℕ))))

unfoldable pub queue : (ready : Bool) → Form Queue
queue ready =
    register
    ⨾ (register ⨾ (aligned ready descriptors_alignment ⨾ (aligned ready available_alignment ⨾ (aligned ready used_alignment ⨾ ring_index))))

abbrev pub status_in : Queue → ℕ
status_in x = x.1.0

-- ---- the request: what was accepted

-- an aligned ring, whose addresses don't wrap
abbrev pub is_ring : ℕ → Bool
is_ring n = n % used_alignment == 0 && nat_lt n (2 ^ 63)

-- head, first sector, the queue's size and the used ring as they were then, and the number of descriptors
abbrev pub Accepted : Type 0
Accepted = ℕ × (ℕ × (ℕ × (ℕ × ℕ)))

unfoldable pub accepted : Form Accepted
accepted =
    ring_index
    ⨾ (number ⨾ (within (is_between 1 max_places) number ⨾ (within is_ring number ⨾ within (is_between least_parts max_parts) number)))

abbrev pub count_in : Accepted → ℕ
count_in x = x.1.1.1.1

-- ---- its chain, and the place in it

-- a descriptor of data is reached, or the result, which stands last
unfoldable pub place_reached : (count : ℕ) → Form ℕ
place_reached count = within (is_between 1 (count - 1)) number

-- data is left from the descriptor on that is reached
abbrev pub is_left : (count reached place : ℕ) → Bool
is_left count reached place = nat_le reached place && nat_lt place (count - 1)

-- the addresses of data that is left don't wrap, and places from the number of descriptors on are empty
abbrev pub may_stand : (count reached place : ℕ) → VirtioPart → Bool
may_stand count reached place part =
    if nat_lt place count
    then not (is_left count reached place && nat_lt 0 part.len) || nat_lt (part.gpa + part.len) (2 ^ 63)
    else part.gpa == 0 && part.len == 0 && not part.write

abbrev pub part_of : ℕ × (ℕ × Bool) → VirtioPart
part_of x = record { gpa = x.0; len = x.1.0; write = x.1.1 }

abbrev pub part_parts : VirtioPart → ℕ × (ℕ × Bool)
part_parts p = (p.gpa, (p.len, p.write))

-- address, length, and whether the device writes it
unfoldable pub descriptor : Form VirtioPart
descriptor = map_form part_of part_parts always (number ⨾ (register ⨾ flag))

unfoldable pub next_descriptor : (count reached : ℕ) → List VirtioPart → Form VirtioPart
next_descriptor count reached before = within (may_stand count reached (length before)) descriptor

-- as many as a chain may have
unfoldable pub descriptors : (count reached : ℕ) → Form (List VirtioPart)
descriptors count reached = list_form (next_descriptor count reached) [] max_parts

-- ---- what is done of it

abbrev pub result_of : ℕ → VirtioResult
result_of n =
    if n == result_number VirtioResult.Done then VirtioResult.Done
    else if n == result_number VirtioResult.Failed then VirtioResult.Failed
    else VirtioResult.Unsupported

unfoldable pub result_form : Form VirtioResult
result_form = map_form result_of result_number always (within (λ n. nat_le n (result_number VirtioResult.Unsupported)) number)

-- no more bytes are moved than the descriptor has
abbrev pub may_be_moved : (count reached : ℕ) → List VirtioPart → ℕ → Bool
may_be_moved count reached parts n = if nat_lt reached (count - 1) then nat_le n (get_or parts reached no_part).len else n == 0

-- the last four moves are made after all data's
abbrev pub may_be_made : (count reached : ℕ) → ℕ → Bool
may_be_made count reached n = if nat_lt reached (count - 1) then n == 0 else nat_le n 4

-- the bytes that are moved of the descriptor reached, how many of the last moves are made, the result, and the written bytes
abbrev pub Progress : Type 0
Progress = ℕ × (ℕ × (VirtioResult × ℕ))

unfoldable pub progress : (count reached : ℕ) → List VirtioPart → Form Progress
progress count reached parts =
    within (may_be_moved count reached parts) register ⨾ (within (may_be_made count reached) number ⨾ (result_form ⨾ register))

-- ---- the request

abbrev pub RequestParts : Type 0
RequestParts = Accepted × (ℕ × (List VirtioPart × Progress))

abbrev pub request_of : RequestParts → VirtioRequest
request_of x = record {
  head = x.0.0;
  sector = x.0.1.0;
  size = x.0.1.1.0;
  used = x.0.1.1.1.0;
  count = x.0.1.1.1.1;
  parts = x.1.1.0;
  part = x.1.0;
  offset = x.1.1.1.0;
  tail = x.1.1.1.1.0;
  result = x.1.1.1.1.1.0;
  written = x.1.1.1.1.1.1;
}

abbrev pub request_parts : VirtioRequest → RequestParts
request_parts q = (
  (q.head, (q.sector, (q.size, (q.used, q.count)))),
  (q.part, (q.parts, (q.offset, (q.tail, (q.result, q.written))))),
)

unfoldable pub request_form : Form VirtioRequest
request_form =
    map_form request_of request_parts always
    (and_then accepted (λ a. and_then (place_reached (count_in a)) (λ reached. and_then (descriptors (count_in a) reached) (progress (count_in a) reached))))

abbrev pub no_request : VirtioRequest
no_request = record {
  head = 0;
  sector = 0;
  size = 0;
  used = 0;
  count = 0;
  parts = [];
  part = 0;
  offset = 0;
  tail = 0;
  result = VirtioResult.Done;
  written = 0;
}

-- a device that needs a reset has none under way
unfoldable pub request_flag : (status : ℕ) → Form Bool
request_flag status = within (λ is. not is || not (bit status needs_reset_bit)) flag

-- a request where the flag before it is 1
unfoldable pub request_after : Bool → Form (Option VirtioRequest)
request_after true = map_form Some (some_or no_request) is_some request_form
request_after false = nothing None (λ o. not (is_some o))

unfoldable pub request_under_way : (status : ℕ) → Form (Option VirtioRequest)
request_under_way status = map_form (λ x. x.1) (λ o. (is_some o, o)) always (and_then (request_flag status) request_after)

-- ---- the device

abbrev pub VirtioParts : Type 0
VirtioParts = Selection × (Bool × (Queue × Option VirtioRequest))

abbrev pub state_of : VirtioParts → VirtioState
state_of x = record {
  device_select = x.0.0;
  driver_select = x.0.1.0;
  driver_low = x.0.1.1.0;
  driver_high = x.0.1.1.1.0;
  queue = x.0.1.1.1.1.0;
  size = x.0.1.1.1.1.1;
  ready = x.1.0;
  interrupt = x.1.1.0.0;
  status = x.1.1.0.1.0;
  descriptors = x.1.1.0.1.1.0;
  available = x.1.1.0.1.1.1.0;
  used = x.1.1.0.1.1.1.1.0;
  accepted = x.1.1.0.1.1.1.1.1;
  request = x.1.1.1;
}

abbrev pub state_parts : VirtioState → VirtioParts
state_parts s = (
  (s.device_select, (s.driver_select, (s.driver_low, (s.driver_high, (s.queue, s.size))))),
  (
    s.ready,
    (
      (s.interrupt, (s.status, (s.descriptors, (s.available, (s.used, s.accepted))))),
      s.request,
    ),
  ),
)

unfoldable pub virtio : Form VirtioState
virtio =
    map_form state_of state_parts always
    (and_then selection (λ x. and_then (in_use (size_in x)) (λ ready. and_then (queue ready) (λ y. request_under_way (status_in y)))))

-- ---- the disk

-- the data of a request of which some is left lies on the disk
abbrev pub holds_data : Option VirtioRequest → ℕ → Bool
holds_data None n = true
holds_data (Some q) n = not (nat_lt q.part (q.count - 1)) || nat_le (sector_size * q.sector + bytes_in (between q.parts 1 (q.count - 1))) n
