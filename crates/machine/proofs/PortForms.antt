-- The virtio block device that a snapshot says is one that the code could have made.
use Rattle.std.proofs.Common.{◌≡◌, ℕ, zero, suc, ◌+◌, ◌-◌, ◌*◌, ◌%◌, ◌^◌, ◌<◌, ◌≤◌, List, [], ◌∷◌, ◌++◌, length, get_or, take, drop, refl, sym, ap, subst, ◌∙◌, Bool}
use Rattle.std.proofs.Common.{true, false, not, ◌&&◌, ◌||◌, arith, Option, Some, None, IfSome, length-append, inl, inr}
use Rattle.std.specs.Prelude.{nat_lt, nat_le, ◌==◌, if◌then◌else◌, is_some}
use Rattle.std.proofs.Math.Nat.{zero-add}
use Rattle.std.proofs.lemmas.Bool.{cases_lt, eqb-true, not-true}
use Rattle.std.proofs.lemmas.Bool.Decides.{nat_tests}
use Rattle.std.proofs.lemmas.List.{drop-drop, get_or-drop, get_or-take, get_or_past}
use Rattle.spec_processor.specs.Bits.{bit}
use Rattle.spec_reference.specs.VirtioChain.{between, no_part}
use Rattle.spec_reference.specs.VirtioRequests.{bytes_in}
use Rattle.spec_reference.specs.VirtioStates.{behind, data_left, disk_offset, last_place, part_at}
use Rattle.spec_reference.specs.VirtioStores.{is_size}
use Rattle.sv_types.specs.Limits.{max_disk_bytes}
use Rattle.sv_types.specs.Policies.{is_between}
use Rattle.sv_types.specs.declared.port.PortState.{PortState}
use Rattle.sv_types.specs.declared.virtio.VirtioPart.{VirtioPart}
use Rattle.sv_types.specs.declared.virtio.VirtioRequest.{VirtioRequest}
use Rattle.sv_types.specs.declared.virtio.VirtioState.{VirtioState}
use Rattle.snapshot_format.specs.DeviceForms.{disk, holds_disk}
use Rattle.snapshot_format.specs.Forms.{has_all, is_word, number, within}
use Rattle.snapshot_format.specs.HartForms.{flag}
use Rattle.snapshot_format.specs.VirtioForms.{accepted, aligned, descriptor, descriptors, holds_data, in_use, is_aligned, is_left, is_ring, may_be_made}
use Rattle.snapshot_format.specs.VirtioForms.{may_be_moved, may_stand, next_descriptor}
use Rattle.snapshot_format.specs.VirtioForms.{place_reached, progress, queue, register, request_after, request_flag, request_form, request_parts, request_under_way}
use Rattle.snapshot_format.specs.VirtioForms.{ring_index, selection, state_parts, virtio}
use Rattle.snapshot_format.proofs.FormLaws.{first_true, second_true, has_all_length}
use Rattle.laws_resume.proofs.FormParts.{below_is, max_is}
use Rattle.virtio_blk.specs.Held.{IsOnDisk, IsPlaced, IsSound}

-- ---- the bytes of data

none_taken : (n : ℕ) → bytes_in (take n []) ≡ 0
none_taken zero = refl
none_taken (suc n) = refl

summed : (a b n : ℕ) (parts : List VirtioPart) → n ≡ a + b → bytes_in (take n parts) ≡ bytes_in (take a parts) + bytes_in (take b (drop a parts))
summed zero b n parts e =
    let same : bytes_in (take n parts) ≡ bytes_in (take b parts) = ap (λ (m : ℕ). bytes_in (take m parts)) (omega (arith, e)) in
    omega (arith, same)
summed (suc a) b zero parts e = absurd (omega (arith, e))
summed (suc a) b (suc n) [] e = let none = none_taken b in omega (arith, none)
summed (suc a) b (suc n) (part ∷ parts) e =
    let more = summed a b n parts (omega (arith, e)) in
    omega (arith, more)

split_at : (parts : List VirtioPart) (mid to : ℕ) → 1 ≤ mid → mid ≤ to → bytes_in (between parts 1 to) ≡ bytes_in (between parts 1 mid) + bytes_in (between parts mid to)
split_at parts mid to some le =
    let place : 1 + (mid - 1) ≡ mid = omega (arith, some) in
    let rest : drop (mid - 1) (drop 1 parts) ≡ drop mid parts = drop-drop (mid - 1) 1 parts ∙ ap (λ (n : ℕ). drop n parts) place in
    summed (mid - 1) (to - mid) (to - 1) (drop 1 parts) (omega (arith, some, le))
    ∙ ap (λ (xs : List VirtioPart). bytes_in (take (mid - 1) (drop 1 parts)) + bytes_in (take (to - mid) xs)) rest

behind_bytes : (offset : ℕ) (parts : List VirtioPart) → offset ≤ (get_or parts 0 no_part).len → offset + bytes_in (behind offset parts) ≡ bytes_in parts
behind_bytes offset [] le = omega (arith, le)
behind_bytes offset (part ∷ parts) le = omega (arith, le)

-- what is left of a request's data, after where it lies
pub data_ends : (q : VirtioRequest) → 1 ≤ q.part → q.part < last_place q → q.offset ≤ (part_at q q.part).len
    → disk_offset q + bytes_in (data_left q) ≡ 512 * q.sector + bytes_in (between q.parts 1 (q.count - 1))
data_ends q begun before few =
    let left = between q.parts q.part (last_place q) in
    let first : get_or left 0 no_part ≡ part_at q q.part =
    get_or-take (last_place q - q.part) (drop q.part q.parts) 0 no_part (omega (arith, before)) ∙ get_or-drop q.part q.parts 0 no_part
    ∙ ap (λ (n : ℕ). get_or q.parts n no_part) (omega arith) in
    let rest = behind_bytes q.offset left (subst (λ (p : VirtioPart). q.offset ≤ p.len) (sym first) few) in
    let whole = split_at q.parts q.part (last_place q) begun (omega (arith, before)) in
    omega (arith, rest, whole)

-- ---- descriptors

stands_at : (count reached : ℕ) (before : List VirtioPart) (n : ℕ) (parts : List VirtioPart) (k : ℕ) → has_all (next_descriptor count reached) before n parts ≡ true → k < n
    → may_stand count reached (length before + k) (get_or parts k no_part) ≡ true
unfolding has_all next_descriptor
stands_at count reached before zero parts k h lt = absurd (omega (arith, lt))
stands_at count reached before (suc n) [] k h lt = absurd cc
stands_at count reached before (suc n) (part ∷ parts) zero h lt =
    let place : length before ≡ length before + 0 = omega arith in
    subst (λ (p : ℕ). may_stand count reached p part ≡ true) place
    (second_true (descriptor.has part) _ (first_true (descriptor.has part && may_stand count reached (length before) part) _ h))
stands_at count reached before (suc n) (part ∷ parts) (suc k) h lt =
    let more : length (before ++ part ∷ []) ≡ length before + 1 = length-append before (part ∷ []) in
    let place : length (before ++ part ∷ []) + k ≡ length before + suc k = omega (arith, more) in
    subst (λ (p : ℕ). may_stand count reached p (get_or parts k no_part) ≡ true) place
    (stands_at count reached (before ++ part ∷ []) n parts k (second_true (descriptor.has part && may_stand count reached (length before) part) _ h) (omega (arith, lt)))

-- where it is one of the chain's or not
abbrev stands_if : Bool → (count reached place : ℕ) → VirtioPart → Bool
stands_if b count reached place part =
    if b
    then not (is_left count reached place && nat_lt 0 part.len) || nat_lt (part.gpa + part.len) (2 ^ 63)
    else part.gpa == 0 && part.len == 0 && not part.write

is_empty : (part : VirtioPart) → (part.gpa == 0 && part.len == 0 && not part.write) ≡ true → part ≡ no_part
is_empty part h =
    let gpa = eqb-true part.gpa 0 (first_true (part.gpa == 0) (part.len == 0) (first_true (part.gpa == 0 && part.len == 0) (not part.write) h)) in
    let len = eqb-true part.len 0 (second_true (part.gpa == 0) (part.len == 0) (first_true (part.gpa == 0 && part.len == 0) (not part.write) h)) in
    let write = not-true part.write (second_true (part.gpa == 0 && part.len == 0) (not part.write) h) in
    rw (gpa, len, write) refl

-- one that is past the last
empty_by : (b : Bool) (count reached place : ℕ) (part : VirtioPart) → nat_lt place count ≡ b → count ≤ place → may_stand count reached place part ≡ true → part ≡ no_part
empty_by true count reached place part is le h = let lt = below_is place count is in absurd (omega (arith, lt, le))
empty_by false count reached place part is le h = is_empty part (subst (λ (b : Bool). stands_if b count reached place part ≡ true) is h)

small_by : (left some small : Bool) → (not (left && some) || small) ≡ true → left ≡ true → some ≡ true → small ≡ true
small_by true true small h l s = h
small_by true false small h l s = absurd cc
small_by false some small h l s = absurd cc

-- one whose bytes are left
left_by : (b : Bool) (count reached place : ℕ) (part : VirtioPart) → nat_lt place count ≡ b → reached ≤ place → place < count - 1 → 0 < part.len
    → may_stand count reached place part ≡ true → part.gpa + part.len < 2 ^ 63
left_by true count reached place part is from to some h =
    let all = subst (λ (b : Bool). stands_if b count reached place part ≡ true) is h in
    let left : is_left count reached place ≡ true = grind (arith, nat_tests) in
    let any : nat_lt 0 part.len ≡ true = grind (arith, nat_tests) in
    below_is (part.gpa + part.len) (2 ^ 63) (small_by (is_left count reached place) (nat_lt 0 part.len) _ all left any)
left_by false count reached place part is from to some h = absurd (grind (arith, nat_tests))

-- ---- the request

record HasRequest (q : VirtioRequest) : Type 0 where
  size : is_between 1 64 q.size ≡ true
  used : is_ring q.used ≡ true
  count : is_between 2 34 q.count ≡ true
  reached : is_between 1 (q.count - 1) q.part ≡ true
  parts : (descriptors q.count q.part).has q.parts ≡ true
  moved : may_be_moved q.count q.part q.parts q.offset ≡ true
  made : may_be_made q.count q.part q.tail ≡ true

in_request : (q : VirtioRequest) → request_form.has q ≡ true → HasRequest q
unfolding request_form accepted place_reached progress
in_request q h =
    let x = (request_parts q).0 in
    let first = first_true (accepted.has x) _ h in
    let from_place = second_true (accepted.has x) _ h in
    let from_sector = second_true (ring_index.has q.head) _ first in
    let from_size = second_true (is_word q.sector) _ from_sector in
    let from_ring = second_true ((within (is_between 1 64) number).has q.size) _ from_size in
    let from_count = second_true ((within is_ring number).has q.used) _ from_ring in
    let from_parts = second_true ((place_reached q.count).has q.part) _ from_place in
    let done = second_true ((descriptors q.count q.part).has q.parts) _ from_parts in
    let moved = first_true ((within (may_be_moved q.count q.part q.parts) register).has q.offset) _ done in
    let from_tail = second_true ((within (may_be_moved q.count q.part q.parts) register).has q.offset) _ done in
    let made = first_true ((within (may_be_made q.count q.part) number).has q.tail) _ from_tail in
    record {
      size = second_true (is_word q.size) _ (first_true ((within (is_between 1 64) number).has q.size) _ from_size);
      used = second_true (is_word q.used) _ (first_true ((within is_ring number).has q.used) _ from_ring);
      count = second_true (is_word q.count) _ from_count;
      reached = second_true (is_word q.part) _ (first_true ((place_reached q.count).has q.part) _ from_place);
      parts = first_true ((descriptors q.count q.part).has q.parts) _ from_parts;
      moved = second_true (register.has q.offset) _ moved;
      made = second_true (is_word q.tail) _ made;
    }

low_is : (low high n : ℕ) → is_between low high n ≡ true → low ≤ n
low_is low high n h = max_is low n (first_true (nat_le low n) (nat_le n high) h)

high_is : (low high n : ℕ) → is_between low high n ≡ true → n ≤ high
high_is low high n h = max_is n high (second_true (nat_le low n) (nat_le n high) h)

-- how far the bytes of a descriptor may be moved, and the last moves made
few_moved : (count reached offset : ℕ) (parts : List VirtioPart) → may_be_moved count reached parts offset ≡ true → reached < count - 1 → offset ≤ (get_or parts reached no_part).len
few_moved count reached offset parts h before = grind (arith, nat_tests)

none_moved : (count reached offset : ℕ) (parts : List VirtioPart) → may_be_moved count reached parts offset ≡ true → reached ≡ count - 1 → offset ≡ 0
none_moved count reached offset parts h end = grind (arith, nat_tests)

few_made : (count reached tail : ℕ) → may_be_made count reached tail ≡ true → tail ≤ 4
few_made count reached tail h = grind (arith, nat_tests)

none_made : (count reached tail : ℕ) → may_be_made count reached tail ≡ true → reached < count - 1 → tail ≡ 0
none_made count reached tail h before = grind (arith, nat_tests)

part_stands : (q : VirtioRequest) (k : ℕ) → HasRequest q → k < 34 → may_stand q.count q.part k (part_at q k) ≡ true
unfolding descriptors
part_stands q k is lt =
    subst (λ (p : ℕ). may_stand q.count q.part p (part_at q k) ≡ true) (zero-add k) (stands_at q.count q.part [] 34 q.parts k is.parts lt)

parts_number : (q : VirtioRequest) → HasRequest q → length q.parts ≡ 34
unfolding descriptors
parts_number q is = has_all_length (next_descriptor q.count q.part) [] 34 q.parts is.parts

empty_at : (q : VirtioRequest) (k : ℕ) → HasRequest q → q.count ≤ k → part_at q k ≡ no_part
empty_at q k is past =
    elim (cases_lt k 34) [
      | inl lt ↦ empty_by (nat_lt k q.count) q.count q.part k (part_at q k) refl past (part_stands q k is lt)
      | inr le ↦ let size = parts_number q is in get_or_past q.parts k no_part (omega (arith, size, le))
    ]

placed_by : (q : VirtioRequest) → HasRequest q → IsPlaced q
placed_by q is =
    let ring = is.used in
    let most : q.count ≤ 34 = high_is 2 34 q.count is.count in
    record {
      parts = parts_number q is;
      least = low_is 2 34 q.count is.count;
      most = most;
      begun = low_is 1 (q.count - 1) q.part is.reached;
      inside = high_is 1 (q.count - 1) q.part is.reached;
      tail = few_made q.count q.part q.tail is.made;
      data_first = λ before. none_made q.count q.part q.tail is.made before;
      offset = λ before. few_moved q.count q.part q.offset q.parts is.moved before;
      at_end = λ end. none_moved q.count q.part q.offset q.parts is.moved end;
      empty = λ k past. empty_at q k is past;
      addresses = λ k from to some. left_by (nat_lt k q.count) q.count q.part k (part_at q k) refl from to some (part_stands q k is (omega (arith, to, most)));
      size_some = low_is 1 64 q.size is.size;
      size_most = high_is 1 64 q.size is.size;
      aligned = eqb-true (q.used % 4) 0 (first_true (q.used % 4 == 0) (nat_lt q.used (2 ^ 63)) ring);
      used = below_is q.used (2 ^ 63) (second_true (q.used % 4 == 0) (nat_lt q.used (2 ^ 63)) ring);
    }

placed_in : (there : Bool) (o : Option VirtioRequest) → (request_after there).has o ≡ true → IfSome o IsPlaced
unfolding request_after
placed_in true None h = absurd cc
placed_in true (Some q) h = placed_by q (in_request q h)
placed_in false None h = tt
placed_in false (Some q) h = absurd cc

lies_by : (before fits : Bool) → (not before || fits) ≡ true → before ≡ true → fits ≡ true
lies_by true fits h is = h
lies_by false fits h is = absurd cc

on_disk : (q : VirtioRequest) (n : ℕ) → IsPlaced q → holds_data (Some q) n ≡ true → IsOnDisk n q
on_disk q n placed h before =
    let is : nat_lt q.part (q.count - 1) ≡ true = grind (arith, nat_tests) in
    let ends = data_ends q placed.begun before (placed.offset before) in
    let fits = max_is (512 * q.sector + bytes_in (between q.parts 1 (q.count - 1))) n (lies_by (nat_lt q.part (q.count - 1)) _ h is) in
    omega (arith, ends, fits)

on_disk_in : (o : Option VirtioRequest) (n : ℕ) → IfSome o IsPlaced → holds_data o n ≡ true → IfSome o (IsOnDisk n)
on_disk_in None n placed h = tt
on_disk_in (Some q) n placed h = on_disk q n placed h

-- ---- the device

used_by : (ready : Bool) (size n : ℕ) → is_aligned ready size n ≡ true → ready ≡ true → n % size ≡ 0
used_by true size n h is = eqb-true (n % size) 0 h
used_by false size n h is = absurd cc

size_by : (ready : Bool) (size : ℕ) → (not ready || is_size size) ≡ true → ready ≡ true → is_size size ≡ true
size_by true size h is = h
size_by false size h is = absurd cc

whole_by : (o : Option VirtioRequest) (broken : Bool) → (not (is_some o) || not broken) ≡ true → IfSome o (λ q. broken ≡ false)
whole_by None broken h = tt
whole_by (Some q) broken h = not-true broken h

record HasDevice (v : VirtioState) : Type 0 where
  size : (not v.ready || is_size v.size) ≡ true
  descriptors : is_aligned v.ready 16 v.descriptors ≡ true
  available : is_aligned v.ready 2 v.available ≡ true
  used : is_aligned v.ready 4 v.used ≡ true
  accepted : nat_lt v.accepted (2 ^ 16) ≡ true
  whole : (not (is_some v.request) || not (bit v.status 6)) ≡ true
  request : (request_after (is_some v.request)).has v.request ≡ true

in_device : (v : VirtioState) → virtio.has v ≡ true → HasDevice v
unfolding virtio in_use queue aligned ring_index request_under_way request_flag
in_device v h =
    let x = state_parts v in
    let from_ready = second_true (selection.has x.0) _ h in
    let size = first_true ((in_use v.size).has v.ready) _ from_ready in
    let from_queue = second_true ((in_use v.size).has v.ready) _ from_ready in
    let places = first_true ((queue v.ready).has x.1.1.0) _ from_queue in
    let under_way = second_true ((queue v.ready).has x.1.1.0) _ from_queue in
    let from_status = second_true (register.has v.interrupt) _ places in
    let from_table = second_true (register.has v.status) _ from_status in
    let from_available = second_true ((aligned v.ready 16).has v.descriptors) _ from_table in
    let from_used = second_true ((aligned v.ready 2).has v.available) _ from_available in
    let from_index = second_true ((aligned v.ready 4).has v.used) _ from_used in
    record {
      size = second_true (flag.has v.ready) _ size;
      descriptors = second_true (is_word v.descriptors) _ (first_true ((aligned v.ready 16).has v.descriptors) _ from_table);
      available = second_true (is_word v.available) _ (first_true ((aligned v.ready 2).has v.available) _ from_available);
      used = second_true (is_word v.used) _ (first_true ((aligned v.ready 4).has v.used) _ from_used);
      accepted = second_true (is_word v.accepted) _ from_index;
      whole = second_true (flag.has (is_some v.request)) _ (first_true ((request_flag v.status).has (is_some v.request)) _ under_way);
      request = second_true ((request_flag v.status).has (is_some v.request)) _ under_way;
    }

disk_range : (v : VirtioState) (bytes : List ℕ) → (disk (PortState.Virtio v)).has bytes ≡ true → holds_data v.request (length bytes) ≡ true
unfolding disk
disk_range v bytes h =
    let range = second_true (is_word (length bytes)) (holds_disk (PortState.Virtio v) (length bytes))
    (first_true (is_word (length bytes) && holds_disk (PortState.Virtio v) (length bytes)) _ h) in
    second_true (nat_le (length bytes) max_disk_bytes && length bytes % 512 == 0) _ range

pub virtio_sound : (v : VirtioState) (bytes : List ℕ) → virtio.has v ≡ true → (disk (PortState.Virtio v)).has bytes ≡ true → IsSound (record { state = v; bytes = bytes })
virtio_sound v bytes h on =
    let is = in_device v h in
    let placed = placed_in (is_some v.request) v.request is.request in
    record {
      accepted = below_is v.accepted (2 ^ 16) is.accepted;
      size = size_by v.ready v.size is.size;
      descriptors = used_by v.ready 16 v.descriptors is.descriptors;
      available = used_by v.ready 2 v.available is.available;
      used = used_by v.ready 4 v.used is.used;
      placed = placed;
      on_disk = on_disk_in v.request (length bytes) placed (disk_range v bytes on);
      whole = whole_by v.request (bit v.status 6) is.whole;
    }
