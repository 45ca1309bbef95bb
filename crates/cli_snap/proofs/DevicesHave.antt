-- A device that a machine can have, with whole sectors, has a form.
use Rattle.std.proofs.Common.{◌≡◌, ℕ, zero, suc, ◌+◌, ◌-◌, ◌*◌, ◌/◌, ◌%◌, ◌^◌, ◌<◌, ◌≤◌, List, [], ◌∷◌, ◌++◌, length, get_or, refl, subst}
use Rattle.std.proofs.Common.{Bool, true, false, not, ◌&&◌, ◌||◌, arith, Option, Some, None, IfSome, length-append}
use Rattle.std.specs.Prelude.{nat_lt, nat_le, ◌==◌, if◌then◌else◌, is_some}
use Rattle.std.specs.List.{list_all}
use Rattle.std.proofs.lemmas.Bool.{eq-eqb}
use Rattle.std.proofs.lemmas.Bool.Decides.{nat_tests}
use Rattle.spec_processor.specs.Bits.{bit}
use Rattle.spec_reference.specs.BlockDisk.{beats_done, is_busy}
use Rattle.spec_reference.specs.VirtioChain.{between, no_part}
use Rattle.spec_reference.specs.VirtioRequests.{bytes_in}
use Rattle.spec_reference.specs.VirtioStates.{part_at}
use Rattle.spec_reference.specs.VirtioStores.{is_size}
use Rattle.sv_types.specs.Limits.{max_disk_bytes}
use Rattle.sv_types.specs.Policies.{is_between}
use Rattle.sv_types.specs.declared.block.BlockCommand.{BlockCommand}
use Rattle.sv_types.specs.declared.block.BlockState.{BlockState}
use Rattle.sv_types.specs.declared.block.BlockStatus.{BlockStatus}
use Rattle.sv_types.specs.declared.port.PortState.{PortState}
use Rattle.sv_types.specs.declared.virtio.VirtioPart.{VirtioPart}
use Rattle.sv_types.specs.declared.virtio.VirtioRequest.{VirtioRequest}
use Rattle.sv_types.specs.declared.virtio.VirtioResult.{VirtioResult}
use Rattle.sv_types.specs.declared.virtio.VirtioState.{VirtioState}
use Rattle.snapshot_format.specs.DeviceForms.{block, disk, kind_of, lies_on, port, standing_status, transfer}
use Rattle.snapshot_format.specs.Forms.{has_all, is_word, number, within}
use Rattle.snapshot_format.specs.HartForms.{flag}
use Rattle.snapshot_format.specs.Snapshots.{Contents}
use Rattle.snapshot_format.specs.Typed.{are_short, are_words, is_typed_block, is_typed_part, is_typed_port, is_typed_request, is_typed_under_way, is_typed_virtio, selected_numbers}
use Rattle.snapshot_format.specs.VirtioForms.{accepted, aligned, descriptor, descriptors, holds_data, in_use, is_left, is_ring}
use Rattle.snapshot_format.specs.VirtioForms.{may_stand, next_descriptor}
use Rattle.snapshot_format.specs.VirtioForms.{place_reached, progress, queue, register, request_after, request_flag, request_form, request_parts, request_under_way}
use Rattle.snapshot_format.specs.VirtioForms.{result_form, ring_index, selection, state_parts, virtio}
use Rattle.snapshot_format.proofs.FormLaws.{both_true, first_true, second_true}
use Rattle.hw_devices.specs.BlockRegisters.{IsSound as IsSoundBlock}
use Rattle.hw_devices.specs.Ports.{IsSoundPort}
use Rattle.laws_resume.specs.SavedForm.{HasDevice}
use Rattle.laws_resume.proofs.FormParts.{below_is, least_is, less_is, max_is, small_word}
use Rattle.laws_resume.proofs.SavedHarts.{flag_has}
use Rattle.machine.proofs.PortForms.{data_ends}
use Rattle.virtio_blk.specs.Held.{IsOnDisk, IsPlaced, IsSound}

-- ---- numbers of 32 bits

register_has : (n : ℕ) → nat_lt n (2 ^ 32) ≡ true → register.has n ≡ true
unfolding register
register_has n short = let small = below_is n (2 ^ 32) short in both_true (is_word n) _ (small_word n (omega (arith, small))) short

short_first : (n : ℕ) (ns : List ℕ) → are_short (n ∷ ns) ≡ true → nat_lt n (2 ^ 32) ≡ true
short_first n ns h = first_true (nat_lt n (2 ^ 32)) (are_short ns) h

short_rest : (n : ℕ) (ns : List ℕ) → are_short (n ∷ ns) ≡ true → are_short ns ≡ true
short_rest n ns h = second_true (nat_lt n (2 ^ 32)) (are_short ns) h

word_first : (n : ℕ) (ns : List ℕ) → are_words (n ∷ ns) ≡ true → is_word n ≡ true
word_first n ns h = first_true (is_word n) (are_words ns) h

word_rest : (n : ℕ) (ns : List ℕ) → are_words (n ∷ ns) ≡ true → are_words ns ≡ true
word_rest n ns h = second_true (is_word n) (are_words ns) h

between_has : (low high n : ℕ) → low ≤ n → n ≤ high → high < 2 ^ 64 → (within (is_between low high) number).has n ≡ true
between_has low high n least most small =
    both_true (is_word n) _ (small_word n (omega (arith, most, small))) (both_true (nat_le low n) (nat_le n high) (least_is low n least) (least_is n high most))

-- ---- the block device

-- what a transfer under way says
record HasTransfer (b : BlockState) (done : ℕ) : Type 0 where
  some : nat_lt 0 b.count ≡ true
  aligned : (b.gpa % 64 == 0) ≡ true
  left : nat_lt done (512 / 64 * b.count) ≡ true

transfer_in : (b : BlockState) (bytes : List ℕ) (done : ℕ) → is_busy b ≡ true → beats_done b.status ≡ done → IsSoundBlock (record { block = b; bytes = bytes }) → HasTransfer b done
transfer_in b bytes done busy is sound =
    let left : 64 * done < 512 * b.count = subst (λ (n : ℕ). 64 * n < 512 * b.count) is (sound.left busy) in
    record {
      some = less_is 0 b.count (omega (arith, left));
      aligned = eq-eqb (b.gpa % 64) 0 (sound.aligned busy);
      left = less_is done (8 * b.count) (omega (arith, left));
    }

abbrev block_by : (sector gpa count : ℕ) → BlockStatus → BlockState
block_by sector gpa count status = record { sector = sector; gpa = gpa; count = count; status = status }

record HasNumbers (b : BlockState) : Type 0 where
  sector : is_word b.sector ≡ true
  gpa : is_word b.gpa ≡ true
  count : is_word b.count ≡ true
  few : nat_lt b.count (2 ^ 32) ≡ true
  done : is_word (beats_done b.status) ≡ true

still_has : (sector gpa count : ℕ) (status : BlockStatus) (bytes : List ℕ) → HasNumbers (block_by sector gpa count status)
    → IsSoundBlock (record { block = block_by sector gpa count status; bytes = bytes }) → block.has (block_by sector gpa count status) ≡ true
unfolding block standing_status transfer
still_has sector gpa count (BlockStatus.Busy BlockCommand.DiskToMemory done) bytes is sound =
    let t = transfer_in (block_by sector gpa count (BlockStatus.Busy BlockCommand.DiskToMemory done)) bytes done refl refl sound in
    rw (is.sector, is.gpa, is.count, is.few, t.some, t.aligned, is.done, t.left) refl
still_has sector gpa count (BlockStatus.Busy BlockCommand.MemoryToDisk done) bytes is sound =
    let t = transfer_in (block_by sector gpa count (BlockStatus.Busy BlockCommand.MemoryToDisk done)) bytes done refl refl sound in
    rw (is.sector, is.gpa, is.count, is.few, t.some, t.aligned, is.done, t.left) refl
still_has sector gpa count _ bytes is sound = rw (is.sector, is.gpa, is.count, is.few) refl

block_has : (b : BlockState) (bytes : List ℕ) → is_typed_block b ≡ true → IsSoundBlock (record { block = b; bytes = bytes }) → block.has b ≡ true
block_has b bytes typed sound =
    let words = first_true (are_words (b.sector ∷ b.gpa ∷ beats_done b.status ∷ [])) (are_short (b.count ∷ [])) typed in
    let short = short_first b.count [] (second_true (are_words (b.sector ∷ b.gpa ∷ beats_done b.status ∷ [])) (are_short (b.count ∷ [])) typed) in
    let few = below_is b.count (2 ^ 32) short in
    let from_gpa = word_rest b.sector (b.gpa ∷ beats_done b.status ∷ []) words in
    still_has b.sector b.gpa b.count b.status bytes
    (record {
      sector = word_first b.sector (b.gpa ∷ beats_done b.status ∷ []) words;
      gpa = word_first b.gpa (beats_done b.status ∷ []) from_gpa;
      count = small_word b.count (omega (arith, few));
      few = short;
      done = word_first (beats_done b.status) [] (word_rest b.gpa (beats_done b.status ∷ []) from_gpa);
    })
    sound

block_lies : (b : BlockState) (n : ℕ) (busy : Bool) → is_busy b ≡ busy → (is_busy b ≡ true → 512 * (b.sector + b.count) ≤ n) → (not busy || nat_le (b.sector + b.count) (n / 512)) ≡ true
block_lies b n true is inside = let fits = inside is in least_is (b.sector + b.count) (n / 512) (omega (arith, fits))
block_lies b n false is inside = refl

-- ---- the descriptors of a request

stands_by : (b : Bool) (count reached place : ℕ) (part : VirtioPart) → nat_lt place count ≡ b
    → (count ≤ place → part ≡ no_part) → (reached ≤ place → place < count - 1 → 0 < part.len → part.gpa + part.len < 2 ^ 63)
    → (if b then not (is_left count reached place && nat_lt 0 part.len) || nat_lt (part.gpa + part.len) (2 ^ 63) else part.gpa == 0 && part.len == 0 && not part.write) ≡ true
stands_by true count reached place part is empty small =
    left_or (is_left count reached place && nat_lt 0 part.len) (nat_lt (part.gpa + part.len) (2 ^ 63)) (λ both.
    let left = first_true (is_left count reached place) (nat_lt 0 part.len) both in
    let some = below_is 0 part.len (second_true (is_left count reached place) (nat_lt 0 part.len) both) in
    let from = max_is reached place (first_true (nat_le reached place) (nat_lt place (count - 1)) left) in
    let to = below_is place (count - 1) (second_true (nat_le reached place) (nat_lt place (count - 1)) left) in
    less_is (part.gpa + part.len) (2 ^ 63) (small from to some))
  where
    left_or : (a b : Bool) → (a ≡ true → b ≡ true) → (not a || b) ≡ true
    left_or true b h = h refl
    left_or false b h = refl
stands_by false count reached place part is empty small =
    let past : count ≤ place = grind (arith, nat_tests) in
    rw (empty past) refl

descriptors_have : (count reached : ℕ) (before : List VirtioPart) (n : ℕ) (parts : List VirtioPart) → length parts ≡ n → list_all is_typed_part parts ≡ true
    → ((k : ℕ) → k < n → may_stand count reached (length before + k) (get_or parts k no_part) ≡ true) → has_all (next_descriptor count reached) before n parts ≡ true
unfolding has_all next_descriptor descriptor
descriptors_have count reached before zero [] size typed stands = refl
descriptors_have count reached before (suc n) (part ∷ parts) size typed stands =
    let one = first_true (is_typed_part part) (list_all is_typed_part parts) typed in
    let gpa = first_true (is_word part.gpa) (nat_lt part.len (2 ^ 32)) one in
    let len = register_has part.len (second_true (is_word part.gpa) (nat_lt part.len (2 ^ 32)) one) in
    let here : may_stand count reached (length before) part ≡ true = subst (λ (p : ℕ). may_stand count reached p part ≡ true) (omega arith) (stands 0 (omega arith)) in
    let more : length (before ++ part ∷ []) ≡ length before + 1 = length-append before (part ∷ []) in
    both_true _ _ (both_true _ _ (both_true (is_word part.gpa) _ gpa (both_true (register.has part.len) _ len (flag_has part.write))) here)
    (descriptors_have count reached (before ++ part ∷ []) n parts (omega (arith, size)) (second_true (is_typed_part part) (list_all is_typed_part parts) typed)
    (λ k lt. subst (λ (p : ℕ). may_stand count reached p (get_or parts k no_part) ≡ true) (omega (arith, more)) (stands (suc k) (omega (arith, lt)))))
descriptors_have count reached before _ _ size typed stands = absurd (omega (arith, size))

parts_have : (q : VirtioRequest) → IsPlaced q → list_all is_typed_part q.parts ≡ true → (descriptors q.count q.part).has q.parts ≡ true
unfolding descriptors
parts_have q placed typed =
    descriptors_have q.count q.part [] 34 q.parts placed.parts typed
    (λ k lt. subst (λ (p : ℕ). may_stand q.count q.part p (part_at q k) ≡ true) (omega arith)
    (stands_by (nat_lt k q.count) q.count q.part k (part_at q k) refl (placed.empty k) (placed.addresses k)))

-- ---- what is done of a request

moved_by : (b : Bool) (q : VirtioRequest) → nat_lt q.part (q.count - 1) ≡ b → IsPlaced q
    → (if b then nat_le q.offset (part_at q q.part).len else q.offset == 0) ≡ true
moved_by true q is placed = least_is q.offset (part_at q q.part).len (placed.offset (below_is q.part (q.count - 1) is))
moved_by false q is placed =
    let inside = placed.inside in
    let end : q.part ≡ q.count - 1 = let past : q.count - 1 ≤ q.part = grind (arith, nat_tests) in omega (arith, inside, past) in
    eq-eqb q.offset 0 (placed.at_end end)

made_by : (b : Bool) (q : VirtioRequest) → nat_lt q.part (q.count - 1) ≡ b → IsPlaced q → (if b then q.tail == 0 else nat_le q.tail 4) ≡ true
made_by true q is placed = eq-eqb q.tail 0 (placed.data_first (below_is q.part (q.count - 1) is))
made_by false q is placed = least_is q.tail 4 placed.tail

result_has : (r : VirtioResult) → result_form.has r ≡ true
unfolding result_form
result_has VirtioResult.Done = refl
result_has VirtioResult.Failed = refl
result_has VirtioResult.Unsupported = refl

-- ---- the request

head_has : (n : ℕ) → nat_lt n (2 ^ 16) ≡ true → ring_index.has n ≡ true
unfolding ring_index
head_has n short = let small = below_is n (2 ^ 16) short in both_true (is_word n) _ (small_word n (omega (arith, small))) short

request_has : (q : VirtioRequest) → IsPlaced q → is_typed_request q ≡ true → request_form.has q ≡ true
unfolding request_form accepted place_reached progress
request_has q placed typed =
    let three = first_true (nat_lt q.head (2 ^ 16) && is_word q.sector && list_all is_typed_part q.parts) (are_short (q.offset ∷ q.written ∷ [])) typed in
    let short = second_true (nat_lt q.head (2 ^ 16) && is_word q.sector && list_all is_typed_part q.parts) (are_short (q.offset ∷ q.written ∷ [])) typed in
    let two = first_true (nat_lt q.head (2 ^ 16) && is_word q.sector) (list_all is_typed_part q.parts) three in
    let parts = second_true (nat_lt q.head (2 ^ 16) && is_word q.sector) (list_all is_typed_part q.parts) three in
    let least = placed.least in
    let most = placed.most in
    let inside = placed.inside in
    let ring = placed.used in
    let tail = placed.tail in
    both_true (accepted.has (request_parts q).0) _
    (both_true (ring_index.has q.head) _ (head_has q.head (first_true (nat_lt q.head (2 ^ 16)) (is_word q.sector) two))
    (both_true (is_word q.sector) _ (second_true (nat_lt q.head (2 ^ 16)) (is_word q.sector) two)
    (both_true ((within (is_between 1 64) number).has q.size) _ (between_has 1 64 q.size placed.size_some placed.size_most (omega arith))
    (both_true ((within is_ring number).has q.used) _
    (both_true (is_word q.used) _ (small_word q.used (omega (arith, ring))) (both_true (q.used % 4 == 0) _ (eq-eqb (q.used % 4) 0 placed.aligned) (less_is q.used (2 ^ 63) placed.used)))
    (between_has 2 34 q.count placed.least placed.most (omega arith))))))
    (both_true ((place_reached q.count).has q.part) _ (between_has 1 (q.count - 1) q.part placed.begun placed.inside (omega (arith, most)))
    (both_true ((descriptors q.count q.part).has q.parts) _ (parts_have q placed parts)
    (both_true _ _ (both_true (register.has q.offset) _ (register_has q.offset (short_first q.offset (q.written ∷ []) short)) (moved_by (nat_lt q.part (q.count - 1)) q refl placed))
    (both_true _ _ (both_true (is_word q.tail) _ (small_word q.tail (omega (arith, tail))) (made_by (nat_lt q.part (q.count - 1)) q refl placed))
    (both_true (result_form.has q.result) _ (result_has q.result) (register_has q.written (short_first q.written [] (short_rest q.offset (q.written ∷ []) short))))))))

after_has : (o : Option VirtioRequest) → IfSome o IsPlaced → is_typed_under_way o ≡ true → (request_after (is_some o)).has o ≡ true
unfolding request_after
after_has None placed typed = refl
after_has (Some q) placed typed = request_has q placed typed

flag_may : (status : ℕ) (o : Option VirtioRequest) → IfSome o (λ q. bit status 6 ≡ false) → (request_flag status).has (is_some o) ≡ true
unfolding request_flag flag
flag_may status None whole = refl
flag_may status (Some q) whole = rw whole refl

-- ---- the device

aligned_has : (ready : Bool) (size n : ℕ) → is_word n ≡ true → (ready ≡ true → n % size ≡ 0) → (aligned ready size).has n ≡ true
unfolding aligned
aligned_has true size n word by = both_true (is_word n) _ word (eq-eqb (n % size) 0 (by refl))
aligned_has false size n word by = both_true (is_word n) _ word refl

use_has : (size : ℕ) (ready : Bool) → (ready ≡ true → is_size size ≡ true) → (in_use size).has ready ≡ true
unfolding in_use
use_has size true by = both_true (flag.has true) _ (flag_has true) (by refl)
use_has size false by = both_true (flag.has false) _ (flag_has false) refl

selection_has : (v : VirtioState) → are_short (selected_numbers v) ≡ true → selection.has (state_parts v).0 ≡ true
unfolding selection
selection_has v short =
    let a = short_rest v.device_select (v.driver_select ∷ v.driver_low ∷ v.driver_high ∷ v.queue ∷ v.size ∷ []) short in
    let b = short_rest v.driver_select (v.driver_low ∷ v.driver_high ∷ v.queue ∷ v.size ∷ []) a in
    let c = short_rest v.driver_low (v.driver_high ∷ v.queue ∷ v.size ∷ []) b in
    let d = short_rest v.driver_high (v.queue ∷ v.size ∷ []) c in
    let e = short_rest v.queue (v.size ∷ []) d in
    both_true (register.has v.device_select) _ (register_has v.device_select (short_first v.device_select (v.driver_select ∷ v.driver_low ∷ v.driver_high ∷ v.queue ∷ v.size ∷ []) short))
    (both_true (register.has v.driver_select) _ (register_has v.driver_select (short_first v.driver_select (v.driver_low ∷ v.driver_high ∷ v.queue ∷ v.size ∷ []) a))
    (both_true (register.has v.driver_low) _ (register_has v.driver_low (short_first v.driver_low (v.driver_high ∷ v.queue ∷ v.size ∷ []) b))
    (both_true (register.has v.driver_high) _ (register_has v.driver_high (short_first v.driver_high (v.queue ∷ v.size ∷ []) c))
    (both_true (register.has v.queue) _ (register_has v.queue (short_first v.queue (v.size ∷ []) d)) (register_has v.size (short_first v.size [] e))))))

virtio_has : (v : VirtioState) (bytes : List ℕ) → is_typed_virtio v ≡ true → IsSound (record { state = v; bytes = bytes }) → virtio.has v ≡ true
unfolding virtio queue request_under_way
virtio_has v bytes typed sound =
    let regs = are_short (selected_numbers v) in
    let told = are_short (v.interrupt ∷ v.status ∷ []) in
    let places = are_words (v.descriptors ∷ v.available ∷ v.used ∷ []) in
    let three = first_true (regs && told && places) (is_typed_under_way v.request) typed in
    let two = first_true (regs && told) places three in
    let words = second_true (regs && told) places three in
    let short = second_true regs told two in
    let accepted = sound.accepted in
    both_true (selection.has (state_parts v).0) _ (selection_has v (first_true regs told two))
    (both_true ((in_use v.size).has v.ready) _ (use_has v.size v.ready sound.size)
    (both_true ((queue v.ready).has (state_parts v).1.1.0) _
    (both_true (register.has v.interrupt) _ (register_has v.interrupt (short_first v.interrupt (v.status ∷ []) short))
    (both_true (register.has v.status) _ (register_has v.status (short_first v.status [] (short_rest v.interrupt (v.status ∷ []) short)))
    (both_true ((aligned v.ready 16).has v.descriptors) _ (aligned_has v.ready 16 v.descriptors (word_first v.descriptors (v.available ∷ v.used ∷ []) words) sound.descriptors)
    (both_true ((aligned v.ready 2).has v.available) _
    (aligned_has v.ready 2 v.available (word_first v.available (v.used ∷ []) (word_rest v.descriptors (v.available ∷ v.used ∷ []) words)) sound.available)
    (both_true ((aligned v.ready 4).has v.used) _
    (aligned_has v.ready 4 v.used (word_first v.used [] (word_rest v.available (v.used ∷ []) (word_rest v.descriptors (v.available ∷ v.used ∷ []) words))) sound.used)
    (head_has v.accepted (less_is v.accepted (2 ^ 16) accepted)))))))
    (both_true ((request_flag v.status).has (is_some v.request)) _ (flag_may v.status v.request sound.whole)
    (after_has v.request sound.placed (second_true (regs && told && places) (is_typed_under_way v.request) typed)))))

data_lies : (q : VirtioRequest) (n : ℕ) (before : Bool) → nat_lt q.part (q.count - 1) ≡ before → IsPlaced q → IsOnDisk n q
    → (not before || nat_le (512 * q.sector + bytes_in (between q.parts 1 (q.count - 1))) n) ≡ true
data_lies q n true is placed on =
    let before = below_is q.part (q.count - 1) is in
    let ends = data_ends q placed.begun before (placed.offset before) in
    let there = on before in
    least_is (512 * q.sector + bytes_in (between q.parts 1 (q.count - 1))) n (omega (arith, ends, there))
data_lies q n false is placed on = refl

request_lies : (o : Option VirtioRequest) (n : ℕ) → IfSome o IsPlaced → IfSome o (IsOnDisk n) → holds_data o n ≡ true
request_lies None n placed on = refl
request_lies (Some q) n placed on = data_lies q n (nat_lt q.part (q.count - 1)) refl placed on

-- ---- of either kind

port_has : (p : PortState) (bytes : List ℕ) → is_typed_port p ≡ true → IsSoundPort p bytes → (port (kind_of p)).has p ≡ true
unfolding port
port_has (PortState.Block b) bytes typed sound = block_has b bytes typed sound
port_has (PortState.Virtio v) bytes typed sound = virtio_has v bytes typed sound

lies : (p : PortState) (bytes : List ℕ) → IsSoundPort p bytes → lies_on p (length bytes) ≡ true
lies (PortState.Block b) bytes sound = block_lies b (length bytes) (is_busy b) refl sound.inside
lies (PortState.Virtio v) bytes sound = request_lies v.request (length bytes) sound.placed sound.on_disk

disk_has : (p : PortState) (bytes : List ℕ) → length bytes ≤ max_disk_bytes → length bytes % 512 ≡ 0 → IsSoundPort p bytes → (disk p).has bytes ≡ true
unfolding disk
disk_has p bytes few whole sound =
    both_true _ (length bytes == length bytes)
    (both_true (is_word (length bytes)) _ (small_word (length bytes) (omega (arith, few)))
    (both_true (nat_le (length bytes) max_disk_bytes && length bytes % 512 == 0) _
    (both_true (nat_le (length bytes) max_disk_bytes) _ (least_is (length bytes) max_disk_bytes few) (eq-eqb (length bytes % 512) 0 whole)) (lies p bytes sound)))
    (eq-eqb (length bytes) (length bytes) refl)

pub device_has : (s : Contents) → is_typed_port s.port ≡ true → length s.disk ≤ max_disk_bytes → length s.disk % 512 ≡ 0 → IsSoundPort s.port s.disk → HasDevice s
device_has s typed few whole sound = record { port = port_has s.port s.disk typed sound; disk = disk_has s.port s.disk few whole sound }
