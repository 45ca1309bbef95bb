-- The encoding of a snapshot is no longer than a snapshot's file may be.
use Rattle.std.proofs.Common.{◌≡◌, ℕ, zero, suc, ◌+◌, ◌*◌, ◌^◌, ◌≤◌, Bool, true, false, cond, leb, List, [], ◌∷◌, ◌++◌, length, Some, None, ap, arith}
use Rattle.std.specs.Prelude.{◌&&◌, ◌||◌, not, nat_lt, nat_le, ◌==◌, ◌%◌, ◌-◌, min, is_some}
use Rattle.std.proofs.lemmas.Bool.{eqb-true, leb-true}
use Rattle.std.proofs.lemmas.List.{length-append}
use Rattle.std.proofs.Math.Nat.{mul-le-mul_right, suc-mul}
use Rattle.spec_processor.specs.Bytes.{page_size}
use Rattle.sv_types.specs.Policies.{is_between, harts_within, ram_pages_within, modules_count_within}
use Rattle.spec_processor.specs.Registers.{legal_status, legal_interrupts, legal_tvec, legal_counteren, legal_epc, legal_satp}
use Rattle.sv_types.specs.Limits.{max_disk_bytes, max_notes}
use Rattle.sv_types.specs.declared.event.Verdict.{Verdict}
use Rattle.sv_types.specs.VirtioResults.{result_number}
use Rattle.sv_types.specs.declared.port.PortState.{PortState}
use Rattle.sv_types.specs.declared.virtio.VirtioPart.{VirtioPart}
use Rattle.snapshot_format.specs.VirtioForms.{register, ring_index, selection, size_in, in_use, is_aligned, aligned, queue, status_in, is_ring, accepted, count_in}
use Rattle.snapshot_format.specs.VirtioForms.{place_reached, may_stand, part_of, part_parts, descriptor, next_descriptor, descriptors, result_of, result_form}
use Rattle.snapshot_format.specs.VirtioForms.{may_be_moved, may_be_made, progress, request_of, request_parts, request_form, no_request, request_flag}
use Rattle.snapshot_format.specs.VirtioForms.{request_after, request_under_way, state_of, state_parts, virtio}
use Rattle.snapshot_format.specs.PageForms.{some_or}
use Rattle.snapshot_format.specs.declared.whole.PortKind.{PortKind}
use Rattle.snapshot_format.specs.declared.whole.PortKind.TheVariants.{Block, Virtio}
use Rattle.spec_reference.specs.BlockDisk.{sector_size}
use Rattle.spec_reference.specs.declared.saved_machine.harts.SavedHart.{SavedHart}
use Rattle.sv_types.specs.SbiCodes.{code_word}
use Rattle.snapshot_format.specs.DeviceForms.{console, goes_with, has_beats, transfer, standing_status, block, holds_disk, disk, devices, is_block, port}
use Rattle.snapshot_format.specs.Forms.{Form, encode_number, is_word, number, byte, plain, nothing, within, and_then, ◌⨾◌, map_form, always}
use Rattle.snapshot_format.specs.Forms.{encode_all, has_all, list_form, counted_list, counted_bytes}
use Rattle.snapshot_format.specs.HartForms.{flag, mode, place, is_nonzero, reservation, multiple_of, legal, privilege, trap_status, status, registers, begins_with_0, hart, harts}
use Rattle.snapshot_format.specs.JournalForms.{count, event_counts, hart_counts, rule_counts, counts, codes_known, is_among, found_among}
use Rattle.snapshot_format.specs.JournalForms.{code, hart_number, is_kind, demote_form, denied_note, answer, load_note, unload, retire_of}
use Rattle.snapshot_format.specs.JournalForms.{retire_parts, retire, note_after, note_form, notes, is_verdict, stopped_entry, stopped_write}
use Rattle.snapshot_format.specs.JournalForms.{verdict_after, verdict, journal}
use Rattle.snapshot_format.specs.PageForms.{protection_form, protections, is_above, text_page, text, pages, module_within, next_module, modules, load, load_after, load_under_way, gate}
use Rattle.snapshot_format.specs.Snapshots.{magic, magic_form, Header, header_of, header_parts, header, Contents, body, whole_of, whole_header, whole_body, snapshot, max_snapshot_bytes}
use Rattle.snapshot_format.proofs.FormLaws.{first_true, second_true}

-- ---- what is put together from forms of bounded length

pub record IsAtMost {A : Type 0} (f : Form A) (n : ℕ) : Type 0 where
  pub bound : (a : A) → f.has a ≡ true → length (f.encode a) ≤ n

longer_by : {A : Type 0} (f : Form A) (m n : ℕ) → IsAtMost f m → m ≤ n → IsAtMost f n
longer_by f m n F le = record { bound = λ a h. omega (arith, F.bound a h) }

number_short : IsAtMost number 8
unfolding encode_number
number_short = record { bound = λ a h. omega arith }

byte_short : IsAtMost byte 1
byte_short = record { bound = λ a h. omega arith }

plain_short : (n : ℕ) → IsAtMost (plain n) n
plain_short n = record { bound = λ a h. omega (arith, eqb-true (length a) n h) }

nothing_short : {A : Type 0} (value : A) (is : A → Bool) (n : ℕ) → IsAtMost (nothing value is) n
nothing_short value is n = record { bound = λ a h. omega arith }

within_short : {A : Type 0} (good : A → Bool) (f : Form A) (n : ℕ) → IsAtMost f n → IsAtMost (within good f) n
within_short good f n F = record { bound = λ a h. F.bound a (first_true (f.has a) (good a) h) }

made_short : {A B : Type 0} (to : A → B) (from : B → A) (proper : B → Bool) (f : Form A) (n : ℕ) → IsAtMost f n → IsAtMost (map_form to from proper f) n
made_short to from proper f n F = record { bound = λ b h. F.bound (from b) (second_true (proper b) (f.has (from b)) h) }

both_short : {A B : Type 0} (f : Form A) (g : A → Form B) (m n : ℕ) → IsAtMost f m → ((a : A) → f.has a ≡ true → IsAtMost (g a) n) → IsAtMost (and_then f g) (m + n)
both_short f g m n F G = record {
  bound = λ x h.
      let one = first_true (f.has x.0) ((g x.0).has x.1) h in
      let two = second_true (f.has x.0) ((g x.0).has x.1) h in
      omega (arith, length-append (f.encode x.0) ((g x.0).encode x.1), F.bound x.0 one, (G x.0 one).bound x.1 two);
}

pair_short : {A B : Type 0} (f : Form A) (g : Form B) (m n : ℕ) → IsAtMost f m → IsAtMost g n → IsAtMost (f ⨾ g) (m + n)
pair_short f g m n F G = both_short f (λ a. g) m n F (λ a h. G)

numbers_short : (good : ℕ → Bool) → IsAtMost (within good number) 8
numbers_short good = within_short good number 8 number_short

all_short : {A : Type 0} (f : List A → Form A) (k : ℕ) → ((before : List A) → IsAtMost (f before) k) → (before : List A) (n : ℕ) (values : List A)
    → has_all f before n values ≡ true → length (encode_all f before values) ≤ n * k
unfolding has_all encode_all
all_short f k F before zero [] h = omega arith
all_short f k F before zero (a ∷ values) h = absurd cc
all_short f k F before (suc n) [] h = absurd cc
all_short f k F before (suc n) (a ∷ values) h =
    let one = (F before).bound a (first_true ((f before).has a) (has_all f (before ++ a ∷ []) n values) h) in
    let rest = all_short f k F (before ++ a ∷ []) n values (second_true ((f before).has a) (has_all f (before ++ a ∷ []) n values) h) in
    let whole = length-append ((f before).encode a) (encode_all f (before ++ a ∷ []) values) in
    let more : suc n * k ≡ n * k + k = suc-mul n k in
    rw more (omega (arith, one, rest, whole))

listed_short : {A : Type 0} (f : List A → Form A) (k n : ℕ) → ((before : List A) → IsAtMost (f before) k) → IsAtMost (list_form f [] n) (n * k)
listed_short f k n F = record { bound = λ values h. all_short f k F [] n values h }

counted_short : {A : Type 0} (few : ℕ → Bool) (f : List A → Form A) (k most : ℕ) → ((n : ℕ) → few n ≡ true → n ≤ most) → ((before : List A) → IsAtMost (f before) k)
    → IsAtMost (counted_list few f) (8 + most * k)
counted_short few f k most Few F =
    made_short _ _ always _ (8 + most * k)
    (both_short (within few number) (list_form f []) 8 (most * k) (numbers_short few)
    (λ n h. longer_by (list_form f [] n) (n * k) (most * k) (listed_short f k n F) (mul-le-mul_right k (Few n (second_true (is_word n) (few n) h)))))

measured_short : (few : ℕ → Bool) (most : ℕ) → ((n : ℕ) → few n ≡ true → n ≤ most) → IsAtMost (counted_bytes few) (8 + most)
measured_short few most Few =
    made_short _ _ always _ (8 + most)
    (both_short (within few number) plain 8 most (numbers_short few)
    (λ n h. longer_by (plain n) n most (plain_short n) (Few n (second_true (is_word n) (few n) h))))

choose_short : {A : Type 0} (b : Bool) (f g : Form A) (n : ℕ) → IsAtMost f n → IsAtMost g n → IsAtMost (cond b f g) n
choose_short true f g n F G = F
choose_short false f g n F G = G

-- ---- harts

flag_short : IsAtMost flag 8
unfolding flag
flag_short = made_short _ _ always _ 8 (numbers_short (λ n. nat_le n 1))

privilege_short : IsAtMost privilege 24
unfolding privilege mode place
privilege_short =
    both_short flag _ 8 16 flag_short (λ started h.
    both_short _ _ 8 8 (within_short _ _ 8 (made_short _ _ always flag 8 flag_short)) (λ m p.
    within_short _ _ 8 (made_short _ _ always _ 8 (numbers_short (λ n. nat_le n 64)))))

aligned_short : (size : ℕ) → IsAtMost (multiple_of size) 8
unfolding multiple_of
aligned_short size = numbers_short (λ n. n % size == 0)

legal_short : (bits : ℕ → ℕ) → IsAtMost (legal bits) 8
unfolding legal
legal_short bits = numbers_short (λ n. bits n == n)

status_short : IsAtMost status 80
unfolding status trap_status
status_short =
    pair_short _ _ 8 72 (legal_short legal_status) (pair_short _ _ 8 64 (legal_short legal_interrupts) (pair_short _ _ 8 56 (legal_short legal_tvec)
    (pair_short _ _ 8 48 (legal_short legal_counteren) (pair_short _ _ 8 40 number_short (pair_short _ _ 8 32 (legal_short legal_epc)
    (pair_short _ _ 8 24 number_short (pair_short _ _ 8 16 number_short
    (pair_short _ _ 8 8 (numbers_short (λ n. n == 0 || n == 2)) (legal_short (legal_satp 0))))))))))

registers_short : IsAtMost registers 248
unfolding registers
registers_short = listed_short (λ before. number) 8 31 (λ before. number_short)

reservation_short : (ram_pages : ℕ) → IsAtMost (reservation ram_pages) 8
unfolding reservation
reservation_short ram_pages = made_short _ _ is_nonzero _ 8 (numbers_short _)

hart_short : (ram_pages : ℕ) → IsAtMost (hart ram_pages) 376
unfolding hart
hart_short ram_pages =
    made_short _ _ (λ h. begins_with_0 h.registers) _ 376
    (pair_short _ _ 24 352 privilege_short (pair_short _ _ 8 344 (aligned_short 4) (pair_short _ _ 248 96 registers_short
    (pair_short _ _ 80 16 status_short (pair_short _ _ 8 8 (reservation_short ram_pages) number_short)))))

harts_short : (ram_pages count : ℕ) → count ≤ 4 → IsAtMost (harts ram_pages count) 1504
unfolding harts
harts_short ram_pages count few =
    longer_by _ (count * 376) 1504 (listed_short (λ before. hart ram_pages) 376 count (λ before. hart_short ram_pages)) (omega arith)

-- ---- pages

protections_short : (ram_pages : ℕ) → IsAtMost (protections ram_pages) (ram_pages * 1)
unfolding protections protection_form
protections_short ram_pages =
    listed_short (λ before. protection_form) 1 ram_pages (λ before. made_short _ _ always _ 1 (within_short (λ n. nat_le n 2) byte 1 byte_short))

text_short : (ram_pages : ℕ) → IsAtMost (text ram_pages) (8 + ram_pages * 40)
unfolding text text_page
text_short ram_pages =
    counted_short (λ n. nat_le n ram_pages) (text_page ram_pages) 40 ram_pages (λ n h. leb-true n ram_pages h)
    (λ before. made_short _ _ always _ 40 (pair_short _ _ 8 32 (numbers_short _) (plain_short 32)))

module_short : (good : ℕ → Bool) → IsAtMost (module_within good) 32
unfolding module_within
module_short good =
    made_short _ _ always _ 32
    (pair_short _ _ 8 24 (numbers_short good) (pair_short _ _ 8 16 (aligned_short page_size) (pair_short _ _ 8 8 (aligned_short page_size) number_short)))

load_short : (harts : List SavedHart) → IsAtMost (load harts) 48
unfolding load
load_short harts =
    made_short _ _ always _ 48 (pair_short _ _ 8 40 (numbers_short _) (pair_short _ _ 32 8 (module_short (is_above None)) (numbers_short (λ n. nat_le n 1024))))

load_after_short : (harts : List SavedHart) (b : Bool) → IsAtMost (load_after harts b) 48
unfolding load_after
load_after_short harts true = made_short _ _ is_some (load harts) 48 (load_short harts)
load_after_short harts false = nothing_short None (λ o. not (is_some o)) 48

gate_short : (harts : List SavedHart) → IsAtMost (gate harts) 2120
unfolding gate modules load_under_way
gate_short harts =
    pair_short _ _ 2056 64 (counted_short modules_count_within next_module 32 64 (λ n h. leb-true n 64 h) (λ before. module_short _))
    (pair_short _ _ 8 56 flag_short
    (made_short _ _ always _ 56 (both_short flag (load_after harts) 8 48 flag_short (λ b h. load_after_short harts b))))

-- ---- devices

on_disk : (p : PortState) (n : ℕ) → holds_disk p n ≡ true → n ≤ max_disk_bytes
on_disk p n h =
    let parts = first_true (nat_le n max_disk_bytes && n % sector_size == 0) _ h in
    leb-true n max_disk_bytes (first_true (nat_le n max_disk_bytes) _ parts)

transfer_short : (gpa count : ℕ) → IsAtMost (transfer gpa count) 24
unfolding transfer
transfer_short gpa count =
    both_short _ _ 8 16 (numbers_short (λ n. nat_le n 2)) (λ command h.
    both_short _ _ 8 8 (numbers_short (goes_with gpa count command)) (λ now h. numbers_short (has_beats count now)))

standing_short : (gpa count : ℕ) → IsAtMost (standing_status gpa count) 24
unfolding standing_status
standing_short gpa count = made_short _ _ always _ 24 (transfer_short gpa count)

block_short : IsAtMost block 48
unfolding block
block_short =
    made_short _ _ always _ 48 (pair_short _ _ 8 40 number_short (both_short number _ 8 32 number_short (λ gpa h.
    both_short _ (standing_status gpa) 8 24 (numbers_short (λ n. nat_lt n (2 ^ 32))) (λ count h. standing_short gpa count))))

register_short : IsAtMost register 8
unfolding register
register_short = numbers_short (λ n. nat_lt n (2 ^ 32))

ring_index_short : IsAtMost ring_index 8
unfolding ring_index
ring_index_short = numbers_short (λ n. nat_lt n (2 ^ 16))

aligned_place_short : (ready : Bool) (size : ℕ) → IsAtMost (aligned ready size) 8
unfolding aligned
aligned_place_short ready size = numbers_short (is_aligned ready size)

selection_short : IsAtMost selection 48
unfolding selection
selection_short =
    pair_short _ _ 8 40 register_short (pair_short _ _ 8 32 register_short (pair_short _ _ 8 24 register_short (pair_short _ _ 8 16 register_short
    (pair_short _ _ 8 8 register_short register_short))))

queue_short : (ready : Bool) → IsAtMost (queue ready) 48
unfolding queue
queue_short ready =
    pair_short _ _ 8 40 register_short (pair_short _ _ 8 32 register_short (pair_short _ _ 8 24 (aligned_place_short ready 16)
    (pair_short _ _ 8 16 (aligned_place_short ready 2) (pair_short _ _ 8 8 (aligned_place_short ready 4) ring_index_short))))

accepted_short : IsAtMost accepted 40
unfolding accepted
accepted_short =
    pair_short _ _ 8 32 ring_index_short (pair_short _ _ 8 24 number_short (pair_short _ _ 8 16 (numbers_short (is_between 1 64))
    (pair_short _ _ 8 8 (numbers_short is_ring) (numbers_short (is_between 2 34)))))

descriptors_short : (count reached : ℕ) → IsAtMost (descriptors count reached) 816
unfolding descriptors next_descriptor descriptor
descriptors_short count reached =
    listed_short (next_descriptor count reached) 24 34
    (λ before. within_short (may_stand count reached (length before)) _ 24
    (made_short part_of part_parts always _ 24 (pair_short _ _ 8 16 number_short (pair_short _ _ 8 8 register_short flag_short))))

progress_short : (count reached : ℕ) (parts : List VirtioPart) → IsAtMost (progress count reached parts) 32
unfolding progress result_form
progress_short count reached parts =
    pair_short _ _ 8 24 (within_short (may_be_moved count reached parts) register 8 register_short) (pair_short _ _ 8 16 (numbers_short (may_be_made count reached))
    (pair_short _ _ 8 8 (made_short result_of result_number always _ 8 (numbers_short (λ n. nat_le n 2))) register_short))

request_short : IsAtMost request_form 896
unfolding request_form place_reached
request_short =
    made_short request_of request_parts always _ 896
    (both_short accepted _ 40 856 accepted_short (λ a h.
    both_short (place_reached (count_in a)) _ 8 848 (numbers_short (is_between 1 (count_in a - 1))) (λ reached h.
    both_short (descriptors (count_in a) reached) (progress (count_in a) reached) 816 32 (descriptors_short (count_in a) reached)
    (λ parts h. progress_short (count_in a) reached parts))))

request_after_short : (b : Bool) → IsAtMost (request_after b) 896
unfolding request_after
request_after_short true = made_short Some (some_or no_request) is_some request_form 896 request_short
request_after_short false = nothing_short None (λ o. not (is_some o)) 896

under_way_short : (status : ℕ) → IsAtMost (request_under_way status) 904
unfolding request_under_way request_flag
under_way_short status =
    made_short _ _ always _ 904 (both_short (request_flag status) request_after 8 896 (within_short _ flag 8 flag_short) (λ b h. request_after_short b))

virtio_short : IsAtMost virtio 1008
unfolding virtio in_use
virtio_short =
    made_short state_of state_parts always _ 1008
    (both_short selection _ 48 960 selection_short (λ x h.
    both_short (in_use (size_in x)) _ 8 952 (within_short _ flag 8 flag_short) (λ ready h.
    both_short (queue ready) (λ y. request_under_way (status_in y)) 48 904 (queue_short ready) (λ y h. under_way_short (status_in y)))))

port_short : (kind : PortKind) → IsAtMost (port kind) 1008
unfolding port
port_short Block = longer_by _ 48 1008 (made_short _ _ is_block _ 48 block_short) (omega arith)
port_short Virtio = made_short _ _ (λ p. not (is_block p)) _ 1008 virtio_short

devices_short : (kind : PortKind) → IsAtMost (devices kind) (1280 + max_disk_bytes)
unfolding devices console disk
devices_short kind =
    pair_short console _ 264 (1016 + max_disk_bytes) (measured_short (λ n. nat_le n 256) 256 (λ n h. leb-true n 256 h))
    (both_short (port kind) disk 1008 (8 + max_disk_bytes) (port_short kind)
    (λ p h. measured_short (holds_disk p) max_disk_bytes (on_disk p)))

-- ---- the journal

counts_short : (events : ℕ) → IsAtMost (counts events) 120
unfolding counts event_counts hart_counts rule_counts count
counts_short events =
    let one : IsAtMost (within (λ n. nat_le n events) number) 8 = numbers_short (λ n. nat_le n events) in
    made_short _ _ always _ 120
    (pair_short _ _ 32 88 (pair_short _ _ 8 24 one (pair_short _ _ 8 16 one (pair_short _ _ 8 8 one one)))
    (pair_short _ _ 40 48 (pair_short _ _ 8 32 one (pair_short _ _ 8 24 one (pair_short _ _ 8 16 one (pair_short _ _ 8 8 one one))))
    (pair_short _ _ 8 40 one (pair_short _ _ 8 32 one (pair_short _ _ 8 24 one (pair_short _ _ 8 16 one (pair_short _ _ 8 8 one one)))))))

hart_number_short : (harts : ℕ) → IsAtMost (hart_number harts) 8
unfolding hart_number
hart_number_short harts = numbers_short (λ n. nat_lt n harts)

answer_short : (harts : ℕ) → IsAtMost (answer harts) 32
unfolding answer code
answer_short harts =
    pair_short _ _ 8 24 (hart_number_short harts)
    (pair_short _ _ 8 16 number_short (pair_short _ _ 8 8 number_short (made_short (found_among codes_known) code_word always (within (is_among codes_known) number) 8
    (within_short (is_among codes_known) number 8 number_short))))

retire_short : (harts : ℕ) → IsAtMost (retire harts) 24
unfolding retire code
retire_short harts =
    made_short retire_of retire_parts (is_kind 5) _ 24
    (pair_short _ _ 8 16 (hart_number_short harts)
    (pair_short _ _ 8 8 number_short (made_short (found_among codes_known) code_word always (within (is_among codes_known) number) 8 (within_short (is_among codes_known) number 8 number_short))))

note_after_short : (harts kind : ℕ) → IsAtMost (note_after harts kind) 32
unfolding note_after demote_form denied_note load_note unload
note_after_short harts kind =
    choose_short (kind == 1) _ _ 32
    (made_short _ _ (is_kind 1) _ 32 (pair_short _ _ 8 24 (hart_number_short harts) (pair_short _ _ 8 16 number_short (pair_short _ _ 8 8 (aligned_short 4) number_short))))
    (choose_short (kind == 2) _ _ 32 (longer_by _ 8 32 (made_short _ _ (is_kind 2) number 8 number_short) (omega arith))
    (choose_short (kind == 3) _ _ 32 (made_short _ _ (is_kind 3) (answer harts) 32 (answer_short harts))
    (choose_short (kind == 4) _ _ 32 (made_short _ _ (is_kind 4) (answer harts) 32 (answer_short harts))
    (longer_by _ 24 32 (retire_short harts) (omega arith)))))

-- the lesser of two numbers is at most the first
kept_few : (all n : ℕ) → (n == min max_notes all) ≡ true → n ≤ max_notes
kept_few all n h = omega (arith, eqb-true n (min max_notes all) h)

notes_short : (harts all : ℕ) → IsAtMost (notes harts all) 163848
unfolding notes note_form
notes_short harts all =
    counted_short (λ n. n == min max_notes all) (λ before. note_form harts) 40 max_notes (kept_few all)
    (λ before. made_short _ _ always _ 40 (both_short _ (note_after harts) 8 32 (numbers_short (is_between 1 5)) (λ kind h. note_after_short harts kind)))

verdict_short : (harts : ℕ) → IsAtMost (verdict harts) 40
unfolding verdict verdict_after stopped_entry stopped_write
verdict_short harts =
    made_short _ _ always _ 40 (both_short _ (verdict_after harts) 8 32 (numbers_short (λ n. nat_le n 3)) (λ kind h.
    choose_short (kind == 0) _ _ 32 (nothing_short Verdict.Running (is_verdict 0) 32)
    (choose_short (kind == 1) _ _ 32 (nothing_short Verdict.Shutdown (is_verdict 1) 32)
    (choose_short (kind == 2) _ _ 32
    (longer_by _ 24 32 (made_short _ _ (is_verdict 2) _ 24 (pair_short _ _ 8 16 number_short (pair_short _ _ 8 8 (hart_number_short harts) number_short))) (omega arith))
    (made_short _ _ (is_verdict 3) _ 32 (pair_short _ _ 8 24 (aligned_short 4) (pair_short _ _ 8 16 number_short (pair_short _ _ 8 8 (hart_number_short harts) number_short))))))))

journal_short : (events harts : ℕ) → IsAtMost (journal events harts) 164008
unfolding journal
journal_short events harts =
    both_short (counts events) _ 120 163888 (counts_short events) (λ c h. pair_short _ _ 163848 40 (notes_short harts c.notes) (verdict_short harts))

-- ---- the whole

eight : (kind : PortKind) → length (magic kind) ≤ 8
eight Block = omega arith
eight Virtio = omega arith

header_short : IsAtMost header 40
unfolding header
header_short =
    made_short header_of header_parts always _ 40
    (pair_short magic_form _ 8 32 (record { bound = λ kind h. eight kind })
    (pair_short _ _ 8 24 (numbers_short (λ n. nat_le n (2 ^ 32))) (pair_short _ _ 8 16 (numbers_short harts_within)
    (pair_short _ _ 8 8 (numbers_short ram_pages_within) number_short))))

few_harts : (h : Header) → header.has h ≡ true → h.harts ≤ 4
unfolding header
few_harts h has =
    let from_harts = second_true ((within (λ n. nat_le n (2 ^ 32)) number).has h.events) _ (second_true (magic_form.has h.kind) _ has) in
    let good = second_true (is_word h.harts) (harts_within h.harts) (first_true ((within harts_within number).has h.harts) _ from_harts) in
    leb-true h.harts 4 (second_true (leb 1 h.harts) (leb h.harts 4) good)

few_pages : (h : Header) → header.has h ≡ true → h.ram_pages ≤ 262144
unfolding header
few_pages h has =
    let from_harts = second_true ((within (λ n. nat_le n (2 ^ 32)) number).has h.events) _ (second_true (magic_form.has h.kind) _ has) in
    let from_pages = second_true ((within harts_within number).has h.harts) _ from_harts in
    let good = second_true (is_word h.ram_pages) (ram_pages_within h.ram_pages) (first_true ((within ram_pages_within number).has h.ram_pages) _ from_pages) in
    omega (arith, leb-true h.ram_pages _ (second_true (leb 16 h.ram_pages) _ good))

abbrev max_body_bytes : ℕ
max_body_bytes = 1363148760

body_short : (h : Header) → h.harts ≤ 4 → h.ram_pages ≤ 262144 → IsAtMost (body h) max_body_bytes
unfolding body pages
body_short h harts_few pages_few =
    let ram : ℕ = page_size * h.ram_pages in
    let journal_on : ℕ = 164008 + ram in
    let devices_on : ℕ = (1280 + max_disk_bytes) + journal_on in
    let gate_on : ℕ = 2120 + devices_on in
    let of_pages : ℕ = h.ram_pages * 1 + (8 + h.ram_pages * 40) in
    longer_by _ (1504 + (of_pages + gate_on)) max_body_bytes
    (both_short (harts h.ram_pages h.harts) _ 1504 (of_pages + gate_on) (harts_short h.ram_pages h.harts harts_few) (λ hs p.
    pair_short _ _ of_pages gate_on (pair_short _ _ (h.ram_pages * 1) (8 + h.ram_pages * 40) (protections_short h.ram_pages) (text_short h.ram_pages))
    (pair_short _ _ 2120 devices_on (gate_short hs) (pair_short _ _ (1280 + max_disk_bytes) journal_on (devices_short h.kind)
    (pair_short _ _ 164008 ram (journal_short h.events h.harts) (plain_short ram))))))
    (omega arith)

pub snapshot_length : (s : Contents) → snapshot.has s ≡ true → length (snapshot.encode s) ≤ max_snapshot_bytes
unfolding snapshot
snapshot_length s h =
    (made_short whole_of (λ s. (whole_header s, whole_body s)) always (and_then header body) max_snapshot_bytes
    (both_short header body 40 max_body_bytes header_short (λ head has. body_short head (few_harts head has) (few_pages head has)))).bound s h
