-- What a snapshot's form gives: the ranges of its parts.
use Rattle.std.proofs.Common.{◌≡◌, ℕ, ◌+◌, ◌-◌, ◌*◌, ◌%◌, ◌^◌, ◌<◌, ◌≤◌, List, [], ◌∷◌, ◌++◌, length, refl, sym, subst, true, ◌&&◌, arith, slice_get, length-append}
use Rattle.std.specs.Prelude.{Some, nat_lt, nat_le, ◌==◌}
use Rattle.std.proofs.lemmas.Bool.{eqb-true}
use Rattle.std.proofs.lemmas.Bool.Decides.{nat_tests}
use Rattle.spec_processor.specs.Bytes.{page_size}
use Rattle.sv_types.specs.Policies.{harts_within}
use Rattle.sv_types.specs.declared.block.BlockCommand.{BlockCommand}
use Rattle.sv_types.specs.declared.block.BlockState.{BlockState}
use Rattle.sv_types.specs.declared.block.BlockStatus.{BlockStatus}
use Rattle.spec_reference.specs.BlockDisk.{beat_size, beats_done, is_busy, is_under_way, sector_size}
use Rattle.snapshot_format.specs.DeviceForms.{block, console, devices, disk, kind_of, port, sectors, standing_status, transfer}
use Rattle.snapshot_format.specs.Forms.{is_word}
use Rattle.snapshot_format.specs.HartForms.{flag, harts}
use Rattle.snapshot_format.specs.JournalForms.{counts, notes, verdict, journal}
use Rattle.snapshot_format.specs.PageForms.{protections, text, pages, modules, load_under_way, gate}
use Rattle.snapshot_format.specs.Snapshots.{Contents, magic_form, events_made, hart_count, header, body, whole_header, whole_body, snapshot}
use Rattle.snapshot_format.proofs.FormLaws.{first_true, second_true}

-- the parts of a snapshot have their forms
pub record HasParts (s : Contents) : Type 0 where
  pub few : harts_within (length s.harts) ≡ true
  pub harts : (harts (length s.protection) (length s.harts)).has s.harts ≡ true
  pub text : (text (length s.protection)).has s.text ≡ true
  pub modules : modules.has s.modules ≡ true
  pub loading : (load_under_way s.harts).has s.loading ≡ true
  pub devices : (devices (kind_of s.port)).has (s.console, (s.port, s.disk)) ≡ true
  pub console : console.has s.console ≡ true
  pub port : (port (kind_of s.port)).has s.port ≡ true
  pub notes : (notes (length s.harts) s.counts.notes).has s.notes ≡ true
  pub verdict : (verdict (length s.harts)).has s.verdict ≡ true
  pub ram : length s.ram ≡ page_size * length s.protection

pub parts_of : (s : Contents) → snapshot.has s ≡ true → HasParts s
unfolding snapshot header body pages gate devices journal
parts_of s h =
    let h0 = whole_header s in
    let b = whole_body s in
    let whole = second_true (header.has h0) ((body h0).has b) h in
    let behind = second_true ((harts h0.ram_pages h0.harts).has b.0) _ whole in
    let page_parts = first_true ((pages h0.ram_pages).has b.1.0) _ behind in
    let after_pages = second_true ((pages h0.ram_pages).has b.1.0) _ behind in
    let gate_parts = first_true ((gate b.0).has b.1.1.0) _ after_pages in
    let after_gate = second_true ((gate b.0).has b.1.1.0) _ after_pages in
    let device_parts = first_true ((devices h0.kind).has b.1.1.1.0) _ after_gate in
    let after_devices = second_true ((devices h0.kind).has b.1.1.1.0) _ after_gate in
    let journal_parts = first_true ((journal h0.events h0.harts).has b.1.1.1.1.0) _ after_devices in
    let ram_part = second_true ((journal h0.events h0.harts).has b.1.1.1.1.0) _ after_devices in
    let from_port = second_true (console.has s.console) _ device_parts in
    let notes_on = second_true ((counts h0.events).has s.counts) _ journal_parts in
    let head = first_true (header.has h0) ((body h0).has b) h in
    let head_events = second_true (magic_form.has h0.kind) _ head in
    let head_harts = second_true (events_made.has h0.events) _ head_events in
    let hart_part = first_true (hart_count.has h0.harts) _ head_harts in
    record {
      few = second_true (is_word h0.harts) (harts_within h0.harts) hart_part;
      harts = first_true ((harts h0.ram_pages h0.harts).has b.0) _ whole;
      text = second_true ((protections h0.ram_pages).has s.protection) _ page_parts;
      modules = first_true (modules.has s.modules) _ gate_parts;
      loading = second_true (flag.has s.retired) _ (second_true (modules.has s.modules) _ gate_parts);
      devices = device_parts;
      console = first_true (console.has s.console) _ device_parts;
      port = first_true ((port h0.kind).has s.port) ((disk s.port).has s.disk) from_port;
      notes = first_true ((notes h0.harts s.counts.notes).has s.notes) _ notes_on;
      verdict = second_true ((notes h0.harts s.counts.notes).has s.notes) _ notes_on;
      ram = eqb-true (length s.ram) (page_size * h0.ram_pages) ram_part;
    }

-- ---- lists

-- the last of a list that has one more
last_at : {A : Type 0} (xs : List A) (x : A) → slice_get (xs ++ x ∷ []) (length xs) ≡ Some x
last_at [] x = refl
last_at (y ∷ xs) x = last_at xs x

pub last_of : {A : Type 0} (xs : List A) (x : A) → slice_get (xs ++ x ∷ []) (length (xs ++ x ∷ []) - 1) ≡ Some x
last_of xs x =
    let more : length (xs ++ x ∷ []) ≡ length xs + 1 = length-append xs (x ∷ []) in
    let at : length (xs ++ x ∷ []) - 1 ≡ length xs = omega (arith, more) in
    subst (λ (i : ℕ). slice_get (xs ++ x ∷ []) i ≡ Some x) (sym at) (last_at xs x)

-- ---- numbers

pub is_small : (n : ℕ) → is_word n ≡ true → n < 2 ^ 64
is_small n e = grind (arith, nat_tests)

pub below_is : (a b : ℕ) → nat_lt a b ≡ true → a < b
below_is a b e = grind (arith, nat_tests)

pub max_is : (a b : ℕ) → nat_le a b ≡ true → a ≤ b
max_is a b e = grind (arith, nat_tests)

-- and what is in a range has it

pub small_word : (n : ℕ) → n < 2 ^ 64 → is_word n ≡ true
small_word n e = grind (arith, nat_tests)

pub less_is : (a b : ℕ) → a < b → nat_lt a b ≡ true
less_is a b e = grind (arith, nat_tests)

pub least_is : (a b : ℕ) → a ≤ b → nat_le a b ≡ true
least_is a b e = grind (arith, nat_tests)

-- ---- a transfer

-- a transfer under way has an address of a beat's bytes, and beats left
pub record PendingLoad (gpa count : ℕ) (status : BlockStatus) : Type 0 where
  pub aligned : gpa % beat_size ≡ 0
  pub left : beat_size * beats_done status < sector_size * count

standing_goes : (gpa count : ℕ) (status : BlockStatus) → (standing_status gpa count).has status ≡ true → is_under_way status ≡ true → PendingLoad gpa count status
unfolding standing_status transfer
standing_goes gpa count BlockStatus.Idle h busy = absurd cc
standing_goes gpa count (BlockStatus.Busy BlockCommand.DiskToMemory done) h busy =
    let begun = second_true (nat_lt 0 count) _ (first_true (nat_lt 0 count && gpa % beat_size == 0) _ h) in
    let beats = second_true (is_word done) _ (second_true (nat_lt 0 count && gpa % beat_size == 0) _ h) in
    let less = below_is done (8 * count) beats in
    record { aligned = eqb-true (gpa % beat_size) 0 begun; left = omega (arith, less) }
standing_goes gpa count (BlockStatus.Busy BlockCommand.MemoryToDisk done) h busy =
    let begun = second_true (nat_lt 0 count) _ (first_true (nat_lt 0 count && gpa % beat_size == 0) _ h) in
    let beats = second_true (is_word done) _ (second_true (nat_lt 0 count && gpa % beat_size == 0) _ h) in
    let less = below_is done (8 * count) beats in
    record { aligned = eqb-true (gpa % beat_size) 0 begun; left = omega (arith, less) }
standing_goes gpa count BlockStatus.Done h busy = absurd cc
standing_goes gpa count BlockStatus.Denied h busy = absurd cc
standing_goes gpa count BlockStatus.OutOfRange h busy = absurd cc

pub block_goes : (b : BlockState) → block.has b ≡ true → is_busy b ≡ true → PendingLoad b.gpa b.count b.status
unfolding block
block_goes b h busy =
    let gpa_on = second_true (is_word b.sector) _ h in
    let count_on = second_true (is_word b.gpa) _ gpa_on in
    standing_goes b.gpa b.count b.status (second_true (sectors.has b.count) _ count_on) busy
