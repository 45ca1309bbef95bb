-- So many numbers, read into an array, and the value that they are.
use Rattle.std.proofs.Common.{◌≡◌, ℕ, ◌+◌, ◌-◌, ◌≤◌, ◌<◌, List, [], ◌∷◌, ◌++◌, length, take, drop, get_or, set, Ok, Err, refl, sym, ap, subst, ◌∙◌, suc, add-one, drop-cons, arith}
use Rattle.std.specs.Prelude.{Result, Option, slice_index, Bool, zero, true, false, if◌then◌else◌}
use Rattle.std.proofs.lemmas.List.{append-nil, drop_all, take_all, take_more_set, length-take}
use Rattle.std.proofs.lemmas.Bool.Decides.{nat_tests}
use Rattle.snapshot_format.specs.Forms.{Form, Taken, number, number_at, within, if_in_range, put_first, all_taken}
use Rattle.snapshot_format.specs.JournalForms.{AnswerParts, answer, code, demote_form, hart_number, retire, stopped_entry, stopped_write, count, counts, event_counts, hart_counts, rule_counts}
use Rattle.snapshot_format.specs.DeviceForms.{block, standing_status}
use Rattle.snapshot_format.specs.PageForms.{is_above, module_within}
use Rattle.snapshot_format.specs.declared.refusal.SnapRefusal.{SnapRefusal}
use Rattle.snapshot_format.specs.declared.refusal.SnapRefusal.TheVariants.{OutOfRange}
use Rattle.snapshot_format.specs.HartForms.{Status, legal, multiple_of, status, trap_status}
use Rattle.snapshot_format.specs.Reading.{Gives}
use Rattle.snapshot_format.specs.declared.reader.row.Range.{Range}
use Rattle.snapshot_format.specs.declared.reader.row.Range.TheVariants.{Any, Below, Between}
use Rattle.snapshot_format.specs.Rows.{HeaderNumbers, answer_ranges, block_ranges, demote_of_row, demote_ranges, entry_of_row, entry_ranges}
use Rattle.snapshot_format.specs.Rows.{header_numbers, header_of_row, header_ranges, is_within, module_of_row, module_ranges, retire_ranges}
use Rattle.snapshot_format.specs.Rows.{write_of_row, write_ranges, ranged, row_taken, counts_of_row, may_hold, register_after}
use Rattle.snapshot_format.specs.Rows.{status_of_row}
use Rattle.snapshot_format.proofs.ReadLists.{with_front, regroup, goes_on, is_done}
use Rattle.sv_types.specs.Steps.{◌>>=◌}
use Rattle.sv_types.specs.declared.event.Counts.{Counts}
use Rattle.sv_types.specs.declared.block.BlockState.{BlockState}
use Rattle.sv_types.specs.declared.block.BlockStatus.{BlockStatus}
use Rattle.sv_types.specs.declared.event.Note.{Note}
use Rattle.sv_types.specs.declared.event.Verdict.{Verdict}
use Rattle.sv_types.specs.declared.saved.ModulePlacement.{ModulePlacement}
use Rattle.sv_types.specs.declared.sbi.SbiCode.{SbiCode}

-- ---- an array that is filled up to one place

abbrev pub HasRow : {A : Type 0} → (f : List A → Form A) → (size i : ℕ) → (row : List A) → (bytes : List ℕ) → Taken (List A) → Type 0
HasRow f size i row bytes total = with_front (take i row) (all_taken f (take i row) (size - i) bytes) ≡ total

pub row_read : {A : Type 0} (f : List A → Form A) (size i : ℕ) (value : A) (row : List A) (bytes after : List ℕ) (total : Taken (List A)) → i < size → length row ≡ size
    → (f (take i row)).taken bytes ≡ Ok (value, after) → HasRow f size i row bytes total → HasRow f size (i + 1) (set row i value) after total
row_read f size i value row bytes after total lt same h so_far =
    let inside : i < length row = omega (arith, same) in
    rw (take_more_set row i value inside) (goes_on f (take i row) size i bytes value after total lt h so_far)

pub row_done : {A : Type 0} (f : List A → Form A) (size i : ℕ) (row : List A) (bytes : List ℕ) (total : Taken (List A)) → size ≤ i → length row ≡ size
    → HasRow f size i row bytes total → total ≡ Ok (row, bytes)
row_done {A = A} f size i row bytes total le same so_far =
    let whole : take i row ≡ row = take_all i row (omega (arith, same)) in
    is_done f (take i row) size i bytes total le so_far ∙ ap (λ (l : List A). Ok (l, bytes)) whole

-- ---- the values after one another of a form are those of its row

bind_assoc : {A B C E : Type 0} (r : Result A E) (f : A → Result B E) (g : B → Result C E) → ((r >>= f) >>= g) ≡ (r >>= λ a. f a >>= g)
bind_assoc (Ok a) f g = refl
bind_assoc (Err e) f g = refl

abbrev counts_and_rest : List ℕ × List ℕ → Taken Counts
counts_and_rest x = Ok (counts_of_row x.0, x.1)

pub counts_by_row : (events : ℕ) (bytes : List ℕ) → (counts events).taken bytes ≡ (all_taken (λ before. count events) [] 15 bytes >>= counts_and_rest)
unfolding counts event_counts hart_counts rule_counts all_taken
counts_by_row events bytes = simp bind_assoc

abbrev status_and_rest : List ℕ × List ℕ → Taken Status
status_and_rest x = Ok (status_of_row x.0, x.1)

status_by_row : (bytes : List ℕ) → status.taken bytes ≡ (all_taken register_after [] 10 bytes >>= status_and_rest)
unfolding status trap_status legal all_taken
status_by_row bytes = simp bind_assoc

pub status_read : {X : Type 0} (row rest : X → List ℕ) (bytes : List ℕ) (result : Result X SnapRefusal) → Gives (λ x. (row x, rest x)) result (all_taken register_after [] 10 bytes)
    → Gives (λ x. (status_of_row (row x), rest x)) result (status.taken bytes)
status_read row rest bytes (Ok x) h = rw (status_by_row bytes, h) refl
status_read row rest bytes (Err e) h = rw (status_by_row bytes, h) refl

pub register_at : (i : ℕ) (row bytes : List ℕ) (read : Taken ℕ) → i < 10 → length row ≡ 10 → (within (may_hold i) number).taken bytes ≡ read
    → (register_after (take i row)).taken bytes ≡ read
register_at i row bytes read lt size h =
    let place : length (take i row) ≡ i = omega (arith, length-take i row, size) in
    subst (λ (p : ℕ). (within (may_hold p) number).taken bytes ≡ read) (sym place) h

-- ---- a number in each range

abbrev row_and_rest : List ℕ → List ℕ → Taken (List ℕ)
row_and_rest row rest = Ok (row, rest)

-- the range of the number that is read next
abbrev pub next_range : List Range → ℕ → Range
next_range ranges i = get_or ranges i Any

next_is_first : (ranges : List Range) (i : ℕ) → i < length ranges → drop i ranges ≡ next_range ranges i ∷ drop (i + 1) ranges
next_is_first ranges i lt = rw (add-one, drop-cons ranges i Any) refl

abbrev pub HasRead : (i : ℕ) (ranges : List Range) (row bytes : List ℕ) → Taken (List ℕ) → Type 0
HasRead i ranges row bytes total = with_front (take i row) (row_taken (drop i ranges) bytes) ≡ total

pub one_more : (i value : ℕ) (ranges : List Range) (row bytes after : List ℕ) (total : Taken (List ℕ)) → i < length ranges → length row ≡ length ranges
    → (ranged (next_range ranges i)).taken bytes ≡ Ok (value, after) → HasRead i ranges row bytes total → HasRead (i + 1) ranges (set row i value) after total
unfolding row_taken
one_more i value ranges row bytes after total lt same h so_far =
    let inside : i < length row = omega (arith, same) in
    let one : with_front (take i row) (row_taken (drop i ranges) bytes) ≡ with_front (take i row ++ value ∷ []) (row_taken (drop (i + 1) ranges) after) =
    rw (next_is_first ranges i lt, h) (regroup (take i row) value (row_taken (drop (i + 1) ranges) after)) in
    rw (take_more_set row i value inside) (sym one ∙ so_far)

pub none_more : (e : SnapRefusal) (i : ℕ) (ranges : List Range) (row bytes : List ℕ) (total : Taken (List ℕ)) → i < length ranges
    → (ranged (next_range ranges i)).taken bytes ≡ Err e → HasRead i ranges row bytes total → total ≡ Err e
unfolding row_taken
none_more e i ranges row bytes total lt h so_far =
    let one : with_front (take i row) (row_taken (drop i ranges) bytes) ≡ Err e = rw (next_is_first ranges i lt, h) refl in
    sym so_far ∙ one

pub all_read : (i : ℕ) (ranges : List Range) (row bytes : List ℕ) (total : Taken (List ℕ)) → length ranges ≤ i → length row ≡ length ranges
    → HasRead i ranges row bytes total → total ≡ Ok (row, bytes)
unfolding row_taken
all_read i ranges row bytes total le same so_far =
    let one : with_front (take i row) (row_taken (drop i ranges) bytes) ≡ Ok (row, bytes) =
    rw (drop_all i ranges le, take_all i row (omega (arith, same))) (ap (λ (values : List ℕ). row_and_rest values bytes) (append-nil row)) in
    sym so_far ∙ one

-- ---- forms of a few numbers are rows

abbrev module_and_rest : List ℕ × List ℕ → Taken ModulePlacement
module_and_rest x = Ok (module_of_row x.0, x.1)

pub module_by_row : (last : Option ℕ) (bytes : List ℕ) → (module_within (is_above last)).taken bytes ≡ (row_taken (module_ranges last) bytes >>= module_and_rest)
unfolding module_within multiple_of row_taken
module_by_row last bytes = simp bind_assoc

abbrev demote_and_rest : List ℕ × List ℕ → Taken Note
demote_and_rest x = Ok (demote_of_row x.0, x.1)

pub demote_by_row : (harts : ℕ) (bytes : List ℕ) → (demote_form harts).taken bytes ≡ (row_taken (demote_ranges harts) bytes >>= demote_and_rest)
unfolding demote_form hart_number multiple_of row_taken
demote_by_row harts bytes = simp bind_assoc

abbrev code_and_rest : List ℕ → SbiCode × List ℕ → Taken AnswerParts
code_and_rest row x = Ok ((slice_index row 0, (slice_index row 1, (slice_index row 2, x.0))), x.1)

abbrev with_code : List ℕ × List ℕ → Taken AnswerParts
with_code x = code.taken x.1 >>= code_and_rest x.0

pub answer_by_row : (harts : ℕ) (bytes : List ℕ) → (answer harts).taken bytes ≡ (row_taken (answer_ranges harts) bytes >>= with_code)
unfolding answer hart_number row_taken
answer_by_row harts bytes = simp bind_assoc

abbrev retired_and_rest : List ℕ → SbiCode × List ℕ → Taken Note
retired_and_rest row x = Ok (Note.Retire (slice_index row 0) (slice_index row 1) x.0, x.1)

abbrev with_retired : List ℕ × List ℕ → Taken Note
with_retired x = code.taken x.1 >>= retired_and_rest x.0

pub retire_by_row : (harts : ℕ) (bytes : List ℕ) → (retire harts).taken bytes ≡ (row_taken (retire_ranges harts) bytes >>= with_retired)
unfolding retire hart_number row_taken
retire_by_row harts bytes = simp bind_assoc

abbrev verdict_and_rest : (List ℕ → Verdict) → List ℕ × List ℕ → Taken Verdict
verdict_and_rest to x = Ok (to x.0, x.1)

pub entry_by_row : (harts : ℕ) (bytes : List ℕ) → (stopped_entry harts).taken bytes ≡ (row_taken (entry_ranges harts) bytes >>= verdict_and_rest entry_of_row)
unfolding stopped_entry hart_number row_taken
entry_by_row harts bytes = simp bind_assoc

pub write_by_row : (harts : ℕ) (bytes : List ℕ) → (stopped_write harts).taken bytes ≡ (row_taken (write_ranges harts) bytes >>= verdict_and_rest write_of_row)
unfolding stopped_write hart_number multiple_of row_taken
write_by_row harts bytes = simp bind_assoc

abbrev header_and_rest : List ℕ × List ℕ → Taken HeaderNumbers
header_and_rest x = Ok (header_of_row x.0, x.1)

pub header_by_row : (bytes : List ℕ) → header_numbers.taken bytes ≡ (row_taken header_ranges bytes >>= header_and_rest)
unfolding row_taken
header_by_row bytes = simp bind_assoc

abbrev block_and_rest : List ℕ → BlockStatus × List ℕ → Taken BlockState
block_and_rest row x = Ok (record { sector = slice_index row 0; gpa = slice_index row 1; count = slice_index row 2; status = x.0 }, x.1)

abbrev with_status : List ℕ × List ℕ → Taken BlockState
with_status x = (standing_status (slice_index x.0 1) (slice_index x.0 2)).taken x.1 >>= block_and_rest x.0

pub block_by_row : (bytes : List ℕ) → block.taken bytes ≡ (row_taken block_ranges bytes >>= with_status)
unfolding block row_taken
block_by_row bytes = simp bind_assoc

-- ---- each number of a row is in its range

abbrev Within : List Range → ℕ → List ℕ → Type 0
Within ranges i row = is_within (next_range ranges i) (get_or row i 0) ≡ true

within_more : (range : Range) (ranges : List Range) (i n : ℕ) (values row : List ℕ) → is_within range n ≡ true → row ≡ n ∷ values →
    ((j : ℕ) → j < length ranges → Within ranges j values) → i < suc (length ranges)
    → Within (range ∷ ranges) i row
within_more range ranges zero n values row is same others lt = rw same is
within_more range ranges (suc i) n values row is same others lt = rw same (others i (omega arith))

abbrev values_of : Taken (List ℕ) → List ℕ
values_of (Ok x) = x.0
values_of (Err e) = []

within_others : (range : Range) (ranges : List Range) (i n : ℕ) (row rest : List ℕ) (others : Taken (List ℕ)) → is_within range n ≡ true → (others >>= put_first n) ≡ Ok (row, rest)
    → ((values after : List ℕ) → others ≡ Ok (values, after) → (j : ℕ) → j < length ranges → Within ranges j values) → i < suc (length ranges) → Within (range ∷ ranges) i row
within_others range ranges i n row rest (Ok x) is h more lt = within_more range ranges i n x.0 row is (sym (ap values_of h)) (more x.0 x.1 refl) lt
within_others range ranges i n row rest (Err e) is h more lt = cc

within_first : (range : Range) (ranges : List Range) (i n : ℕ) (after row rest : List ℕ) (is_in : Bool) → is_within range n ≡ is_in
    → ((if is_in then Ok (n, after) else Err OutOfRange) >>= λ (a : ℕ × List ℕ). row_taken ranges a.1 >>= put_first a.0) ≡ Ok (row, rest)
    → ((values last : List ℕ) → row_taken ranges after ≡ Ok (values, last) → (j : ℕ) → j < length ranges → Within ranges j values) → i < suc (length ranges) → Within (range ∷ ranges) i row
within_first range ranges i n after row rest true is h more lt = within_others range ranges i n row rest (row_taken ranges after) is h more lt
within_first range ranges i n after row rest false is h more lt = cc

within_read : (range : Range) (ranges : List Range) (i : ℕ) (row rest : List ℕ) (read : Taken ℕ)
    → ((read >>= if_in_range (is_within range)) >>= λ (a : ℕ × List ℕ). row_taken ranges a.1 >>= put_first a.0) ≡ Ok (row, rest)
    → ((bytes values last : List ℕ) → row_taken ranges bytes ≡ Ok (values, last) → (j : ℕ) → j < length ranges → Within ranges j values) → i < suc (length ranges) → Within (range ∷ ranges) i row
within_read range ranges i row rest (Ok x) h more lt = within_first range ranges i x.0 x.1 row rest (is_within range x.0) refl h (more x.1) lt
within_read range ranges i row rest (Err e) h more lt = cc

pub row_within : (ranges : List Range) (bytes row rest : List ℕ) → row_taken ranges bytes ≡ Ok (row, rest) → (i : ℕ) → i < length ranges → Within ranges i row
unfolding row_taken
row_within [] bytes row rest h i lt = absurd (omega arith)
row_within (range ∷ ranges) bytes row rest h i lt = within_read range ranges i row rest (number_at bytes) h (row_within ranges) lt

-- what such a test says of a number
pub is_below : (n end : ℕ) → is_within (Below end) n ≡ true → n < end
is_below n end is = grind (arith, nat_tests)

pub is_no_more : (n low high : ℕ) → is_within (Between low high) n ≡ true → n ≤ high
is_no_more n low high is = grind (arith, nat_tests)
