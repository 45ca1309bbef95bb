-- The events that are drawn.
use Rattle.std.proofs.Common.{◌≡◌, ℕ, zero, suc, ◌+◌, ◌-◌, ◌<◌, ◌≤◌, List, [], ◌∷◌, ◌++◌, length, take, drop, replicate, refl, sym, ◌∙◌, ap, Option, Some, None, arith}
use Rattle.std.specs.Prelude.{IfSome, slice_get}
use Rattle.sv_types.specs.Schedule.{Schedule, first_events, next_event}
use Rattle.sv_types.specs.declared.event.Event.{Event}
use Rattle.script.specs.Runs.{BeginsWith}
use Rattle.script.specs.declared.event_run.EventRun.{EventRun}
use Rattle.script.proofs.FirstEvents.{begun_none, first_few}
use Rattle.cli_debug.specs.Upcoming.{most_upcoming, next_of, upcoming}

pub none_left : (schedule : Schedule) (left : ℕ) → left ≡ 0 → [] ≡ first_events left schedule
unfolding first_events
none_left schedule left none = ap (λ n. first_events n schedule) (sym none)

-- the script is at its end
pub none_comes : (schedule : Schedule) (left : ℕ) → None ≡ next_event schedule → [] ≡ first_events left schedule
none_comes schedule left none = sym (begun_none left schedule (sym none))

pub row_drawn : (schedule after : Schedule) (left : ℕ) (row : EventRun) → row.count ≤ left → BeginsWith schedule row after →
    upcoming (Some row) (left - row.count) after ≡ first_events left schedule
row_drawn schedule after left row few begins =
    let all : row.count + (left - row.count) ≡ left = omega (arith, few) in
    sym (begins (left - row.count)) ∙ ap (λ n. first_events n schedule) all

row_length : (count : ℕ) (event : Event) (rest : List Event) → length (replicate count event ++ rest) ≡ count + length rest
row_length zero event rest = let same : length rest ≡ zero + length rest = omega arith in same
row_length (suc count) event rest = let more : suc (count + length rest) ≡ suc count + length rest = omega arith in ap suc (row_length count event rest) ∙ more

pub upcoming_few : (row : Option EventRun) (left : ℕ) (schedule : Schedule) → length (upcoming row left schedule) ≤ most_upcoming row left
upcoming_few None left schedule = omega arith
upcoming_few (Some row) left schedule =
    let few = first_few left schedule in
    let size = row_length row.count row.event (first_events left schedule) in
    omega (arith, few, size)

pub row_within : (row : EventRun) (left : ℕ) (schedule : Schedule) → row.count ≤ length (upcoming (Some row) left schedule)
row_within row left schedule = let size = row_length row.count row.event (first_events left schedule) in omega (arith, size)

-- ---- the first of them

abbrev head : List Event → Option Event
head [] = None
head (e ∷ events) = Some e

head_after : (events : List Event) (n : ℕ) (xs : List Event) → xs ≡ drop n events → head xs ≡ slice_get events n
head_after [] zero xs is = ap head is
head_after [] (suc n) xs is = ap head is
head_after (e ∷ events) zero xs is = ap head is
head_after (e ∷ events) (suc n) xs is = head_after events n xs is

begins_row : (row : EventRun) (rest : List Event) → 0 < row.count → replicate row.count row.event ++ rest ≡ row.event ∷ (replicate (row.count - 1) row.event ++ rest)
begins_row row rest some =
    let more : row.count ≡ suc (row.count - 1) = omega (arith, some) in
    ap (λ n. replicate n row.event ++ rest) more

next_is : (row : Option EventRun) (left : ℕ) (schedule : Schedule) → IfSome row (λ (r : EventRun). 0 < r.count) → next_of row ≡ head (upcoming row left schedule)
next_is None left schedule some = refl
next_is (Some row) left schedule some = sym (ap head (begins_row row (first_events left schedule) some))

-- the first of the events after some
pub first_after : (events : List Event) (n : ℕ) (row : Option EventRun) (left : ℕ) (schedule : Schedule) → IfSome row (λ (r : EventRun). 0 < r.count) →
    upcoming row left schedule ≡ drop n events → next_of row ≡ slice_get events n
first_after events n row left schedule some is = next_is row left schedule some ∙ head_after events n (upcoming row left schedule) is

-- ---- after some of a row

drop_row : (n count : ℕ) (event : Event) (rest : List Event) → n ≤ count → drop n (replicate count event ++ rest) ≡ replicate (count - n) event ++ rest
drop_row zero count event rest few = let same : count ≡ count - 0 = omega arith in ap (λ k. replicate k event ++ rest) same
drop_row (suc n) zero event rest few = absurd (omega (arith, few))
drop_row (suc n) (suc count) event rest few =
    let same : count - n ≡ suc count - suc n = omega arith in
    drop_row n count event rest (omega (arith, few)) ∙ ap (λ k. replicate k event ++ rest) same

pub row_left : (row : EventRun) (n left : ℕ) (schedule : Schedule) → n ≤ row.count →
    upcoming (Some (record { event = row.event; count = row.count - n })) left schedule ≡ drop n (upcoming (Some row) left schedule)
row_left row n left schedule few = sym (drop_row n row.count row.event (first_events left schedule) few)

pub row_over : (row : EventRun) (n left : ℕ) (schedule : Schedule) → n ≡ row.count → first_events left schedule ≡ drop n (upcoming (Some row) left schedule)
row_over row n left schedule all =
    let none : 0 ≡ row.count - n = omega (arith, all) in
    ap (λ k. replicate k row.event ++ first_events left schedule) none ∙ sym (drop_row n row.count row.event (first_events left schedule) (omega (arith, all)))

pub take_row : (n count : ℕ) (event : Event) (rest : List Event) → n ≤ count → take n (replicate count event ++ rest) ≡ replicate n event
take_row zero count event rest few = refl
take_row (suc n) zero event rest few = absurd (omega (arith, few))
take_row (suc n) (suc count) event rest few = ap (λ xs. event ∷ xs) (take_row n count event rest (omega (arith, few)))
