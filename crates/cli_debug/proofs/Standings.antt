-- A machine that is debugged stands where a run is.
use Rattle.std.proofs.Common.{◌≡◌, ℕ, ◌+◌, ◌-◌, ◌<◌, ◌≤◌, List, [], ◌∷◌, ◌++◌, length, take, drop, replicate}
use Rattle.std.proofs.Common.{refl, sym, ◌∙◌, ap, Option, Some, None, Result, Ok, Err, true, arith, length-drop, drop-drop}
use Rattle.std.proofs.Math.Seq.{take-add}
use Rattle.std.specs.Prelude.{IfSome, OnOk, option_and_then, is_some, nat_lt}
use Rattle.std.proofs.lemmas.Bool.{lt-ltb, le-ltb}
use Rattle.sv_types.specs.Schedule.{Schedule, first_events}
use Rattle.sv_types.specs.declared.event.Event.{Event}
use Rattle.sv_types.specs.declared.event.Verdict.TheVariants.{Running}
use Rattle.spec_reference.specs.Run as reference
use Rattle.spec_reference.specs.States.{State, Hart}
use Rattle.machine.specs.Fetching.{fetch_place as hart_place}
use Rattle.script.specs.declared.event_run.EventRun.{EventRun}
use Rattle.debug_session.specs.Runs.{Run, after, fetch_place, is_running, next_event, next_turn, state, turning}
use Rattle.cli_debug.specs.Upcoming.{most_upcoming, next_of, upcoming}
use Rattle.cli_debug.proofs.Drawing.{first_after, row_within, take_row, upcoming_few}

lengths : (row : Option EventRun) (left : ℕ) (schedule : Schedule) (n : ℕ) (events : List Event) → upcoming row left schedule ≡ drop n events →
    length (upcoming row left schedule) ≡ length events - n
lengths row left schedule n events is = ap (λ (xs : List Event). length xs) is ∙ length-drop n events

pub left_by : (row : Option EventRun) (left : ℕ) (schedule : Schedule) (n : ℕ) (events : List Event) → IfSome row (λ (r : EventRun). 0 < r.count) → upcoming row left schedule ≡ drop n events →
    is_some row ≡ nat_lt n (length events)
left_by None left schedule n events some is =
    let size : 0 ≡ length events - n = lengths None left schedule n events is in
    sym (le-ltb n (length events) (omega (arith, size)))
left_by (Some row) left schedule n events some is =
    let within = row_within row left schedule in
    let size = lengths (Some row) left schedule n events is in
    sym (lt-ltb n (length events) (omega (arith, some, within, size)))

pub most_by : (row : Option EventRun) (left : ℕ) (schedule : Schedule) (n : ℕ) (events : List Event) → upcoming row left schedule ≡ drop n events → length events - n ≤ most_upcoming row left
most_by row left schedule n events is =
    let size = lengths row left schedule n events is in
    let few = upcoming_few row left schedule in
    omega (arith, size, few)

pub turn_by : (row : Option EventRun) (left : ℕ) (schedule : Schedule) (run : Run) → IfSome row (λ (r : EventRun). 0 < r.count) → upcoming row left schedule ≡ drop run.made run.events →
    turning (next_of row) ≡ next_turn run
unfolding next_event
turn_by row left schedule run some is = ap turning (first_after run.events run.made row left schedule some is)

-- where a hart is about to fetch
pub place_by : (hart : Option Hart) → option_and_then hart_place hart ≡ fetch_place hart
place_by None = refl
place_by (Some hart) = refl

-- ---- a row of events more

run_both : (xs ys : List Event) (r : State) → reference.run r (xs ++ ys) ≡ reference.run (reference.run r xs) ys
run_both [] ys r = refl
run_both (x ∷ xs) ys r = run_both xs ys (reference.step r x)

pub left_after : (row : EventRun) (left : ℕ) (schedule : Schedule) (run : Run) (n : ℕ) → upcoming (Some row) left schedule ≡ drop run.made run.events →
    drop n (upcoming (Some row) left schedule) ≡ drop (run.made + n) run.events
left_after row left schedule run n is = ap (λ (xs : List Event). drop n xs) is ∙ drop-drop n run.made run.events

pub state_after : (row : EventRun) (left : ℕ) (schedule : Schedule) (run : Run) (n : ℕ) → upcoming (Some row) left schedule ≡ drop run.made run.events → n ≤ row.count →
    state (after run (run.made + n)) ≡ reference.run (state run) (replicate n row.event)
unfolding state
state_after row left schedule run n is few =
    ap (reference.run run.start)
    (take-add run.made n run.events
    ∙ ap (λ (xs : List Event). take run.made run.events ++ xs) (ap (λ (xs : List Event). take n xs) (sym is) ∙ take_row n row.count row.event (first_events left schedule) few))
    ∙ run_both (take run.made run.events) (replicate n row.event) run.start

pub within_after : (row : EventRun) (left : ℕ) (schedule : Schedule) (run : Run) (n : ℕ) → upcoming (Some row) left schedule ≡ drop run.made run.events → n ≤ row.count → run.made ≤ length run.events →
    run.made + n ≤ length run.events
within_after row left schedule run n is few within =
    let least = row_within row left schedule in
    let size = lengths (Some row) left schedule run.made run.events is in
    omega (arith, least, size, few, within)

-- the run goes on after the first of the events of a row
pub running_after : (row : EventRun) (left : ℕ) (schedule : Schedule) (run : Run) (n : ℕ) → upcoming (Some row) left schedule ≡ drop run.made run.events → n ≤ row.count →
    ((k : ℕ) → 0 < k → k < n → (reference.run (state run) (replicate k row.event)).journal.verdict ≡ Running) →
    (m : ℕ) → run.made < m → m < run.made + n → is_running (state (after run m)).journal.verdict ≡ true
running_after row left schedule run n is few running m over under =
    let place : run.made + (m - run.made) ≡ m = omega (arith, over) in
    ap (λ (j : ℕ). is_running (state (after run j)).journal.verdict) (sym place)
    ∙ ap (λ (s : State). is_running s.journal.verdict) (state_after row left schedule run (m - run.made) is (omega (arith, under, few)))
    ∙ ap is_running (running (m - run.made) (omega (arith, over)) (omega (arith, over, under)))

pub state_first : (run : Run) → run.start ≡ state (after run 0)
unfolding state
state_first run = refl

pub on_ok : {A E P Q : Type 0} (r : Result A E) → OnOk r P → (P → Q) → OnOk r Q
on_ok (Ok done) p f = f p
on_ok (Err e) p f = tt

pub where_ok : {A E P : Type 0} (r : Result A E) (a : A) → OnOk r P → r ≡ Ok a → P
where_ok (Ok done) a p is = p
where_ok (Err e) a p is = absurd (cc)

pub none_is_left : (row : Option EventRun) (n all : ℕ) → row ≡ None → is_some row ≡ nat_lt n all → n < all → ⊥
none_is_left None n all is left within = let there : nat_lt n all ≡ true = lt-ltb n all within in (cc)
none_is_left (Some row) n all is left within = (cc)
