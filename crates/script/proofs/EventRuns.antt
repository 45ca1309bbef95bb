-- Runs of events are first in their schedules.
use Rattle.std.proofs.Common.{◌≡◌, ℕ, zero, suc, ◌+◌, ◌-◌, ◌%◌, ◌==◌, ◌<◌, ◌≤◌, List, ◌∷◌, ◌++◌, length, replicate, drop, get_or, refl, sym}
use Rattle.std.proofs.Common.{◌∙◌, ap, subst, Bool, false, if◌then◌else◌, Option, Some, None, arith, append_assoc, add-one}
use Rattle.std.specs.Prelude.{IfSome}
use Rattle.std.proofs.lemmas.Bool.Decides.{nat_tests}
use Rattle.std.proofs.lemmas.List.{replicate-append-replicate}
use Rattle.std.proofs.Math.Nat.{zero-add, suc-add}
use Rattle.std.proofs.Math.Numerals.{one-add}
use Rattle.sv_types.specs.declared.event.Event.{Event}
use Rattle.sv_types.specs.declared.event.Event.TheVariants.{Turn, Beat}
use Rattle.sv_types.specs.Schedule.{Schedule, Listed, Rounds, Weave, first_events, next_event, after_event, begun_with}
use Rattle.script.specs.declared.event_run.EventRun.{EventRun}
use Rattle.script.specs.declared.repeated.Repeated.{Repeated}
use Rattle.script.specs.declared.said.Said.{Said}
use Rattle.script.specs.declared.said.Said.TheVariants.{This, Drawn}
use Rattle.script.specs.AutoScripts.{events_drawn}
use Rattle.script.specs.Listed.{said_of_runs}
use Rattle.script.specs.Runs.{BeginsWith, Draws, SaysRun}
use Rattle.script.proofs.Runs.{first_of_run, runs_from, said_next}

-- ---- one event

one_first : (old new : Schedule) (event : Event) (later : ℕ) → Some event ≡ next_event old → new ≡ after_event old →
    first_events (suc later) old ≡ event ∷ first_events later new
unfolding first_events
one_first old new event later is behind =
    ap (λ (o : Option Event). begun_with o (first_events later (after_event old))) (sym is)
    ∙ ap (λ (s : Schedule). event ∷ first_events later s) (sym behind)

once_by : (old new : Schedule) (run : EventRun) (n : ℕ) → n ≡ 1 → Some run.event ≡ next_event old → new ≡ after_event old →
    (later : ℕ) → first_events (n + later) old ≡ replicate n run.event ++ first_events later new
once_by old new run n one is behind =
    subst (λ (k : ℕ). (later : ℕ) → first_events (k + later) old ≡ replicate k run.event ++ first_events later new) (sym one)
    (λ later. ap (λ (k : ℕ). first_events k old) (one-add later) ∙ one_first old new run.event later is behind)

pub begins_once : (old new : Schedule) (run : EventRun) → run.count ≡ 1 → Some run.event ≡ next_event old → new ≡ after_event old → BeginsWith old run new
begins_once old new run one is behind = once_by old new run run.count one is behind

-- ---- one more

same_after : (n : ℕ) (event : Event) (rest : List Event) → replicate n event ++ (event ∷ rest) ≡ event ∷ (replicate n event ++ rest)
same_after zero event rest = refl
same_after (suc n) event rest = ap (λ (events : List Event). event ∷ events) (same_after n event rest)

-- the first events are the same one so often, and then others
abbrev pub Begins : (n : ℕ) → Event → (old new : Schedule) → Type 0
Begins n event old new = (later : ℕ) → first_events (n + later) old ≡ replicate n event ++ first_events later new

begins_more : (n : ℕ) (event : Event) (old mid new : Schedule) → Begins n event old mid → Some event ≡ next_event mid → new ≡ after_event mid → Begins (suc n) event old new
begins_more n event old mid new begun is behind = λ later.
    let counted : suc n + later ≡ n + suc later = omega arith in
    ap (λ (k : ℕ). first_events k old) counted
    ∙ begun (suc later)
    ∙ ap (λ (events : List Event). replicate n event ++ events) (one_first mid new event later is behind)
    ∙ same_after n event (first_events later new)

-- ---- what is drawn

pub draws_more : (n : ℕ) (event : Event) (old mid new : Schedule) → Draws n event old mid → Some event ≡ next_event mid → new ≡ after_event mid → Draws (n + 1) event old new
draws_more n event old mid new drawn is behind =
    subst (λ (k : ℕ). Draws k event old new) (sym (add-one n)) (mid, (drawn, (is, behind)))

draws_after : (n : ℕ) (event : Event) (old mid new : Schedule) → Some event ≡ next_event old → mid ≡ after_event old → Draws n event mid new → Draws (suc n) event old new
draws_after zero event old mid new is behind same = (old, (refl, (is, same ∙ behind)))
draws_after (suc n) event old mid new is behind (last, (drawn, next)) = (last, (draws_after n event old mid last is behind drawn, next))

-- an event, and the same one drawn so often after it
pub drawn_again : (n : ℕ) (event : Event) (old mid new : Schedule) → Some event ≡ next_event old → mid ≡ after_event old → Draws n event mid new → Draws (n + 1) event old new
drawn_again n event old mid new is behind drawn =
    subst (λ (k : ℕ). Draws k event old new) (sym (add-one n)) (draws_after n event old mid new is behind drawn)

drawn_first : (n : ℕ) (event : Event) (old new : Schedule) → Draws n event old new → Begins n event old new
drawn_first zero event old new drawn = λ later. ap (λ (k : ℕ). first_events k old) (zero-add later) ∙ ap (λ (s : Schedule). first_events later s) (sym drawn)
drawn_first (suc n) event old new (mid, (drawn, (is, behind))) = begins_more n event old mid new (drawn_first n event old mid drawn) is behind

-- events that are drawn come first
pub drawn_begin : (old new : Schedule) (run : EventRun) → Draws run.count run.event old new → BeginsWith old run new
drawn_begin old new run drawn = drawn_first run.count run.event old new drawn

-- ---- turns of the only hart

turns_alone : (n later : ℕ) → first_events (n + later) (Rounds 1 0) ≡ replicate n (Turn 0) ++ first_events later (Rounds 1 0)
unfolding first_events
turns_alone zero later = ap (λ (k : ℕ). first_events k (Rounds 1 0)) (zero-add later)
turns_alone (suc n) later =
    ap (λ (k : ℕ). first_events k (Rounds 1 0)) (suc-add n later)
    ∙ ap (λ (events : List Event). Turn 0 ∷ events) (turns_alone n later)

-- one hart alone is hart 0
pub alone_from : (s : Schedule) (harts hart n : ℕ) → harts ≡ 1 → hart < harts → Rounds harts hart ≡ s → (later : ℕ) →
    first_events (n + later) s ≡ replicate n (Turn 0) ++ first_events later s
alone_from s harts hart n one below shown =
    let first : hart ≡ 0 = omega arith in
    subst (λ (t : Schedule). (later : ℕ) → first_events (n + later) t ≡ replicate n (Turn 0) ++ first_events later t)
    (ap (λ (k : ℕ). Rounds k 0) (sym one) ∙ ap (λ (h : ℕ). Rounds harts h) (sym first) ∙ shown) (turns_alone n)

-- ---- seven turns and a beat

turns_woven : (n later place : ℕ) → n + place ≤ 7 → first_events (n + later) (Weave place) ≡ replicate n (Turn 0) ++ first_events later (Weave (n + place))
unfolding first_events
turns_woven zero later place few =
    ap (λ (k : ℕ). first_events k (Weave place)) (zero-add later) ∙ ap (λ (p : ℕ). first_events later (Weave p)) (sym (zero-add place))
turns_woven (suc n) later place few =
    let same : place % 8 ≡ place = omega arith in
    let other : (place == 7) ≡ false = grind (arith, nat_tests) in
    let behind : (place + 1) % 8 ≡ suc place = omega arith in
    let more : n + suc place ≡ suc n + place = omega arith in
    ap (λ (k : ℕ). first_events k (Weave place)) (suc-add n later)
    ∙ ap (λ (p : ℕ). (if p == 7 then Beat else Turn 0) ∷ first_events (n + later) (Weave ((place + 1) % 8))) same
    ∙ ap (λ (b : Bool). (if b then Beat else Turn 0) ∷ first_events (n + later) (Weave ((place + 1) % 8))) other
    ∙ ap (λ (p : ℕ). Turn 0 ∷ first_events (n + later) (Weave p)) behind
    ∙ ap (λ (events : List Event). Turn 0 ∷ events) (turns_woven n later (suc place) (omega arith))
    ∙ ap (λ (p : ℕ). Turn 0 ∷ (replicate n (Turn 0) ++ first_events later (Weave p))) more

pub woven_from : (s : Schedule) (n later place : ℕ) → n + place ≤ 7 → Weave place ≡ s →
    first_events (n + later) s ≡ replicate n (Turn 0) ++ first_events later (Weave (place + n))
woven_from s n later place few shown =
    let swapped : n + place ≡ place + n = omega arith in
    ap (λ (t : Schedule). first_events (n + later) t) (sym shown)
    ∙ turns_woven n later place few
    ∙ ap (λ (p : ℕ). replicate n (Turn 0) ++ first_events later (Weave p)) swapped

-- ---- what is said

listed_again : (n later : ℕ) (event : Event) (rest : List Event) →
    first_events (n + later) (Listed (replicate n event ++ rest)) ≡ replicate n event ++ first_events later (Listed rest)
unfolding first_events
listed_again zero later event rest = ap (λ (k : ℕ). first_events k (Listed rest)) (zero-add later)
listed_again (suc n) later event rest =
    ap (λ (k : ℕ). first_events k (Listed (replicate (suc n) event ++ rest))) (suc-add n later)
    ∙ ap (λ (events : List Event). event ∷ events) (listed_again n later event rest)

said_again : (n : ℕ) (event : Event) (autos : Schedule) (more : List Said) →
    events_drawn autos (replicate n (This event) ++ more) ≡ replicate n event ++ events_drawn autos more
said_again zero event autos more = refl
said_again (suc n) event autos more = ap (λ (events : List Event). event ∷ events) (said_again n event autos more)

-- a run in two parts
pub in_two : {A : Type 0} → (n left : ℕ) (x : A) (rest : List A) → n ≤ left → replicate left x ++ rest ≡ replicate n x ++ (replicate (left - n) x ++ rest)
in_two {A} n left x rest few =
    let sum : n + (left - n) ≡ left = omega arith in
    ap (λ (k : ℕ). replicate k x ++ rest) (sym sum)
    ∙ ap (λ (all : List A). all ++ rest) (sym (replicate-append-replicate n (left - n) x))
    ∙ append_assoc (replicate n x) (replicate (left - n) x) rest

-- what comes of a run that has begun
abbrev Comes : (old : Schedule) (all : List Said) → EventRun → (new : Schedule) (rest : List Said) → Type 0
Comes old all run new rest = BeginsWith (Listed (events_drawn old all)) run (Listed (events_drawn new rest))

all_come : (event : Event) (n left : ℕ) (old : Schedule) (rest : List Said) → n ≤ left →
    Comes old (replicate left (This event) ++ rest) (record { event = event; count = n }) old (replicate (left - n) (This event) ++ rest)
all_come event n left old rest few = λ later.
    ap (λ (all : List Said). first_events (n + later) (Listed (events_drawn old all))) (in_two n left (This event) rest few)
    ∙ ap (λ (events : List Event). first_events (n + later) (Listed events)) (said_again n event old (replicate (left - n) (This event) ++ rest))
    ∙ listed_again n later event (events_drawn old (replicate (left - n) (This event) ++ rest))

drawn_come : (n left : ℕ) (event : Event) (old new : Schedule) (rest : List Said) → n ≤ left → Draws n event old new →
    Begins n event (Listed (events_drawn old (replicate left Drawn ++ rest))) (Listed (events_drawn new (replicate (left - n) Drawn ++ rest)))
drawn_come zero left event old new rest few drawn = λ later.
    let all : left ≡ left - 0 = omega arith in
    ap (λ (k : ℕ). first_events k (Listed (events_drawn old (replicate left Drawn ++ rest)))) (zero-add later)
    ∙ ap (λ (s : Schedule). first_events later (Listed (events_drawn s (replicate left Drawn ++ rest)))) (sym drawn)
    ∙ ap (λ (k : ℕ). first_events later (Listed (events_drawn new (replicate k Drawn ++ rest)))) all
drawn_come (suc n) left event old new rest few (mid, (drawn, (is, behind))) =
    let some : 0 < left - n = omega (arith, few) in
    let fewer : left - n - 1 ≡ left - suc n = omega arith in
    let next = said_next Drawn mid new event (replicate (left - n) Drawn ++ rest) (replicate (left - n - 1) Drawn ++ rest)
    (Listed (events_drawn mid (replicate (left - n) Drawn ++ rest))) (is, behind) (first_of_run (left - n) Drawn rest some) refl in
    begins_more n event (Listed (events_drawn old (replicate left Drawn ++ rest))) (Listed (events_drawn mid (replicate (left - n) Drawn ++ rest)))
    (Listed (events_drawn new (replicate (left - suc n) Drawn ++ rest))) (drawn_come n left event old mid rest (omega (arith, few)) drawn) next.0
    (ap (λ (k : ℕ). Listed (events_drawn new (replicate k Drawn ++ rest))) (sym fewer) ∙ next.1)

said_comes : (said : Said) (most left : ℕ) (old new : Schedule) (run : EventRun) (rest : List Said) → run.count ≤ most → most ≤ left → SaysRun said most old run new →
    Comes old (replicate left said ++ rest) run new (replicate (left - run.count) said ++ rest)
said_comes (This event) most left old new run rest within few is =
    subst (λ (r : EventRun). Comes old (replicate left (This event) ++ rest) r new (replicate (left - r.count) (This event) ++ rest)) (sym is.0)
    (subst (λ (s : Schedule). Comes old (replicate left (This event) ++ rest) (record { event = event; count = most }) s (replicate (left - most) (This event) ++ rest)) (sym is.1)
    (all_come event most left old rest few))
said_comes Drawn most left old new run rest within few is = drawn_come run.count left run.event old new rest (omega (arith, within, few)) is

-- ---- the first event

begun_is : (next : Option Event) (later more : List Event) (event : Event) → begun_with next later ≡ event ∷ more → Some event ≡ next
begun_is None later more event is = absurd (cc)
begun_is (Some first) later more event is = cc

first_by : (n : ℕ) (old new : Schedule) (event : Event) → 0 < n → ((later : ℕ) → first_events (n + later) old ≡ replicate n event ++ first_events later new) →
    Some event ≡ next_event old
unfolding first_events
first_by zero old new event some begins = absurd (omega arith)
first_by (suc n) old new event some begins =
    begun_is (next_event old) (first_events (n + 0) (after_event old)) (replicate n event ++ first_events 0 new) event
    (ap (λ (k : ℕ). first_events k old) (sym (suc-add n 0)) ∙ begins 0)

-- the event of a run is the next one
pub begins_next : (old new : Schedule) (run : EventRun) → 0 < run.count → BeginsWith old run new → Some run.event ≡ next_event old
begins_next old new run some begins = first_by run.count old new run.event some begins

-- ---- a run of what is left

-- a run that has begun
pub run_goes_on : (runs : List Repeated) (at left most : ℕ) (said : Said) (old new : Schedule) (run : EventRun) (s : Schedule) → run.count ≤ most → most ≤ left → SaysRun said most old run new →
    Listed (events_drawn old (replicate left said ++ said_of_runs (drop at runs))) ≡ s →
    BeginsWith s run (Listed (events_drawn new (replicate (left - run.count) said ++ said_of_runs (drop at runs))))
run_goes_on runs at left most said old new run s within few is shown =
    subst (λ (t : Schedule). BeginsWith t run (Listed (events_drawn new (replicate (left - run.count) said ++ said_of_runs (drop at runs))))) shown
    (said_comes said most left old new run (said_of_runs (drop at runs)) within few is)

-- where none is left of the run that had begun, the next one begins, and what is left stays the same
pub next_begins : (runs read : List Repeated) (at left : ℕ) (said : Said) (next : Repeated) (autos : Schedule) (s : Schedule) → read ≡ runs →
    at < length read → next ≡ get_or read at next → left ≡ 0 →
    Listed (events_drawn autos (replicate left said ++ said_of_runs (drop at runs))) ≡ s →
    Listed (events_drawn autos (replicate next.times next.said ++ said_of_runs (drop (at + 1) runs))) ≡ s
next_begins runs read at left said next autos s same within found none shown =
    let lt : at < length runs = subst (λ (xs : List Repeated). at < length xs) same within in
    let here : next ≡ get_or runs at next = subst (λ (xs : List Repeated). next ≡ get_or xs at next) same found in
    let begun : replicate left said ++ said_of_runs (drop at runs) ≡ replicate next.times next.said ++ said_of_runs (drop (at + 1) runs) =
    ap (λ (n : ℕ). replicate n said ++ said_of_runs (drop at runs)) none ∙ ap said_of_runs (runs_from runs at next lt here) in
    ap (λ (all : List Said). Listed (events_drawn autos all)) (sym begun) ∙ shown

-- what one part of a script gives is what the script gives
pub given_on : (result given : Option EventRun) (old source new left : Schedule) → result ≡ given → source ≡ old → new ≡ left →
    IfSome given (λ run. BeginsWith source run left) → IfSome result (λ run. BeginsWith old run new)
given_on result given old source new left r o n begins =
    subst (λ (x : Option EventRun). IfSome x (λ run. BeginsWith old run new)) (sym r)
    (subst (λ (s : Schedule). IfSome given (λ run. BeginsWith s run new)) o
    (subst (λ (s : Schedule). IfSome given (λ run. BeginsWith source run s)) (sym n) begins))
