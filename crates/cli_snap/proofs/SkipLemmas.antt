-- A script after its first events.
use Rattle.std.proofs.Common.{◌≡◌, ℕ, zero, suc, ◌+◌, ◌-◌, ◌≤◌, List, [], ◌∷◌, ◌++◌, length, drop, replicate, sym, ◌∙◌, ap, arith, None}
use Rattle.std.proofs.lemmas.List.{drop_all}
use Rattle.std.proofs.Math.Nat.{zero-add, suc-add}
use Rattle.sv_types.specs.Schedule.{Schedule, next_event, first_events}
use Rattle.sv_types.specs.declared.event.Event.{Event}
use Rattle.script.specs.Runs.{BeginsWith}
use Rattle.script.specs.declared.event_run.EventRun.{EventRun}
use Rattle.script.proofs.FirstEvents.{begun_none, first_few}
use Rattle.cli_snap.specs.ResumePlans.{events_after}

drop_row : (n rest : ℕ) (event : Event) (events : List Event) → drop (n + rest) (replicate n event ++ events) ≡ drop rest events
drop_row zero rest event events = ap (λ (k : ℕ). drop k events) (zero-add rest)
drop_row (suc n) rest event events =
    ap (λ (k : ℕ). drop k (event ∷ (replicate n event ++ events))) (suc-add n rest) ∙ drop_row n rest event events

-- nothing is after a script's end
pub after_end : (undrawn made events : ℕ) (old new all : Schedule) → next_event old ≡ None →
    events_after undrawn (undrawn + events) old ≡ events_after made (made + events) all → first_events 0 new ≡ events_after made (made + events) all
unfolding first_events
after_end undrawn made events old new all none same =
    sym (drop_all undrawn [] (omega arith)) ∙ ap (λ (es : List Event). drop undrawn es) (sym (begun_none (undrawn + events) old none)) ∙ same

-- all of them were drawn
pub after_all : (undrawn made events : ℕ) (old all : Schedule) → undrawn ≤ 0 →
    events_after undrawn (undrawn + events) old ≡ events_after made (made + events) all → first_events events old ≡ events_after made (made + events) all
after_all undrawn made events old all none same =
    let zero_is : 0 ≡ undrawn = omega (arith, none) in
    ap (λ (n : ℕ). first_events n old) (sym (zero-add events)) ∙ ap (λ (n : ℕ). events_after n (n + events) old) zero_is ∙ same

-- a row of them was drawn
pub after_row : (undrawn events : ℕ) (old new : Schedule) (row : EventRun) → row.count ≤ undrawn → BeginsWith old row new →
    events_after (undrawn - row.count) (undrawn - row.count + events) new ≡ events_after undrawn (undrawn + events) old
after_row undrawn events old new row few begins =
    let left : ℕ = undrawn - row.count in
    let parts : row.count + left ≡ undrawn = omega (arith, few) in
    let sum : row.count + (left + events) ≡ undrawn + events = omega (arith, parts) in
    sym (drop_row row.count left row.event (first_events (left + events) new))
    ∙ ap (λ (es : List Event). drop (row.count + left) es) (sym (begins (left + events)))
    ∙ ap (λ (n : ℕ). drop (row.count + left) (first_events n old)) sum
    ∙ ap (λ (n : ℕ). drop n (first_events (undrawn + events) old)) parts

-- ---- no more events than that many

-- no event is left where at least as many were made
pub none_left : (made events : ℕ) (script : Schedule) → events ≤ made → first_events 0 script ≡ events_after made events script
unfolding first_events
none_left made events script few =
    let most : length (first_events events script) ≤ events = first_few events script in
    sym (drop_all made (first_events events script) (omega (arith, most, few)))

pub some_left : (made events : ℕ) (script : Schedule) (left : List Event) → made ≤ events → left ≡ events_after made (made + (events - made)) script →
    left ≡ events_after made events script
some_left made events script left few is =
    let sum : made + (events - made) ≡ events = omega (arith, few) in
    is ∙ ap (λ (n : ℕ). drop made (first_events n script)) sum
