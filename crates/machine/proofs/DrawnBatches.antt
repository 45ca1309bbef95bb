-- Events that are drawn in rows.
use Rattle.std.proofs.Common.{◌≡◌, ◌<◌, ◌≤◌, ◌+◌, ◌-◌, ℕ, [], ◌++◌, replicate, sym, ◌∙◌, ap, None, true, arith}
use Rattle.std.specs.Prelude.{◌==◌, ◌&&◌}
use Rattle.std.proofs.lemmas.Bool.Decides.{nat_tests}
use Rattle.sv_types.specs.declared.event.Event.{Event}
use Rattle.sv_types.specs.Schedule.{Schedule, first_events, next_event}
use Rattle.script.specs.Runs.{BeginsWith}
use Rattle.script.specs.declared.event_run.EventRun.{EventRun}
use Rattle.script.proofs.FirstEvents.{begun_none}

-- no event is at hand, and none is to be drawn
pub none_asked : (count undrawn : ℕ) (event : Event) (script : Schedule) → count ≡ 0 → undrawn ≡ 0 → replicate count event ++ first_events undrawn script ≡ []
unfolding first_events
none_asked count undrawn event script none asked =
    ap (λ (n : ℕ). replicate n event ++ first_events undrawn script) none ∙ ap (λ (n : ℕ). first_events n script) asked

-- no event is at hand, and the script is at its end
pub none_drawn : (count undrawn : ℕ) (event : Event) (script : Schedule) → count ≡ 0 → None ≡ next_event script →
    replicate count event ++ first_events undrawn script ≡ []
none_drawn count undrawn event script none end =
    ap (λ (n : ℕ). replicate n event ++ first_events undrawn script) none ∙ begun_none undrawn script (sym end)

-- one event is drawn
pub one_drawn : (left now later made : ℕ) (run : EventRun) (old new : Schedule) → now + later ≡ left → 0 < now → run.count ≡ 1 → made ≡ 1 → BeginsWith old run new
    → first_events left old ≡ replicate made run.event ++ first_events (now - 1 + later) new
one_drawn left now later made run old new same some one once begins =
    let all : left ≡ run.count + (now - 1 + later) = omega (arith, same, some, one) in
    ap (λ (n : ℕ). first_events n old) all ∙ begins (now - 1 + later)
    ∙ ap (λ (n : ℕ). replicate n run.event ++ first_events (now - 1 + later) new) (one ∙ sym once)

-- none is to be drawn any more
pub none_left : (left : ℕ) (script : Schedule) → left ≡ 0 → first_events left script ≡ []
unfolding first_events
none_left left script none = ap (λ (n : ℕ). first_events n script) none

-- ---- with events that are drawn later

pub used_none : (count undrawn : ℕ) → (count == 0 && undrawn == 0) ≡ true → count + undrawn ≡ 0
used_none count undrawn used = grind (arith, nat_tests)

both_none : (count undrawn : ℕ) → count ≡ 0 → undrawn ≡ 0 → (count == 0 && undrawn == 0) ≡ true
both_none count undrawn none asked = grind (arith, nat_tests)

pub none_asked_later : (count undrawn later : ℕ) (event : Event) (script : Schedule) → count ≡ 0 → undrawn ≡ 0 → ((count == 0 && undrawn == 0) ≡ true → later ≡ 0)
    → replicate count event ++ first_events (undrawn + later) script ≡ []
none_asked_later count undrawn later event script none asked some =
    let over : later ≡ 0 = some (both_none count undrawn none asked) in
    none_asked count (undrawn + later) event script none (omega (arith, asked, over))

-- the first of a run that is drawn
pub drawn_later : (count undrawn later : ℕ) (run : EventRun) (event : Event) (old new : Schedule) → count ≡ 0 → run.count ≤ undrawn → BeginsWith old run new
    → replicate run.count run.event ++ first_events (undrawn - run.count + later) new ≡ replicate count event ++ first_events (undrawn + later) old
drawn_later count undrawn later run event old new none most begins =
    let all : undrawn + later ≡ run.count + (undrawn - run.count + later) = omega (arith, most) in
    sym (ap (λ (n : ℕ). replicate n event ++ first_events (undrawn + later) old) none
    ∙ ap (λ (n : ℕ). first_events n old) all ∙ begins (undrawn - run.count + later))

-- so many more are asked for
pub asked_later : (undrawn now later all : ℕ) (script : Schedule) → now + later ≡ all → first_events (undrawn + now + later) script ≡ first_events (undrawn + all) script
asked_later undrawn now later all script sum = ap (λ (n : ℕ). first_events n script) (omega (arith, sum))
