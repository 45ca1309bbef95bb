-- The events of lines, as lines come to them.
use Rattle.std.proofs.Common.{◌≡◌, ◌<◌, ℕ, zero, suc, ◌+◌, ◌-◌, List, [], ◌∷◌, ◌++◌, replicate, Option, Some, None, refl, sym, ◌∙◌, ap, ap₂, append_assoc, arith}
use Rattle.std.proofs.lemmas.List.{append-nil, replicate-append-replicate}
use Rattle.std.proofs.lemmas.Grind.{flat_map-append}
use Rattle.sv_types.specs.declared.event.Event.{Event}
use Rattle.sv_types.specs.Schedule.{Schedule, first_events, next_event, after_event, begun_with}
use Rattle.script.specs.declared.event_run.EventRun.{EventRun}
use Rattle.script_lines.specs.Lines.{events_of, events_of_line, Joins}

pub pushed : (old : List EventRun) (line : EventRun) → events_of (old ++ line ∷ []) ≡ events_of old ++ events_of_line line
pushed old line =
    flat_map-append events_of_line old (line ∷ [])
    ∙ ap (λ (es : List Event). events_of old ++ es) (append-nil (events_of_line line))

-- one event, so often in all
both_are : (first second line : EventRun) → first.event ≡ line.event → second.event ≡ line.event → first.count + second.count ≡ line.count →
    events_of_line first ++ events_of_line second ≡ events_of_line line
both_are first second line one two all =
    ap₂ (λ (a b : Event). replicate first.count a ++ replicate second.count b) one two
    ∙ replicate-append-replicate first.count second.count line.event
    ∙ ap (λ (n : ℕ). replicate n line.event) all

pub pushed_two : (old : List EventRun) (first second line : EventRun) → first.event ≡ line.event → second.event ≡ line.event → first.count + second.count ≡ line.count →
    events_of ((old ++ first ∷ []) ++ second ∷ []) ≡ events_of old ++ events_of_line line
pushed_two old first second line one two all =
    pushed (old ++ first ∷ []) second
    ∙ ap (λ (es : List Event). es ++ events_of_line second) (pushed old first)
    ∙ append_assoc (events_of old) (events_of_line first) (events_of_line second)
    ∙ ap (λ (es : List Event). events_of old ++ es) (both_are first second line one two all)

pub joined_last : (old rest : List EventRun) (last line both : EventRun) → old ≡ rest ++ last ∷ [] → Joins last line (Some both) →
    events_of (rest ++ both ∷ []) ≡ events_of old ++ events_of_line line
joined_last old rest last line both is joins =
    pushed rest both
    ∙ ap (λ (es : List Event). events_of rest ++ es) (sym (both_are last line both (sym joins.0) (sym joins.1 ∙ sym joins.0) (sym joins.2)))
    ∙ sym (append_assoc (events_of rest) (events_of_line last) (events_of_line line))
    ∙ ap (λ (es : List Event). es ++ events_of_line line) (sym (pushed rest last) ∙ ap events_of (sym is))

pub none_left : (n : ℕ) (s : Schedule) → next_event s ≡ None → first_events n s ≡ []
unfolding first_events
none_left zero s none = refl
none_left (suc n) s none = ap (λ (o : Option Event). begun_with o (first_events n (after_event s))) none

pub first_next : (n : ℕ) (s new : Schedule) (event : Event) → 0 < n → next_event s ≡ Some event → new ≡ after_event s →
    first_events n s ≡ event ∷ first_events (n - 1) new
unfolding first_events
first_next zero s new event some is rest = absurd (omega (arith, some))
first_next (suc n) s new event some is rest =
    let left : n ≡ suc n - 1 = omega arith in
    ap (λ (o : Option Event). begun_with o (first_events n (after_event s))) is
    ∙ ap₂ (λ (k : ℕ) (t : Schedule). event ∷ first_events k t) left (sym rest)

pub no_event : (n : ℕ) (s : Schedule) → n ≡ 0 → first_events n s ≡ []
unfolding first_events
no_event n s is = ap (λ (k : ℕ). first_events k s) is
