use Rattle.std.proofs.Common.{rules, ◌≡◌, ◌-◌, ◌++◌, ◌∷◌, [], ap, sym, ◌∙◌, Some, None, append_assoc, arith, List}
use Rattle.std.proofs.lemmas.List.{append-nil}
use Rattle.sv_types.specs.declared.event.Event.{Event}
use Rattle.sv_types.specs.Schedule.{first_events, next_event}
use Rattle.script_lines.specs.Lines.{events_of}
use Rattle.script_lines.proofs.Events.{none_left, first_next, no_event}
use Rattle.script_lines.proofs.listing.write_out.Goals as goal

pub returns-in_default : goal.returns-in_default
returns-in_default c =
    let none : next_event c.events.script ≡ None = search rules in
    sym (append-nil (events_of c.events.lines.items))
    ∙ ap (λ (es : List Event). events_of c.events.lines.items ++ es) (sym (none_left c.events.left c.events.script none))
    ∙ c.events.invariant

pub events-preserved : goal.events-preserved
events-preserved c =
    let is : next_event c.events.script ≡ Some c.in-Some.event = search rules in
    let one : events_of c.push_line.new.lines.items ≡ events_of c.events.lines.items ++ c.in-Some.event ∷ [] = search rules in
    ap (λ (es : List Event). es ++ first_events (c.events.left - 1) c.next.new.self) one
    ∙ append_assoc (events_of c.events.lines.items) (c.in-Some.event ∷ []) (first_events (c.events.left - 1) c.next.new.self)
    ∙ ap (λ (es : List Event). events_of c.events.lines.items ++ es)
    (sym (first_next c.events.left c.events.script c.next.new.self c.in-Some.event c.events-test.true is c.in-Some.ensures.rest))
    ∙ c.events.invariant

pub returns : goal.returns
returns c =
    sym (append-nil (events_of c.events.lines.items))
    ∙ ap (λ (es : List Event). events_of c.events.lines.items ++ es) (sym (no_event c.events.left c.events.script (omega (arith, c.events-test.false))))
    ∙ c.events.invariant
