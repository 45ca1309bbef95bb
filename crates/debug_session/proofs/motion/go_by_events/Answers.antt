use Rattle.std.proofs.Common.{rules, ◌≡◌, ℕ, ◌+◌, ◌-◌, ◌<◌, ◌≤◌, length, sym, ◌∙◌, ap, subst, arith}
use Rattle.std.proofs.lemmas.Bool.{ltb-true, ltb-false}
use Rattle.debug_session.specs.Runs.{Run, after, ahead, events_left, halts_after, first_halt, last_change}
use Rattle.debug_session.proofs.Motions.{first_halt_none, first_halt_here, first_halt_later, halts_by, one_made, same_change}
use Rattle.debug_session.proofs.motion.go_by_events.Goals as goal

pub returns-then-not-is_left-clause-moved : goal.returns-then-not-is_left-clause-moved
unfolding ahead
returns-then-not-is_left-clause-moved g c = λ run stands.
    let none : length run.events ≤ run.made + c.events.counter =
    ltb-false _ _ (sym (c.is_left.ensures (after run (run.made + c.events.counter)) (c.events.invariant.here run stands)) ∙ c.if-not-is_left.true) in
    let number = c.events.invariant.still run stands
    ∙ first_halt_none (halts_after c.args.breaks.now c.args.watches.now c.args.steps run) (run.made + c.events.counter) (events_left run - c.events.counter) (omega (arith, none)) in
    subst (λ m. g.T.Target.stands c.events.target (after run m)) (sym number) (c.events.invariant.here run stands)

pub returns-then-not-is_left-clause-change : goal.returns-then-not-is_left-clause-change
unfolding ahead
returns-then-not-is_left-clause-change g c = λ run stands.
    let none : length run.events ≤ run.made + c.events.counter =
    ltb-false _ _ (sym (c.is_left.ensures (after run (run.made + c.events.counter)) (c.events.invariant.here run stands)) ∙ c.if-not-is_left.true) in
    let number = c.events.invariant.still run stands
    ∙ first_halt_none (halts_after c.args.breaks.now c.args.watches.now c.args.steps run) (run.made + c.events.counter) (events_left run - c.events.counter) (omega (arith, none)) in
    c.events.invariant.last run stands ∙ ap (last_change c.args.watches.now run) (sym number)

pub returns-then-halts-clause-moved : goal.returns-then-halts-clause-moved
unfolding ahead
returns-then-halts-clause-moved g c = λ run stands.
    let n : ℕ = run.made + c.events.counter in
    let here = c.events.invariant.here run stands in
    let within : run.made + c.events.counter < length run.events =
    ltb-true _ _ (sym (c.is_left.ensures (after run (run.made + c.events.counter)) here) ∙ c.if-not-is_left.false) in
    let there = c.in_ok-change.ensures.moved (after run n) here within in
    let changed = c.in_ok-change.ensures.change (after run n) here within ∙ same_change c.args.watches.now run n n in
    let is = halts_by c.args.breaks.now c.args.watches.now c.args.steps c.next_turn-turn.result c.in_ok-change.change run n (c.next_turn-turn.ensures (after run n) here) changed
    ∙ sym (c.halts.ensures (after run (n + 1)) there) ∙ c.if-halts.true in
    let number = c.events.invariant.still run stands
    ∙ first_halt_here (halts_after c.args.breaks.now c.args.watches.now c.args.steps run) n (events_left run - c.events.counter) (omega (arith, within)) is in
    subst (λ m. g.T.Target.stands c.advance_watching.new.target (after run m)) (sym number) there

pub returns-then-halts-clause-change : goal.returns-then-halts-clause-change
unfolding ahead
returns-then-halts-clause-change g c = λ run stands.
    let n : ℕ = run.made + c.events.counter in
    let here = c.events.invariant.here run stands in
    let within : run.made + c.events.counter < length run.events =
    ltb-true _ _ (sym (c.is_left.ensures (after run (run.made + c.events.counter)) here) ∙ c.if-not-is_left.false) in
    let there = c.in_ok-change.ensures.moved (after run n) here within in
    let changed = c.in_ok-change.ensures.change (after run n) here within ∙ same_change c.args.watches.now run n n in
    let is = halts_by c.args.breaks.now c.args.watches.now c.args.steps c.next_turn-turn.result c.in_ok-change.change run n (c.next_turn-turn.ensures (after run n) here) changed
    ∙ sym (c.halts.ensures (after run (n + 1)) there) ∙ c.if-halts.true in
    let number = c.events.invariant.still run stands
    ∙ first_halt_here (halts_after c.args.breaks.now c.args.watches.now c.args.steps run) n (events_left run - c.events.counter) (omega (arith, within)) is in
    let next : run.made + (c.events.counter + 1) ≡ run.made + c.events.counter + 1 = omega arith in
    one_made c.args.watches.now run c.events.counter c.in_ok-change.change changed ∙ ap (last_change c.args.watches.now run) (next ∙ sym number)

pub events-preserved : goal.events-preserved
events-preserved g c =
    let next : (run : Run) → run.made + c.events.counter + 1 ≡ run.made + (c.events.counter + 1) = λ run. omega arith in
    let fewer : (run : Run) → events_left run - c.events.counter - 1 ≡ events_left run - (c.events.counter + 1) = λ run. omega arith in
    let within : (run : Run) → g.T.Target.stands c.args.target.now run → run.made + c.events.counter < length run.events = λ run stands.
    ltb-true _ _ (sym (c.is_left.ensures (after run (run.made + c.events.counter)) (c.events.invariant.here run stands)) ∙ c.if-not-is_left.false) in
    let there : (run : Run) → g.T.Target.stands c.args.target.now run → g.T.Target.stands c.advance_watching.new.target (after run (run.made + c.events.counter + 1)) = λ run stands.
    c.in_ok-change.ensures.moved (after run (run.made + c.events.counter)) (c.events.invariant.here run stands) (within run stands) in
    record {
      few = c.events.invariant.few;
      here = λ run stands. subst (λ m. g.T.Target.stands c.advance_watching.new.target (after run m)) (next run) (there run stands);
      still = λ run stands.
          let n : ℕ = run.made + c.events.counter in
          let here = c.events.invariant.here run stands in
          let changed = c.in_ok-change.ensures.change (after run n) here (within run stands) ∙ same_change c.args.watches.now run n n in
          let is = halts_by c.args.breaks.now c.args.watches.now c.args.steps c.next_turn-turn.result c.in_ok-change.change run n (c.next_turn-turn.ensures (after run n) here) changed
          ∙ sym (c.halts.ensures (after run (n + 1)) (there run stands)) ∙ c.if-halts.false in
          let some : run.made + c.events.counter < length run.events = within run stands in
          c.events.invariant.still run stands
          ∙ first_halt_later (halts_after c.args.breaks.now c.args.watches.now c.args.steps run) n (events_left run - c.events.counter) (omega (arith, some)) is
          ∙ ap (λ m. first_halt (halts_after c.args.breaks.now c.args.watches.now c.args.steps run) m (events_left run - c.events.counter - 1)) (next run)
          ∙ ap (λ m. first_halt (halts_after c.args.breaks.now c.args.watches.now c.args.steps run) (run.made + (c.events.counter + 1)) m) (fewer run);
      last = λ run stands.
          let n : ℕ = run.made + c.events.counter in
          one_made c.args.watches.now run c.events.counter c.in_ok-change.change
          (c.in_ok-change.ensures.change (after run n) (c.events.invariant.here run stands) (within run stands) ∙ same_change c.args.watches.now run n n);
    }

pub returns-clause-moved : goal.returns-clause-moved
unfolding ahead
returns-clause-moved g c = λ run stands.
    let over : c.most_left-most.result ≤ c.events.counter = search rules in
    let few : length run.events - run.made ≤ c.most_left-most.result = c.events.invariant.few run stands in
    let number = c.events.invariant.still run stands
    ∙ first_halt_none (halts_after c.args.breaks.now c.args.watches.now c.args.steps run) (run.made + c.events.counter) (events_left run - c.events.counter) (omega (arith, over, few)) in
    subst (λ m. g.T.Target.stands c.events.target (after run m)) (sym number) (c.events.invariant.here run stands)

pub returns-clause-change : goal.returns-clause-change
unfolding ahead
returns-clause-change g c = λ run stands.
    let over : c.most_left-most.result ≤ c.events.counter = search rules in
    let few : length run.events - run.made ≤ c.most_left-most.result = c.events.invariant.few run stands in
    let number = c.events.invariant.still run stands
    ∙ first_halt_none (halts_after c.args.breaks.now c.args.watches.now c.args.steps run) (run.made + c.events.counter) (events_left run - c.events.counter) (omega (arith, over, few)) in
    c.events.invariant.last run stands ∙ ap (last_change c.args.watches.now run) (sym number)
