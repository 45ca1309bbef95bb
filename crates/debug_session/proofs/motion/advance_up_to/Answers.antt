use Rattle.std.proofs.Common.{rules, ◌≡◌, ◌+◌, ◌-◌, ◌<◌, ◌≤◌, length, sym, ◌∙◌, subst, arith}
use Rattle.std.proofs.lemmas.Bool.{ltb-true, ltb-false}
use Rattle.debug_session.specs.Runs.{Run, after}
use Rattle.debug_session.proofs.Reaching.{all_made, as_many, begins}
use Rattle.debug_session.proofs.motion.advance_up_to.Goals as goal

pub events-init : goal.events-init
events-init g c = begins g.T.Target.stands c.args.target.now c.events_made-made.result c.events_made-made.ensures.within

pub returns-then-not-is_left : goal.returns-then-not-is_left
returns-then-not-is_left g c = λ run stands less.
    let made : run.made ≡ c.events_made-made.result = sym (c.events_made-made.ensures.made run stands) in
    let n = c.events_made-made.result + c.events.counter in
    let turns : c.events.counter ≤ c.saturating_sub-count.result = search rules in
    let count = c.saturating_sub-count.ensures in
    let few : c.events_made-made.result + c.events.counter ≤ c.args.number = omega (arith, turns, count, made, less) in
    let over : length run.events ≤ c.events_made-made.result + c.events.counter =
    ltb-false _ _ (sym (c.is_left.ensures (after run n) (c.events.invariant.here run stands made)) ∙ c.if-not-is_left.true) in
    all_made g.T.Target.stands c.events.target run n c.args.number few (c.events.invariant.within run stands made) over (c.events.invariant.here run stands made)

pub events-preserved : goal.events-preserved
events-preserved g c =
    let n = c.events_made-made.result + c.events.counter in
    let more : (run : Run) → g.T.Target.stands c.args.target.now run → run.made ≡ c.events_made-made.result → c.events_made-made.result + c.events.counter < length run.events = λ run stands made.
    ltb-true _ _ (sym (c.is_left.ensures (after run n) (c.events.invariant.here run stands made)) ∙ c.if-not-is_left.false) in
    record {
      here = λ run stands made.
          let next : c.events_made-made.result + c.events.counter + 1 ≡ c.events_made-made.result + (c.events.counter + 1) = omega arith in
          subst (λ m. g.T.Target.stands c.advance.new.target (after run m)) next (c.in_ok-advance.ensures (after run n) (c.events.invariant.here run stands made) (more run stands made));
      within = λ run stands made. let some : c.events_made-made.result + c.events.counter < length run.events = more run stands made in omega (arith, some);
    }

pub returns : goal.returns
returns g c = λ run stands less.
    let made : run.made ≡ c.events_made-made.result = sym (c.events_made-made.ensures.made run stands) in
    let turns : c.events.counter ≡ c.saturating_sub-count.result = search rules in
    let count = c.saturating_sub-count.ensures in
    let all : c.events_made-made.result + c.events.counter ≡ c.args.number = omega (arith, turns, count, made, less) in
    as_many g.T.Target.stands c.events.target run c.args.number
    (subst (λ n. n ≤ length run.events) all (c.events.invariant.within run stands made))
    (subst (λ n. g.T.Target.stands c.events.target (after run n)) all (c.events.invariant.here run stands made))
