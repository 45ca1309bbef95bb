use Rattle.std.proofs.Common.{rules, ◌≡◌, ◌<◌, ◌≤◌, length, if◌then◌else◌, Some, None, sym, ◌∙◌, ap, arith}
use Rattle.std.specs.Prelude.{option_map}
use Rattle.debug_session.specs.Runs.{Run, after, change_at, found_at, is_target, last_below}
use Rattle.debug_session.proofs.Motions.{last_below_none, last_below_next, same_change, target_by, found_here}
use Rattle.debug_session.proofs.motion.last_hit.Goals.{then-is_hit, else-is_hit}
use Rattle.debug_session.proofs.motion.last_hit.Goals as goal

pub events-init : goal.events-init
events-init g c = record {
  here = λ run stands few. stands;
  known = λ run stands few. ap (option_map (found_at c.args.watches.now run)) (sym (last_below_none (is_target c.args.breaks.now c.args.watches.now None run)));
}

pub events-preserved : goal.events-preserved
events-preserved g c =
    let some : c.events.n < c.args.count = search rules in
    let within : (run : Run) → c.args.count ≤ length run.events → c.events.n < length run.events = λ run few. omega (arith, some, few) in
    let kept : (run : Run) → g.T.Target.stands c.args.target.now (after run 0) → c.args.count ≤ length run.events → g.T.Target.stands c.keep_at.new.target (after run c.events.n) =
    λ run stands few. c.keep_at.ensures (after run c.events.n) (c.events.invariant.here run stands few) in
    let changed : (run : Run) → g.T.Target.stands c.args.target.now (after run 0) → c.args.count ≤ length run.events → c.in_ok-change.change ≡ change_at c.args.watches.now run c.events.n =
    λ run stands few. c.in_ok-change.ensures.change (after run c.events.n) (kept run stands few) (within run few) ∙ same_change c.args.watches.now run c.events.n c.events.n in
    let test : (run : Run) → g.T.Target.stands c.args.target.now (after run 0) → c.args.count ≤ length run.events →
    c.is_hit.result ≡ is_target c.args.breaks.now c.args.watches.now None run c.events.n = λ run stands few.
    c.is_hit.ensures ∙ target_by c.args.breaks.now c.args.watches.now run c.events.n c.meets_break-is_met.result c.in_ok-change.change
    (c.meets_break-is_met.ensures (after run c.events.n) (kept run stands few)) (changed run stands few) in
    record {
      here = λ run stands few. c.in_ok-change.ensures.moved (after run c.events.n) (kept run stands few) (within run few);
      known = λ run stands few.
          let p = is_target c.args.breaks.now c.args.watches.now None run in
          let place = option_map (found_at c.args.watches.now run) in
          elim c.if-is_hit.branch [
            | then-is_hit w ↦
                w.last-is ∙ found_here c.args.watches.now run c.events.n c.in_ok-change.change (changed run stands few) ∙ ap place (sym (last_below_next p c.events.n
                ∙ ap (λ b. if b then Some c.events.n else last_below p c.events.n) (sym (test run stands few) ∙ w.if-is_hit.true)))
            | else-is_hit w ↦
                w.last-is ∙ c.events.invariant.known run stands few ∙ ap place (sym (last_below_next p c.events.n
                ∙ ap (λ b. if b then Some c.events.n else last_below p c.events.n) (sym (test run stands few) ∙ w.if-is_hit.false)))
          ];
    }
