use Rattle.std.proofs.Common.{rules, ◌≡◌, ◌+◌, ◌<◌, ◌≤◌, length, true, false, sym, ◌∙◌, ap, arith}
use Rattle.std.proofs.lemmas.Bool.{ltb-true, ltb-false}
use Rattle.debug_session.specs.Runs.{after, events_left, is_running, state}
use Rattle.debug_session.proofs.RowLemmas.{rows_begin, row_skipped, row_ends, rows_over}
use Rattle.debug_session.proofs.motion.finish.Goals as goal

pub rows-init : goal.rows-init
rows-init g c = rows_begin g.T.Target.stands c.args.target.now c.most_left-most.result c.most_left-most.ensures

pub returns-then-not-is_left : goal.returns-then-not-is_left
returns-then-not-is_left g c = λ run stands.
    let h = c.rows.invariant.here run stands in
    let over : length run.events ≤ run.made + h.n = ltb-false _ _ (sym (c.is_left.ensures (after run (run.made + h.n)) h.stands_there) ∙ c.if-not-is_left.true) in
    rows_over g.T.Target.stands run c.rows.counter c.rows.target h (omega (arith, over))

pub returns-then-not-is_running : goal.returns-then-not-is_running
returns-then-not-is_running g c = λ run stands.
    let h = c.rows.invariant.here run stands in
    let within : run.made + h.n < length run.events = ltb-true _ _ (sym (c.is_left.ensures (after run (run.made + h.n)) h.stands_there) ∙ c.if-not-is_left.false) in
    let row = c.in_ok-advance_row.ensures.row (after run (run.made + h.n)) h.stands_there within in
    let off : is_running (state (after run (run.made + h.n + c.in_ok-advance_row.field-0))).journal.verdict ≡ false =
    ap is_running (sym (c.verdict.ensures (after run (run.made + h.n + c.in_ok-advance_row.field-0)) row.stands_there)) ∙ sym c.is_running.ensures ∙ c.if-not-is_running.true in
    row_ends g.T.Target.stands run c.rows.counter c.rows.target c.advance_row.new.self c.in_ok-advance_row.field-0 h row off

pub rows-preserved : goal.rows-preserved
rows-preserved g c = record {
  few = c.rows.invariant.few;
  here = λ run stands.
      let h = c.rows.invariant.here run stands in
      let within : run.made + h.n < length run.events = ltb-true _ _ (sym (c.is_left.ensures (after run (run.made + h.n)) h.stands_there) ∙ c.if-not-is_left.false) in
      let row = c.in_ok-advance_row.ensures.row (after run (run.made + h.n)) h.stands_there within in
      let on : is_running (state (after run (run.made + h.n + c.in_ok-advance_row.field-0))).journal.verdict ≡ true =
      ap is_running (sym (c.verdict.ensures (after run (run.made + h.n + c.in_ok-advance_row.field-0)) row.stands_there)) ∙ sym c.is_running.ensures ∙ c.if-not-is_running.false in
      row_skipped g.T.Target.stands run c.rows.counter c.rows.target c.advance_row.new.self c.in_ok-advance_row.field-0 h row on;
}

pub returns : goal.returns
returns g c = λ run stands.
    let h = c.rows.invariant.here run stands in
    let over : c.most_left-most.result ≤ c.rows.counter = search rules in
    let few : events_left run ≤ c.most_left-most.result = c.rows.invariant.few run stands in
    let fast : c.rows.counter ≤ h.n = h.fast in
    rows_over g.T.Target.stands run c.rows.counter c.rows.target h (omega (arith, over, few, fast))
