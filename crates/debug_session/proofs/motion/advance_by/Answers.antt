use Rattle.std.proofs.Common.{rules, ◌<◌, ◌≤◌}
use Rattle.debug_session.proofs.RowLemmas.{counting_begins, row_counted, all_counted, none_uncounted}
use Rattle.debug_session.proofs.motion.advance_by.Goals as goal

pub rows-init : goal.rows-init
rows-init g c = counting_begins g.T.Target.stands c.args.target.now c.args.count

pub returns-then-left-eq0 : goal.returns-then-left-eq0
returns-then-left-eq0 g c = all_counted g.T.Target.stands c.args.target.now c.rows.target c.args.count c.rows.left c.rows.counter c.rows.invariant c.if-left-eq0.true

pub rows-preserved : goal.rows-preserved
rows-preserved g c =
    let some : 0 < c.rows.left = search rules in
    row_counted g.T.Target.stands c.args.target.now c.rows.target c.advance_row.new.self c.args.count c.rows.left c.rows.counter c.in_ok-made.made c.rows.invariant some
    c.in_ok-made.ensures.few c.in_ok-made.ensures.row

pub returns : goal.returns
returns g c =
    let over : c.args.count ≤ c.rows.counter = search rules in
    none_uncounted g.T.Target.stands c.args.target.now c.rows.target c.args.count c.rows.left c.rows.counter c.rows.invariant over
