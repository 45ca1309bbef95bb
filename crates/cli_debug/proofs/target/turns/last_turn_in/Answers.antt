use Rattle.std.proofs.Common.{◌≡◌, ℕ, ◌+◌, ◌-◌, ◌<◌, ◌≤◌, subst, sym, arith, Option}
use Rattle.std.specs.Prelude.{min}
use Rattle.sv_types.specs.Schedule.{first_events}
use Rattle.script.specs.declared.event_run.EventRun.{EventRun}
use Rattle.cli_debug.proofs.Turning.{Turning, less_by, none_left, row_seen, turning_begins}
use Rattle.cli_debug.proofs.target.turns.last_turn_in.Goals as goal

pub rows-init : goal.rows-init
rows-init c =
    turning_begins (first_events c.args.events c.args.script.now) c.args.hart c.args.made c.draw-first.result.0 c.draw-first.result.1 c.draw-first.new.script c.draw-first.ensures.same
    c.draw-first.ensures.some

pub returns-in_default : goal.returns-in_default
returns-in_default c = λ within.
    none_left (first_events c.args.events c.args.script.now) c.args.hart c.args.made c.rows.next c.rows.left c.rows.script c.rows.seen c.rows.counter c.rows.last c.rows.invariant
    c.in_default.is within

pub rows-preserved : goal.rows-preserved
rows-preserved c =
    let events = first_events c.args.events c.args.script.now in
    let row = c.in-Some.row in
    let turning = subst (λ (next : Option EventRun). Turning events c.args.hart c.args.made next c.rows.left c.rows.script c.rows.seen c.rows.counter c.rows.last) c.in-Some.is c.rows.invariant in
    let few : c.rows.seen ≤ c.args.made = turning.few in
    let less : c.rows.seen < c.args.made = less_by c.rows.seen c.args.made few c.if-seen-made.false in
    let some : 0 < c.in-Some.row.count = turning.some in
    let count : c.min-count.result ≡ min c.in-Some.row.count (c.args.made - c.rows.seen) = c.min-count.ensures in
    let more : 0 < c.min-count.result = omega (arith, less, some, count) in
    let within : c.min-count.result ≤ c.in-Some.row.count = omega (arith, count) in
    let most : c.rows.seen + c.min-count.result ≤ c.args.made = omega (arith, few, count) in
    subst (λ (last : Option ℕ).
    Turning events c.args.hart c.args.made c.after_row.new.next c.after_row.new.left c.after_row.new.script (c.rows.seen + c.min-count.result) (c.rows.counter + 1) last)
    (sym c.later_turn-last.ensures)
    (row_seen events c.args.hart c.args.made row c.rows.left c.rows.script c.rows.seen c.rows.counter c.rows.last c.min-count.result c.after_row.new.next c.after_row.new.left
    c.after_row.new.script turning more within most c.after_row.ensures.same c.after_row.ensures.some)
