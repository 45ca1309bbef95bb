use Rattle.std.proofs.Common.{rules, ◌≡◌, ◌+◌, ◌≤◌, length, drop, replicate, sym, ◌∙◌, ap, subst, arith, Some}
use Rattle.debug_session.specs.Runs.{state}
use Rattle.cli_debug.specs.Debugged.{StandsIn}
use Rattle.cli_debug.specs.Upcoming.{most_upcoming, upcoming}
use Rattle.cli_debug.proofs.AlikeStates.{alike_running}
use Rattle.cli_debug.proofs.Standings.{left_by, none_is_left, left_after, running_after, state_after, within_after, where_ok}
use Rattle.cli_debug.proofs.target.debugged.DebuggedMachineTarget.advance_row.Goals as goal

pub returns-in_default-clause-row : goal.returns-in_default-clause-row
returns-in_default-clause-row g c = λ run at within.
    absurd (none_is_left c.args.self.now.next run.made (length run.events) c.in_default.is
    (left_by c.args.self.now.next c.args.self.now.left c.args.self.now.script run.made run.events c.args.self.now.some at.left_are) within)

pub invariant_of-self : goal.invariant_of-self
invariant_of-self g c =
    let was : c.args.self.now.made + (c.in-Some.row.count + c.args.self.now.left) ≤ c.args.self.now.events =
    subst (λ next. c.args.self.now.made + most_upcoming next c.args.self.now.left ≤ c.args.self.now.events) c.in-Some.is c.args.self.now.few in
    let fewer : most_upcoming c.after_row.new.next c.after_row.new.left + c.make_row-count.result.0 ≤ c.in-Some.row.count + c.args.self.now.left = c.after_row.ensures.fewer in
    record {
      none = c.make_row-count.ensures.none;
      some = c.after_row.ensures.some;
      counts = c.make_row-count.ensures.counts c.args.self.now.made c.args.self.now.counts;
      few = omega (arith, was, fewer);
      limit = c.args.self.now.limit;
    }

pub returns-clause-row : goal.returns-clause-row
returns-clause-row g c = λ run at within.
    let row = c.in-Some.row in
    let count = c.make_row-count.result.0 in
    let is : upcoming (Some c.in-Some.row) c.args.self.now.left c.args.self.now.script ≡ drop run.made run.events =
    ap (λ next. upcoming next c.args.self.now.left c.args.self.now.script) (sym c.in-Some.is) ∙ at.left_are in
    let few : c.make_row-count.result.0 ≤ c.in-Some.row.count = search rules in
    let stands = where_ok c.make_row-count.result.1 c.in_ok-told.field-0 c.make_row-count.ensures.stands (search rules) in
    record {
      some = c.make_row-count.ensures.some;
      within = within_after row c.args.self.now.left c.args.self.now.script run count is few at.within;
      stands_there = record {
        kernel_is = at.kernel_is;
        starts = at.starts;
        events_are = at.events_are;
        made_are = ap (λ n. n + count) at.made_are;
        within = within_after row c.args.self.now.left c.args.self.now.script run count is few at.within;
        here =
            subst (λ s. StandsIn c.make_row-count.new.machine c.make_row-count.new.console.items s) (sym (state_after row c.args.self.now.left c.args.self.now.script run count is few))
            (stands (state run) at.here);
        left_are = c.after_row.ensures.same ∙ left_after row c.args.self.now.left c.args.self.now.script run count is;
        measured = at.measured;
        text_is = at.text_is;
        kept = at.kept;
      };
      running = running_after row c.args.self.now.left c.args.self.now.script run count is few
          (λ k some below. alike_running at.here.front (state run) at.here.like (replicate k row.event) at.here.alike
          (c.make_row-count.ensures.running at.here.like at.here.here.stands
          (sym c.verdict.ensures ∙ c.row_asked-asked.ensures.running (omega (arith, some, below, c.make_row-count.ensures.most))) k below));
    }
