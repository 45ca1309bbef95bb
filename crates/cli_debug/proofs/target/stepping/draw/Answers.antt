use Rattle.std.proofs.Common.{rules, sym, ◌∙◌, ap}
use Rattle.std.specs.Prelude.{option_map}
use Rattle.script.specs.declared.event_run.EventRun.{EventRun}
use Rattle.cli_debug.proofs.Drawing.{none_left, none_comes, row_drawn}
use Rattle.cli_debug.proofs.target.stepping.draw.Goals as goal

pub returns-then-left-eq0-clause-same : goal.returns-then-left-eq0-clause-same
returns-then-left-eq0-clause-same c = none_left c.args.script.now c.args.left (search rules)

pub returns-in_default-clause-same : goal.returns-in_default-clause-same
returns-in_default-clause-same c =
    none_comes c.args.script.now c.args.left (ap (option_map (λ (r : EventRun). r.event)) (sym c.in_default.is) ∙ c.next_run.ensures.event)

pub returns-clause-same : goal.returns-clause-same
returns-clause-same c = row_drawn c.args.script.now c.next_run.new.self c.args.left c.in-Some.row c.in-Some.ensures.most c.in-Some.ensures.first
