use Rattle.std.proofs.Common.{rules, ◌≡◌, true}
use Rattle.script_lines.specs.Minimal.{without}
use Rattle.script_lines.proofs.Subsequences.{reduced_none, reduced_by}
use Rattle.script_lines.proofs.delta_debugging.removal.try_without.Goals as goal

pub returns-in_err-rest-clause-reduced : goal.returns-in_err-rest-clause-reduced
returns-in_err-rest-clause-reduced g c = reduced_none _ _ c.requires.stops

pub returns-in_err-gone-clause-reduced : goal.returns-in_err-gone-clause-reduced
returns-in_err-gone-clause-reduced g c = reduced_none _ _ c.requires.stops

pub returns-then-gone-clause-reduced : goal.returns-then-gone-clause-reduced
returns-then-gone-clause-reduced g c =
    let items : c.in_ok-rest.rest.items ≡ without c.args.items.now.items c.args.from c.args.to = search rules in
    let stopped : g.S.Stops.stops c.args.test.now c.in_ok-rest.rest.items ≡ true = search rules in
    reduced_by _ _ _ _ _ c.requires.order items stopped

pub returns-else-gone-clause-reduced : goal.returns-else-gone-clause-reduced
returns-else-gone-clause-reduced g c = reduced_none _ _ c.requires.stops
