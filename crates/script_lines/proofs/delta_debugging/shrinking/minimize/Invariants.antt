use Rattle.std.proofs.Common.{◌≡◌, ◌≤◌, ◌-◌}
use Rattle.script_lines.specs.Minimal.{IsReduced}
use Rattle.script_lines.proofs.delta_debugging.shrinking.minimize.Given as goal

abbrev pub invariant-sizes : goal.invariant-sizes
invariant-sizes g l =
    IsReduced (g.S.Stops.stops l.fn.test) l.fn.items.items l.items.items × (g.S.Stops.stops l.test ≡ g.S.Stops.stops l.fn.test)
    × (g.S.Stops.left l.test ≤ g.S.Stops.left l.fn.test)

abbrev pub decreases-sizes : goal.decreases-sizes
decreases-sizes g l = l.size - 1

abbrev pub invariant-rounds : goal.invariant-rounds
invariant-rounds g l =
    IsReduced (g.S.Stops.stops l.fn.test) l.fn.items.items l.items.items × (g.S.Stops.stops l.test ≡ g.S.Stops.stops l.fn.test)
    × (g.S.Stops.left l.test ≤ g.S.Stops.left l.fn.test)

abbrev pub decreases-rounds : goal.decreases-rounds
decreases-rounds g l = g.S.Stops.left l.test
