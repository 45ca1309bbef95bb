use Rattle.std.proofs.Common.{◌≡◌, ◌≤◌, true}
use Rattle.script_lines.proofs.shrinking.shrink_lines.Given as goal

abbrev pub invariant-rounds : goal.invariant-rounds
invariant-rounds g l =
    (g.S.Stops.stops l.fn.test l.lines.items ≡ true) × (g.S.Stops.stops l.test ≡ g.S.Stops.stops l.fn.test)
    × (g.S.Stops.left l.test ≤ g.S.Stops.left l.fn.test)

abbrev pub decreases-rounds : goal.decreases-rounds
decreases-rounds g l = g.S.Stops.left l.test
