use Rattle.std.proofs.Common.{◌≡◌, ◌≤◌}
use Rattle.script_lines.specs.Minimal.{IsReduced}
use Rattle.script_lines.proofs.delta_debugging.shrinking.take_pieces.Given as goal

abbrev pub invariant-pieces : goal.invariant-pieces
invariant-pieces g l =
    IsReduced (g.S.Stops.stops l.fn.test) l.fn.items.items l.items.items × (g.S.Stops.stops l.test ≡ g.S.Stops.stops l.fn.test)
    × (g.S.Stops.left l.test ≤ g.S.Stops.left l.fn.test)

abbrev pub decreases-pieces : goal.decreases-pieces
decreases-pieces g l = g.S.Stops.left l.test
