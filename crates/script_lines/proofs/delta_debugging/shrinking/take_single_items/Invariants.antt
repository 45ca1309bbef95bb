use Rattle.std.proofs.Common.{◌≡◌, ◌≢◌, ◌≤◌, ◌<◌, ◌+◌, ℕ, false}
use Rattle.script_lines.specs.Minimal.{IsReduced, without}
use Rattle.script_lines.specs.declared.delta_debugging.shrinking.Round.TheVariants.{Same, Fewer, NoRunsLeft}
use Rattle.script_lines.proofs.delta_debugging.shrinking.take_single_items.Given as goal

-- while none is gone, it doesn't stop so without any one of those before this place
abbrev pub invariant-items : goal.invariant-items
invariant-items g l =
    IsReduced (g.S.Stops.stops l.fn.test) l.fn.items.items l.items.items × (g.S.Stops.stops l.test ≡ g.S.Stops.stops l.fn.test)
    × (g.S.Stops.left l.test ≤ g.S.Stops.left l.fn.test)
    × (l.round ≡ Same → (i : ℕ) → i < l.at → g.S.Stops.stops l.fn.test (without l.items.items i (i + 1)) ≡ false)
    × (l.round ≡ Fewer → g.S.Stops.left l.test < g.S.Stops.left l.fn.test) × (l.round ≢ NoRunsLeft)

abbrev pub decreases-items : goal.decreases-items
decreases-items g l = g.S.Stops.left l.test
