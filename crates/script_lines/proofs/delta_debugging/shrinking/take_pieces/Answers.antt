use Rattle.std.proofs.Common.{refl, ◌∙◌, ◌≤◌, arith}
use Rattle.script_lines.proofs.Subsequences.{reduced_none, reduced_next, still_stops}
use Rattle.script_lines.proofs.delta_debugging.shrinking.take_pieces.Goals as goal

pub pieces-init : goal.pieces-init
pieces-init g c = (reduced_none _ _ c.requires.stops, refl, omega arith)

pub try_without-requires-clause-stops : goal.try_without-requires-clause-stops
try_without-requires-clause-stops g c = λ κs lives. still_stops _ _ _ _ c.pieces.invariant.1 c.pieces.invariant.0

pub returns-in_err-try_without-clause-reduced : goal.returns-in_err-try_without-clause-reduced
returns-in_err-try_without-clause-reduced g c = reduced_next _ _ _ _ _ c.pieces.invariant.1 c.pieces.invariant.0 c.try_without.ensures.reduced

pub pieces-preserved : goal.pieces-preserved
pieces-preserved g c =
    let before = c.pieces.invariant.2 in
    let less = c.try_without.ensures.runs in (
      reduced_next _ _ _ _ _ c.pieces.invariant.1 c.pieces.invariant.0 c.try_without.ensures.reduced,
      c.try_without.ensures.same ∙ c.pieces.invariant.1,
      omega arith,
    )
