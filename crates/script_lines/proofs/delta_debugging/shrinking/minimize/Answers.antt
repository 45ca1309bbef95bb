use Rattle.std.proofs.Common.{refl, ◌∙◌, ◌≤◌, arith}
use Rattle.script_lines.proofs.Subsequences.{reduced_none, reduced_next, still_stops}
use Rattle.script_lines.proofs.delta_debugging.shrinking.minimize.Goals as goal

pub sizes-init : goal.sizes-init
sizes-init g c = (reduced_none _ _ c.requires.stops, refl, omega arith)

pub take_pieces-requires-clause-stops : goal.take_pieces-requires-clause-stops
take_pieces-requires-clause-stops g c = λ κs lives. still_stops _ _ _ _ c.sizes.invariant.1 c.sizes.invariant.0

pub returns-in_err-take_pieces-clause-reduced : goal.returns-in_err-take_pieces-clause-reduced
returns-in_err-take_pieces-clause-reduced g c = reduced_next _ _ _ _ _ c.sizes.invariant.1 c.sizes.invariant.0 c.take_pieces.ensures.reduced

pub sizes-preserved : goal.sizes-preserved
sizes-preserved g c =
    let before = c.sizes.invariant.2 in
    let less = c.take_pieces.ensures.runs in (
      reduced_next _ _ _ _ _ c.sizes.invariant.1 c.sizes.invariant.0 c.take_pieces.ensures.reduced,
      c.take_pieces.ensures.same ∙ c.sizes.invariant.1,
      omega arith,
    )

pub take_single_items-requires-clause-stops : goal.take_single_items-requires-clause-stops
take_single_items-requires-clause-stops g c = λ κs lives. still_stops _ _ _ _ c.rounds.invariant.1 c.rounds.invariant.0

pub returns-in_err-take_single_items-clause-reduced : goal.returns-in_err-take_single_items-clause-reduced
returns-in_err-take_single_items-clause-reduced g c = reduced_next _ _ _ _ _ c.rounds.invariant.1 c.rounds.invariant.0 c.take_single_items.ensures.reduced

pub returns-in-Same-clause-reduced : goal.returns-in-Same-clause-reduced
returns-in-Same-clause-reduced g c = reduced_next _ _ _ _ _ c.rounds.invariant.1 c.rounds.invariant.0 c.take_single_items.ensures.reduced

pub rounds-preserved : goal.rounds-preserved
rounds-preserved g c =
    let before = c.rounds.invariant.2 in
    let less = c.take_single_items.ensures.runs in (
      reduced_next _ _ _ _ _ c.rounds.invariant.1 c.rounds.invariant.0 c.take_single_items.ensures.reduced,
      c.take_single_items.ensures.same ∙ c.rounds.invariant.1,
      omega arith,
    )

pub returns-in-NoRunsLeft-clause-reduced : goal.returns-in-NoRunsLeft-clause-reduced
returns-in-NoRunsLeft-clause-reduced g c = reduced_next _ _ _ _ _ c.rounds.invariant.1 c.rounds.invariant.0 c.take_single_items.ensures.reduced
