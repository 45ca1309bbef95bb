use Rattle.std.proofs.Common.{rules, refl, ◌∙◌, ◌≤◌, ◌<◌, arith}
use Rattle.script_lines.proofs.Subsequences.{reduced_none, reduced_next, still_stops}
use Rattle.script_lines.proofs.delta_debugging.shrinking.take_single_items.Goals as goal

pub items-init : goal.items-init
items-init g c = (reduced_none _ _ c.requires.stops, refl, omega arith, (λ same i below. absurd (omega (arith, below))), (λ is. absurd (cc)), (λ is. cc is))

pub try_without-requires-clause-stops : goal.try_without-requires-clause-stops
try_without-requires-clause-stops g c = λ κs lives. still_stops _ _ _ _ c.items.invariant.1 c.items.invariant.0

pub returns-in_err-try_without-clause-reduced : goal.returns-in_err-try_without-clause-reduced
returns-in_err-try_without-clause-reduced g c = reduced_next _ _ _ _ _ c.items.invariant.1 c.items.invariant.0 c.try_without.ensures.reduced

pub items-preserved-then-branch : goal.items-preserved-then-branch
items-preserved-then-branch g c =
    let before = c.items.invariant.2 in
    let one = c.in_ok-try_without.ensures.run in (
      reduced_next _ _ _ _ _ c.items.invariant.1 c.items.invariant.0 c.try_without.ensures.reduced,
      c.try_without.ensures.same ∙ c.items.invariant.1,
      omega arith,
      (λ is. absurd (cc)),
      (λ is. omega arith),
      (λ is. cc is),
    )
