use Rattle.std.proofs.Common.{ℕ, List, IsTrue, subst, sym}
use Rattle.policy_making.specs.WordRanges.{are_module_names}
use Rattle.cli_plans.proofs.WordLemmas.{has_module_names}
use Rattle.cli_plans.proofs.asking.ask_measure.Goals as goal

pub returns-clause-range : goal.returns-clause-range
returns-clause-range c = (
  c.in_ok-terms.ensures.range,
  subst (λ (names : List (List ℕ)). IsTrue (are_module_names names)) (sym c.in_ok-modules.ensures)
      (has_module_names _ _ c.in_ok-names.ensures.finds c.in_ok-terms.ensures.judged.0),
)
