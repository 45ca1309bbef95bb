use Rattle.cli_plans.specs.Words.{terms_value}
use Rattle.cli_plans.proofs.WordLemmas.{terms_in_range}
use Rattle.cli_plans.proofs.judgement.judge_measure.Goals as goal

pub returns-then-are_module_names-clause-range : goal.returns-then-are_module_names-clause-range
returns-then-are_module_names-clause-range c =
    terms_in_range c.as_str.result.now c.as_str-2.result.now c.as_str-3.result.now c.as_str-4.result.now (terms_value c.in_ok-terms.terms) c.in_ok-terms.ensures
