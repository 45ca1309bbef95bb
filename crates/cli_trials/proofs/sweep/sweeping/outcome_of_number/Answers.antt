use Rattle.cli_trials.proofs.Outcomes.{number_ends}
use Rattle.cli_trials.proofs.sweep.sweeping.outcome_of_number.Goals as goal

pub returns-clause-outcome : goal.returns-clause-outcome
returns-clause-outcome g c = number_ends c.args.sweep.now c.args.number _ _ c.order_of-order.ensures c.in_ok-ending.ensures.outcome
