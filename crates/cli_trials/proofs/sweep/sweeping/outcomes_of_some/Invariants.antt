use Rattle.std.proofs.Common.{take}
use Rattle.cli_trials.specs.Sweeps.{AreOutcomes}
use Rattle.cli_trials.proofs.sweep.sweeping.outcomes_of_some.Given as goal

-- those of the numbers so far
abbrev pub invariant-numbers : goal.invariant-numbers
invariant-numbers g l = AreOutcomes l.sweep (take l.number-index l.numbers) l.outcomes.items
