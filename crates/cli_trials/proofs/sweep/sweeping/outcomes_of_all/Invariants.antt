use Rattle.std.proofs.Common.{take, ◌*◌}
use Rattle.cli_trials.specs.Sweeps.{AreOutcomes}
use Rattle.cli_trials.proofs.sweep.sweeping.outcomes_of_all.Given as goal

-- those of the chunks so far
abbrev pub invariant-chunks : goal.invariant-chunks
invariant-chunks g l = AreOutcomes l.sweep (take (l.chunk-index * l.size) l.numbers) l.outcomes.items
