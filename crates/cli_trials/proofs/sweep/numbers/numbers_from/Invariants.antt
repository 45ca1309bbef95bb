use Rattle.std.proofs.Common.{◌≡◌}
use Rattle.sv_types.specs.ApprovedPages.{numbers_from}
use Rattle.cli_trials.proofs.sweep.numbers.numbers_from.Given as goal

-- those so far
abbrev pub invariant-numbers : goal.invariant-numbers
invariant-numbers l = l.numbers.items ≡ numbers_from l.first l.i
