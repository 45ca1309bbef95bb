use Rattle.std.proofs.Common.{rules, ◌≡◌, length, arith}
use Rattle.sv_types.specs.ApprovedPages.{numbers_from}
use Rattle.cli_trials.specs.Sweeps.{AreOutcomes}
use Rattle.cli_trials.proofs.Chunks.{as_many}
use Rattle.cli_trials.proofs.sweep.sweeping.sweep_numbers.Goals as goal

pub tally_runs-requires : goal.tally_runs-requires
tally_runs-requires g c =
    let are : AreOutcomes c.args.sweep.now (numbers_from c.args.first c.args.count) c.in_ok-outcomes.outcomes.items = search rules in
    let all : length c.deref-2.result.now ≡ length c.in_ok-outcomes.outcomes.items = search rules in
    omega (arith, all, as_many c.args.sweep.now c.args.first c.args.count c.in_ok-outcomes.outcomes.items are, c.requires.numbers)
