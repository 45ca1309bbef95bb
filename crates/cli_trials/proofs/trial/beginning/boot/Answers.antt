use Rattle.sv_types.specs.Policies.{rules_of}
use Rattle.cli_trials.proofs.Booting.{measured_boot}
use Rattle.cli_trials.proofs.trial.beginning.boot.Goals as goal

pub returns-in-Ok-clause-measured : goal.returns-in-Ok-clause-measured
returns-in-Ok-clause-measured g c =
    measured_boot c.in-Ok.booted.«machine» (rules_of c.args.policy) c.in_ok-image.image c.args.files.now.image.now c.in_ok-disk.disk.items c.in_ok-image.ensures.image
    (c.in-Ok.ensures.booted.new c.args.files.now.image.now c.in_ok-image.ensures.image) c.in-Ok.ensures.booted.measured c.in-Ok.ensures.booted.permitted
