use Rattle.std.proofs.Common.{subst}
use Rattle.std.specs.Prelude.{IfOk}
use Rattle.sv_types.specs.Policies.{rules_of}
use Rattle.spec_reference.specs.Start.{image_start, boot_start}
use Rattle.spec_reference.specs.States.{Disk}
use Rattle.machine.specs.Boot.{IsBootOf}
use Rattle.machine.proofs.machine_start.Booted.block.Goals as goal

pub returns-clause-booted : goal.returns-clause-booted
unfolding boot_start
returns-clause-booted g c =
    subst (λ (disk : Disk). IfOk c.after.result (IsBootOf (λ file. image_start (rules_of c.args.policy) file disk) (rules_of c.args.policy) c.args.image.now)) c.block.ensures
    c.after.ensures.booted
