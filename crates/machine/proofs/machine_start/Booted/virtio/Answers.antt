use Rattle.std.proofs.Common.{subst, sym}
use Rattle.std.specs.Prelude.{IfOk}
use Rattle.sv_types.specs.Policies.{rules_of}
use Rattle.spec_reference.specs.Soundness.{IsSoundDisk}
use Rattle.spec_reference.specs.Start.{image_start, virtio_start}
use Rattle.spec_reference.specs.States.{Disk}
use Rattle.laws_simulation.proofs.StartsSound.{virtio_quiet}
use Rattle.machine.specs.Boot.{IsBootOf}
use Rattle.machine.proofs.machine_start.Booted.virtio.Goals as goal

pub after-requires-clause-quiet : goal.after-requires-clause-quiet
after-requires-clause-quiet g c κs within = subst IsSoundDisk (sym c.virtio.ensures) (virtio_quiet c.args.disk.items)

pub returns-clause-booted : goal.returns-clause-booted
unfolding virtio_start
returns-clause-booted g c =
    subst (λ (disk : Disk). IfOk c.after.result (IsBootOf (λ file. image_start (rules_of c.args.policy) file disk) (rules_of c.args.policy) c.args.image.now)) c.virtio.ensures
    c.after.ensures.booted
