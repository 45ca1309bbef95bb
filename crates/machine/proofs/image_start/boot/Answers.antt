use Rattle.hw_devices.specs.Ports.{port_disk}
use Rattle.sv_types.specs.Policies.{rules_of}
use Rattle.machine.proofs.ImageStarting.{image_new}
use Rattle.machine.proofs.Texts.{boot_digests}
use Rattle.machine.proofs.image_start.boot.Goals as goal

pub returns-clause-new : goal.returns-clause-new
returns-clause-new g c = λ file is.
    image_new c.in_ok-system.system (rules_of c.args.policy) c.args.image.now file (port_disk c.args.port) c.requires.within
    c.in_ok-digests.ensures.words c.in_ok-digests.ensures.permitted c.in_ok-system.ensures.guarded c.requires.quiet c.in_ok-system.ensures.made is

pub returns-clause-digests : goal.returns-clause-digests
returns-clause-digests g c = λ file is.
    boot_digests c.in_ok-system.system (rules_of c.args.policy) c.args.image.now file (port_disk c.args.port) c.in_ok-digests.digests.items
    c.in_ok-digests.ensures.digests is
    (image_new c.in_ok-system.system (rules_of c.args.policy) c.args.image.now file (port_disk c.args.port) c.requires.within
    c.in_ok-digests.ensures.words c.in_ok-digests.ensures.permitted c.in_ok-system.ensures.guarded c.requires.quiet c.in_ok-system.ensures.made is)
