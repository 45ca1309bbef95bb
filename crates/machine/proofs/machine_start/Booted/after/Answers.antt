use Rattle.hw_devices.specs.Ports.{port_disk}
use Rattle.sv_types.specs.Policies.{rules_of}
use Rattle.machine.proofs.NewFit.{image_fit, read_placed}
use Rattle.machine.proofs.machine_start.Booted.after.Goals as goal

pub boot-requires-clause-placed : goal.boot-requires-clause-placed
boot-requires-clause-placed g c κs within = read_placed c.args.policy.ram_pages c.args.image.now c.requires.read

pub invariant_of-machine : goal.invariant_of-machine
invariant_of-machine g c =
    image_fit c.in_ok-system.field-0.system (rules_of c.args.policy) c.args.policy.ram_pages c.args.image.now (port_disk c.args.port)
    c.requires.read c.in_ok-system.ensures.new c.in_ok-system.ensures.journal

pub returns-clause-booted : goal.returns-clause-booted
returns-clause-booted g c = record {
  new = c.in_ok-system.ensures.new;
  digests = c.in_ok-system.ensures.digests c.requires.read.file c.requires.read.is;
  journal = c.in_ok-system.ensures.journal;
  measured = c.in_ok-system.ensures.measured;
  permitted = c.in_ok-system.ensures.permitted;
}
