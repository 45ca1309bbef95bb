use Rattle.std.proofs.Common.{ap, arith, length}
use Rattle.spec_reference.specs.States.{Devices}
use Rattle.machine.proofs.DeviceParts.{have_forms}
use Rattle.machine.proofs.resumed.device_states.devices_of.Goals as goal

pub port_of-requires-clause-port : goal.port_of-requires-clause-port
port_of-requires-clause-port c = (have_forms c.args.input.now c.args.port c.args.disk.items c.requires.form).of_port

pub port_of-requires-clause-disk : goal.port_of-requires-clause-disk
port_of-requires-clause-disk c = (have_forms c.args.input.now c.args.port c.args.disk.items c.requires.form).of_disk

pub put_input-requires : goal.put_input-requires
put_input-requires c =
    let few = (have_forms c.args.input.now c.args.port c.args.disk.items c.requires.form).few in
    let none = ap (λ (d : Devices). length d.console) c.from_values-devices.ensures in
    record { room = omega (arith, few, none) }
