use Rattle.machine.proofs.DeviceParts.{port_sound}
use Rattle.machine.proofs.resumed.device_states.port_of.Goals as goal

pub from_state-requires : goal.from_state-requires
from_state-requires c = record { sound = port_sound c.args.port c.args.disk.items c.requires.port c.requires.disk }
