use Rattle.std.proofs.Common.{◌∙◌, ap}
use Rattle.spec_hardware.specs.Machine.{Machine}
use Rattle.machine.proofs.Looking.{ram_seen}
use Rattle.machine.proofs.machine.Machine.ram.Goals as goal

pub returns : goal.returns
returns c = λ r stands. c.ram_of.ensures ∙ ap (λ (m : Machine). m.region.ram) c.self.view_is ∙ ram_seen c.args.self.now r stands
