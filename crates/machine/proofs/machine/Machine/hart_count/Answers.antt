use Rattle.std.proofs.Common.{◌∙◌, ap, length}
use Rattle.spec_hardware.specs.Machine.{Machine}
use Rattle.machine.proofs.Looking.{count_seen}
use Rattle.machine.proofs.machine.Machine.hart_count.Goals as goal

pub returns : goal.returns
returns c = λ r stands. c.count_of.ensures ∙ ap (λ (m : Machine). length m.harts) c.self.view_is ∙ count_seen c.args.self.now r stands
