use Rattle.std.proofs.Common.{◌∙◌, ap}
use Rattle.spec_hardware.specs.Machine.{Machine}
use Rattle.machine.proofs.machine.Machine.policy.Goals as goal

pub returns : goal.returns
returns c = c.policy_of.ensures ∙ ap (λ (m : Machine). m.rules) c.self.view_is
