use Rattle.std.proofs.Common.{◌∙◌, ap}
use Rattle.spec_hardware.specs.Machine.{Machine}
use Rattle.machine.specs.Measured.{hw_is_measured}
use Rattle.machine.proofs.Loadings.{measured_seen}
use Rattle.machine.proofs.machine.Machine.is_measured.Goals as goal

pub returns : goal.returns
returns c = λ r load rule stands under none known.
    c.is_measured_in.ensures ∙ ap (λ (m : Machine). hw_is_measured m.rules m.loading) c.self.view_is ∙ measured_seen c.args.self.now r load rule stands under none known
