use Rattle.std.proofs.Common.{◌∙◌, ap}
use Rattle.std.specs.Prelude.{option_map}
use Rattle.spec_hardware.specs.Machine.{Machine}
use Rattle.machine.specs.Keeping.{kept_load}
use Rattle.machine.proofs.Loadings.{load_seen}
use Rattle.machine.proofs.machine.Machine.load_under_way.Goals as goal

pub returns : goal.returns
returns c = λ r stands. c.load_of.ensures ∙ ap (λ (m : Machine). option_map kept_load m.loading) c.self.view_is ∙ load_seen c.args.self.now r stands
