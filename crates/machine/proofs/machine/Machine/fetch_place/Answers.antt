use Rattle.std.proofs.Common.{◌∙◌, ap}
use Rattle.std.specs.Prelude.{option_and_then, slice_get}
use Rattle.spec_hardware.specs.Machine.{Machine}
use Rattle.machine.specs.Fetching.{hw_fetch_place}
use Rattle.machine.proofs.Looking.{place_seen}
use Rattle.machine.proofs.machine.Machine.fetch_place.Goals as goal

pub returns : goal.returns
returns c = λ r stands.
    c.fetch_place_of.ensures
    ∙ ap (λ (m : Machine). option_and_then hw_fetch_place (slice_get m.harts c.args.hart)) c.self.view_is
    ∙ place_seen c.args.self.now r c.args.hart stands
