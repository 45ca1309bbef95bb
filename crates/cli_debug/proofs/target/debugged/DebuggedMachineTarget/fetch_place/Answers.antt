use Rattle.std.proofs.Common.{◌∙◌, ap}
use Rattle.std.specs.Prelude.{slice_get}
use Rattle.spec_reference.specs.States.{State}
use Rattle.debug_session.specs.Runs.{fetch_place}
use Rattle.cli_debug.proofs.Standings.{place_by}
use Rattle.cli_debug.proofs.target.debugged.DebuggedMachineTarget.fetch_place.Goals as goal

pub returns : goal.returns
returns g c = λ run at.
    c.fetch_place.ensures at.here.like at.here.here.stands ∙ place_by (slice_get at.here.like.harts c.args.hart)
    ∙ ap (λ (r : State). fetch_place (slice_get r.harts c.args.hart)) at.here.alike.rest
