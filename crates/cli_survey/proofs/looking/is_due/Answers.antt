use Rattle.std.proofs.Common.{◌∙◌, sym}
use Rattle.std.specs.Prelude.{slice_get}
use Rattle.cli_survey.proofs.LookLemmas.{due_none, due_some}
use Rattle.cli_survey.proofs.looking.is_due.Goals as goal

pub returns-in-Some : goal.returns-in-Some
returns-in-Some c = λ r stands.
    c.is_its.ensures
    ∙ due_some r.devices.clock c.args.hart (slice_get r.harts c.args.hart) c.in-Some.saved c.args.load.now (sym c.in-Some.is ∙ c.hart.ensures r stands)

pub returns-in-None : goal.returns-in-None
returns-in-None c = λ r stands.
    due_none r.devices.clock c.args.hart (slice_get r.harts c.args.hart) c.args.load.now (sym c.in-None.is ∙ c.hart.ensures r stands)
