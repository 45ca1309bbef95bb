use Rattle.std.proofs.Common.{List, sym, ◌∙◌, ap}
use Rattle.report.specs.Views.{loads_view}
use Rattle.report.specs.declared.findings.loads.RefusedLoad.{RefusedLoad}
use Rattle.cli_survey.specs.Looking.{listed}
use Rattle.cli_survey.specs.Refusals.{with_loads}
use Rattle.cli_survey.proofs.LookLemmas.{on_ok, running_refuses}
use Rattle.cli_survey.proofs.looking.look.Goals as goal

pub returns-in-Some : goal.returns-in-Some
returns-in-Some c =
    on_ok c.add_load.result c.add_load.ensures (λ kept r stands running.
    kept ∙ ap (λ (xs : List RefusedLoad). with_loads (loads_view c.args.loads.now) xs)
    (ap listed (sym c.in-Some.is) ∙ c.refusal_in.ensures r stands ∙ sym (running_refuses r c.args.event running)))

pub returns-in-None : goal.returns-in-None
returns-in-None c = λ r stands running.
    ap (λ (xs : List RefusedLoad). with_loads (loads_view c.args.loads.now) xs)
    (ap listed (sym c.in-None.is) ∙ c.refusal_in.ensures r stands ∙ sym (running_refuses r c.args.event running))
