use Rattle.std.proofs.Common.{refl, subst, sym}
use Rattle.cli_plans.specs.declared.words.Source.{Source as Named}
use Rattle.cli_plans.specs.Plans.{script_part}
use Rattle.cli_plans.specs.Words.{source_value}
use Rattle.secvisor_cli.specs.Ready.{Passes, Staged, MayStage}
use Rattle.secvisor_cli.proofs.StageLemmas.{rounds_pass, auto_pass, bursts_pass, text_may}
use Rattle.cli_trials.specs.declared.order.OwnOrder.{OwnOrder}
use Rattle.cli_trials.specs.declared.order.OwnOrder.TheVariants as own
use Rattle.cli_trials.specs.Orders.{order_schedule}
use Rattle.cli_trials.proofs.PartLemmas.{text_source}
use Rattle.cli_trials.proofs.order.read_order.Goals as goal

pub returns-in-Rounds-clause-stage : goal.returns-in-Rounds-clause-stage
returns-in-Rounds-clause-stage g c =
    subst (λ (s : Named). Passes (script_part c.args.harts (source_value s)) (order_schedule c.args.harts own.Rounds) (g.F.Files.state c.args.files.now)
    (g.F.Files.state c.args.files.now)) (sym c.in-Rounds.is)
    (rounds_pass c.args.harts _ _ refl)

pub returns-in-Auto-clause-stage : goal.returns-in-Auto-clause-stage
returns-in-Auto-clause-stage g c =
    subst (λ (s : Named). Passes (script_part c.args.harts (source_value s)) (order_schedule c.args.harts (own.Auto c.in-Auto.number)) (g.F.Files.state c.args.files.now)
    (g.F.Files.state c.args.files.now)) (sym c.in-Auto.is)
    (auto_pass c.args.harts _ _ _ refl)

pub returns-in-Bursts-clause-stage : goal.returns-in-Bursts-clause-stage
returns-in-Bursts-clause-stage g c =
    subst (λ (s : Named). Passes (script_part c.args.harts (source_value s)) (order_schedule c.args.harts (own.Bursts c.in-Bursts.number)) (g.F.Files.state c.args.files.now)
    (g.F.Files.state c.args.files.now)) (sym c.in-Bursts.is)
    (bursts_pass c.args.harts _ _ _ refl)

pub read_text_order-requires-clause-permitted : goal.read_text_order-requires-clause-permitted
read_text_order-requires-clause-permitted g c =
    text_may c.args.harts c.in-Text.name.now _
    (subst (λ (s : Named). MayStage (script_part c.args.harts (source_value s)) (g.F.Files.state c.args.files.now)) c.in-Text.is c.requires.permitted)

pub returns-in-Text-clause-stage : goal.returns-in-Text-clause-stage
returns-in-Text-clause-stage g c =
    subst
    (λ (s : Named). Staged {T = OwnOrder} (script_part c.args.harts (source_value s)) (order_schedule c.args.harts) (g.F.Files.state c.args.files.now)
    (g.F.Files.state c.read_text_order.new.files) c.read_text_order.result)
    (sym c.in-Text.is) (text_source c.args.harts c.in-Text.name.now _ _ c.read_text_order.result c.read_text_order.ensures.stage)
