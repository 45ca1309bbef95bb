use Rattle.std.proofs.Common.{subst, sym}
use Rattle.sv_types.specs.Schedule.{Schedule}
use Rattle.cli_plans.specs.declared.words.Source.{Source as Named}
use Rattle.cli_plans.specs.Plans.{script_part}
use Rattle.secvisor_cli.specs.Ready.{Passes, Staged, MayStage}
use Rattle.cli_plans.specs.Words.{source_value}
use Rattle.secvisor_cli.proofs.StageLemmas.{rounds_pass, auto_pass, bursts_pass, text_may, text_source}
use Rattle.secvisor_cli.proofs.image_run.read_script.Goals as goal

pub returns-in-Rounds-clause-stage : goal.returns-in-Rounds-clause-stage
returns-in-Rounds-clause-stage g c =
    subst (λ (s : Named). Passes (script_part c.args.harts (source_value s)) c.rounds.result (g.F.Files.state c.args.files.now) (g.F.Files.state c.args.files.now)) (sym c.in-Rounds.is)
    (rounds_pass c.args.harts c.rounds.result _ c.rounds.ensures)

pub returns-in-Auto-clause-stage : goal.returns-in-Auto-clause-stage
returns-in-Auto-clause-stage g c =
    subst (λ (s : Named). Passes (script_part c.args.harts (source_value s)) c.auto.result (g.F.Files.state c.args.files.now) (g.F.Files.state c.args.files.now)) (sym c.in-Auto.is)
    (auto_pass c.args.harts _ c.auto.result _ c.auto.ensures)

pub returns-in-Bursts-clause-stage : goal.returns-in-Bursts-clause-stage
returns-in-Bursts-clause-stage g c =
    subst (λ (s : Named). Passes (script_part c.args.harts (source_value s)) c.bursts.result (g.F.Files.state c.args.files.now) (g.F.Files.state c.args.files.now)) (sym c.in-Bursts.is)
    (bursts_pass c.args.harts _ c.bursts.result _ c.bursts.ensures)

pub read_text-requires-clause-permitted : goal.read_text-requires-clause-permitted
read_text-requires-clause-permitted g c =
    text_may c.args.harts c.in-Text.name.now _
    (subst (λ (s : Named). MayStage (script_part c.args.harts (source_value s)) (g.F.Files.state c.args.files.now)) c.in-Text.is c.requires.permitted)

pub returns-in-Text-clause-stage : goal.returns-in-Text-clause-stage
returns-in-Text-clause-stage g c =
    subst
    (λ (s : Named). Staged {T = Schedule} (script_part c.args.harts (source_value s)) (λ (t : Schedule). t) (g.F.Files.state c.args.files.now)
    (g.F.Files.state c.read_text.new.files) c.read_text.result)
    (sym c.in-Text.is) (text_source c.args.harts c.in-Text.name.now _ _ c.read_text.result c.read_text.ensures)
