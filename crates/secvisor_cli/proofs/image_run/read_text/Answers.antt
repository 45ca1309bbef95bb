use Rattle.std.proofs.Common.{List, ℕ, subst}
use Rattle.sv_types.specs.Schedule.{Schedule}
use Rattle.cli_plans.specs.Plans.{text_part}
use Rattle.secvisor_cli.specs.Ready.{Staged, IsScript}
use Rattle.secvisor_cli.proofs.ReadyLemmas.{err_by}
use Rattle.secvisor_cli.proofs.StageLemmas.{text_unread, text_staged}
use Rattle.secvisor_cli.proofs.image_run.read_text.Goals as goal

pub read_part-requires-clause-permitted : goal.read_part-requires-clause-permitted
unfolding text_part
read_part-requires-clause-permitted g c = c.requires.permitted.may.0

pub returns-in_err-text : goal.returns-in_err-text
returns-in_err-text g c =
    err_by _ c.in_err-text.field-0.0 (λ r. Staged {T = Schedule} (text_part c.args.harts c.args.name.now) (λ (s : Schedule). s) (g.F.Files.state c.args.files.now)
    (g.F.Files.state c.read_part.new.files) r)
    c.from_residual.ensures.1 (text_unread _ _ _ _ c.in_err-text.field-0.0 c.in_err-text.ensures)

pub returns : goal.returns
returns g c =
    text_staged c.args.harts c.args.name.now c.in_ok-text.text.items _ _ c.judge_script.result c.in_ok-text.ensures
    (subst (λ (b : List ℕ). IsScript c.args.harts b c.judge_script.result) c.deref.ensures.value c.judge_script.ensures)
