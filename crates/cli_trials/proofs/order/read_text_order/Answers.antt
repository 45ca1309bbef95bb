use Rattle.std.proofs.Common.{List, ℕ, subst, Err, Ok}
use Rattle.cli_plans.specs.Plans.{text_part}
use Rattle.secvisor_cli.specs.Ready.{Staged, IsScript}
use Rattle.secvisor_cli.proofs.ReadyLemmas.{err_by}
use Rattle.secvisor_cli.proofs.StageLemmas.{text_unread, text_staged}
use Rattle.cli_trials.specs.declared.order.OwnOrder.{OwnOrder}
use Rattle.cli_trials.specs.Orders.{order_schedule}
use Rattle.cli_trials.proofs.PartLemmas.{text_passed}
use Rattle.cli_trials.proofs.order.read_text_order.Goals as goal

pub read_part-requires-clause-permitted : goal.read_part-requires-clause-permitted
unfolding text_part
read_part-requires-clause-permitted g c = c.requires.permitted.may.0

pub returns-in_err-text-clause-stage : goal.returns-in_err-text-clause-stage
returns-in_err-text-clause-stage g c =
    err_by _ c.in_err-text.field-0.0
    (λ r. Staged {T = OwnOrder} (text_part c.args.harts c.args.name.now) (order_schedule c.args.harts) (g.F.Files.state c.args.files.now) (g.F.Files.state c.read_part.new.files) r)
    c.from_residual.ensures.1 (text_unread _ _ _ _ c.in_err-text.field-0.0 c.in_err-text.ensures)

pub returns-in_err-judge_script-clause-stage : goal.returns-in_err-judge_script-clause-stage
returns-in_err-judge_script-clause-stage g c =
    err_by _ c.in_err-judge_script.field-0.0
    (λ r. Staged {T = OwnOrder} (text_part c.args.harts c.args.name.now) (order_schedule c.args.harts) (g.F.Files.state c.args.files.now) (g.F.Files.state c.read_part.new.files) r)
    c.from_residual-in_err-judge_script.ensures.1
    (text_staged c.args.harts c.args.name.now c.in_ok-text.text.items _ _ (Err c.in_err-judge_script.field-0.0) c.in_ok-text.ensures
    (subst (λ (b : List ℕ). IsScript c.args.harts b (Err c.in_err-judge_script.field-0.0)) c.deref.ensures.value c.in_err-judge_script.ensures))

pub returns-clause-stage : goal.returns-clause-stage
returns-clause-stage g c =
    text_passed c.args.harts c.args.name.now c.in_ok-text.text _ _ _ c.in_ok-text.ensures
    (subst (λ (b : List ℕ). IsScript c.args.harts b (Ok c.in_ok-judge_script.field-0)) c.deref.ensures.value c.in_ok-judge_script.ensures)

pub returns-clause-accepted : goal.returns-clause-accepted
returns-clause-accepted g c =
    (subst (λ (b : List ℕ). IsScript c.args.harts b (Ok c.in_ok-judge_script.field-0)) c.deref.ensures.value c.in_ok-judge_script.ensures).1
