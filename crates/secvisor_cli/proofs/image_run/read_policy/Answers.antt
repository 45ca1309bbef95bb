use Rattle.std.proofs.Common.{List, ℕ, subst}
use Rattle.sv_types.specs.declared.policy.Policy.{Policy}
use Rattle.sv_types.specs.Policies.{rules_of}
use Rattle.policy.specs.Text.{rules_of_text}
use Rattle.cli_plans.specs.Plans.{policy_part}
use Rattle.secvisor_cli.specs.Ready.{Staged, IsPolicy}
use Rattle.secvisor_cli.proofs.ReadyLemmas.{err_by}
use Rattle.secvisor_cli.proofs.StageLemmas.{policy_unread, policy_staged}
use Rattle.secvisor_cli.proofs.image_run.read_policy.Goals as goal

pub read_part-requires-clause-permitted : goal.read_part-requires-clause-permitted
unfolding policy_part
read_part-requires-clause-permitted g c = c.requires.permitted.may.0

pub returns-in_err-text-clause-stage : goal.returns-in_err-text-clause-stage
returns-in_err-text-clause-stage g c =
    err_by _ c.in_err-text.field-0.0 (λ r. Staged {T = Policy} (policy_part c.args.name.now) rules_of (g.F.Files.state c.args.files.now) (g.F.Files.state c.read_part.new.files) r)
    c.from_residual.ensures.1 (policy_unread _ _ _ c.in_err-text.field-0.0 c.in_err-text.ensures)

pub returns-clause-stage : goal.returns-clause-stage
returns-clause-stage g c =
    policy_staged c.args.name.now c.in_ok-text.text.items _ _ c.judge_policy.result c.in_ok-text.ensures
    (subst (λ (b : List ℕ). IsPolicy (rules_of_text b) c.judge_policy.result) c.deref.ensures.value c.judge_policy.ensures.policy)
