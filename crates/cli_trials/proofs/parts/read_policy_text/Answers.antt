use Rattle.std.proofs.Common.{List, ℕ, Ok, Err, subst}
use Rattle.sv_types.specs.Policies.{rules_of}
use Rattle.policy.specs.Text.{rules_of_text}
use Rattle.cli_plans.specs.Plans.{policy_part}
use Rattle.secvisor_cli.specs.Ready.{Staged, IsPolicy}
use Rattle.secvisor_cli.proofs.ReadyLemmas.{err_by}
use Rattle.secvisor_cli.proofs.StageLemmas.{policy_unread, policy_staged}
use Rattle.cli_trials.specs.declared.parts.PolicyText.{PolicyText}
use Rattle.cli_trials.proofs.parts.read_policy_text.Goals as goal

pub read_part-requires-clause-permitted : goal.read_part-requires-clause-permitted
unfolding policy_part
read_part-requires-clause-permitted g c = c.requires.permitted.may.0

pub returns-in_err-text-clause-stage : goal.returns-in_err-text-clause-stage
returns-in_err-text-clause-stage g c =
    err_by _ c.in_err-text.field-0.0 (λ r. Staged {T = PolicyText} (policy_part c.args.name.now) (λ p. rules_of p.policy) (g.F.Files.state c.args.files.now) (g.F.Files.state c.read_part.new.files) r)
    c.from_residual.ensures.1 (policy_unread _ _ _ c.in_err-text.field-0.0 c.in_err-text.ensures)

pub returns-in_err-policy-clause-stage : goal.returns-in_err-policy-clause-stage
returns-in_err-policy-clause-stage g c =
    err_by _ c.in_err-policy.field-0.0 (λ r. Staged {T = PolicyText} (policy_part c.args.name.now) (λ p. rules_of p.policy) (g.F.Files.state c.args.files.now)
    (g.F.Files.state c.read_part.new.files) r)
    c.from_residual-in_err-policy.ensures.1
    (policy_staged c.args.name.now c.in_ok-text.text.items _ _ (Err c.in_err-policy.field-0.0) c.in_ok-text.ensures
    (subst (λ (b : List ℕ). IsPolicy (rules_of_text b) (Err c.in_err-policy.field-0.0)) c.deref.ensures.value c.in_err-policy.ensures.policy))

pub returns-clause-stage : goal.returns-clause-stage
returns-clause-stage g c =
    policy_staged c.args.name.now c.in_ok-text.text.items _ _ (Ok c.in_ok-policy.policy) c.in_ok-text.ensures
    (subst (λ (b : List ℕ). IsPolicy (rules_of_text b) (Ok c.in_ok-policy.policy)) c.deref.ensures.value c.in_ok-policy.ensures.policy)
