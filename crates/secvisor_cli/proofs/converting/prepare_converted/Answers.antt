use Rattle.std.proofs.Common.{ℕ, List, subst, Err}
use Rattle.sv_types.specs.Policies.{rules_of}
use Rattle.cli_plans.specs.declared.file_fault.Part.{Part}
use Rattle.cli_plans.specs.Plans.{max_image_bytes, policy_part, kernel_part, bound_plan, binding_plan, convert_plan}
use Rattle.secvisor_cli.specs.Ready.{Prepares}
use Rattle.cli_plans.specs.Values.{convert_split_of}
use Rattle.secvisor_cli.proofs.ReadyLemmas.{err_by, stopped_ready, read_ready}
use Rattle.secvisor_cli.proofs.StageLemmas.{pass_ready}
use Rattle.secvisor_cli.proofs.converting.prepare_converted.Goals as goal

pub read_policy-requires-clause-permitted : goal.read_policy-requires-clause-permitted
unfolding convert_plan
read_policy-requires-clause-permitted g c = record { next = binding_plan (convert_split_of c.args.asked.now); may = c.requires.permitted }

pub returns-in_err-policy : goal.returns-in_err-policy
unfolding convert_plan
returns-in_err-policy g c =
    err_by _ c.in_err-policy.field-0.0 (λ r. Prepares (convert_plan (convert_split_of c.args.asked.now)) (g.F.Files.state c.args.files.now) (g.F.Files.state c.read_policy.new.files) r)
    c.from_residual.ensures.1 (c.in_err-policy.ensures.stage (binding_plan (convert_split_of c.args.asked.now)))

pub read_part-requires-clause-permitted : goal.read_part-requires-clause-permitted
unfolding convert_plan binding_plan
read_part-requires-clause-permitted g c = (c.in_ok-policy.ensures.stage.may (binding_plan (convert_split_of c.args.asked.now)) c.requires.permitted).0

pub returns-in_err-file : goal.returns-in_err-file
unfolding convert_plan binding_plan
returns-in_err-file g c =
    err_by _ c.in_err-file.field-0.0 (λ r. Prepares (convert_plan (convert_split_of c.args.asked.now)) (g.F.Files.state c.args.files.now) (g.F.Files.state c.read_part.new.files) r)
    c.from_residual-in_err-file.ensures.1
    (pass_ready (policy_part c.args.asked.now.given.now) (rules_of c.in_ok-policy.policy) (binding_plan (convert_split_of c.args.asked.now)) _ _ _ (Err c.in_err-file.field-0.0)
    c.in_ok-policy.ensures.stage
    (stopped_ready Part.Image c.args.asked.now.kernel.now max_image_bytes _ _ _ c.in_err-file.field-0.0 c.in_err-file.ensures))

pub returns : goal.returns
unfolding convert_plan binding_plan
returns g c =
    pass_ready (policy_part c.args.asked.now.given.now) (rules_of c.in_ok-policy.policy) (binding_plan (convert_split_of c.args.asked.now)) _ _ _ c.bind_file.result c.in_ok-policy.ensures.stage
    (read_ready Part.Image c.args.asked.now.kernel.now max_image_bytes
    (λ (b : List ℕ). kernel_part (rules_of c.in_ok-policy.policy) b (bound_plan (convert_split_of c.args.asked.now) (rules_of c.in_ok-policy.policy) b)) _ _ _
    c.in_ok-file.file.items c.bind_file.result c.in_ok-file.ensures
    (subst
    (λ (b : List ℕ). Prepares (kernel_part (rules_of c.in_ok-policy.policy) b (bound_plan (convert_split_of c.args.asked.now) (rules_of c.in_ok-policy.policy) b))
    (g.F.Files.state c.read_part.new.files) (g.F.Files.state c.read_part.new.files) c.bind_file.result)
    c.deref.ensures.value (c.bind_file.ensures (g.F.Files.state c.read_part.new.files))))
