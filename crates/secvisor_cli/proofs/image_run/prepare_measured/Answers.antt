use Rattle.std.proofs.Common.{ℕ, List, subst, sym, Err}
use Rattle.sv_types.specs.Policies.{rules_of}
use Rattle.cli_plans.specs.declared.file_fault.Part.{Part}
use Rattle.cli_plans.specs.Plans.{max_image_bytes, policy_part, kernel_part, boot_plan, image_plan, run_plan}
use Rattle.cli_plans.specs.Reading.{MayFollow}
use Rattle.secvisor_cli.specs.Ready.{Prepares, run_of, run_ready}
use Rattle.cli_plans.specs.Words.{run_value}
use Rattle.secvisor_cli.proofs.ReadyLemmas.{err_by, stopped_ready, read_ready}
use Rattle.secvisor_cli.proofs.StageLemmas.{pass_ready, read_may}
use Rattle.secvisor_cli.proofs.image_run.prepare_measured.Goals as goal

pub read_policy-requires-clause-permitted : goal.read_policy-requires-clause-permitted
unfolding run_plan
read_policy-requires-clause-permitted g c = record { next = image_plan (run_value c.args.asked.now); may = c.requires.permitted }

pub returns-in_err-policy-clause-prepares : goal.returns-in_err-policy-clause-prepares
unfolding run_plan
returns-in_err-policy-clause-prepares g c =
    err_by _ c.in_err-policy.field-0.0 (λ r. Prepares (run_plan (run_value c.args.asked.now)) (g.F.Files.state c.args.files.now) (g.F.Files.state c.read_policy.new.files) (run_ready (run_of r)))
    c.from_residual.ensures.1 (c.in_err-policy.ensures.stage (image_plan (run_value c.args.asked.now)))

pub read_part-requires-clause-permitted : goal.read_part-requires-clause-permitted
unfolding run_plan image_plan
read_part-requires-clause-permitted g c = (c.in_ok-policy.ensures.stage.may (image_plan (run_value c.args.asked.now)) c.requires.permitted).0

pub returns-in_err-file-clause-prepares : goal.returns-in_err-file-clause-prepares
unfolding run_plan image_plan
returns-in_err-file-clause-prepares g c =
    err_by _ c.in_err-file.field-0.0 (λ r. Prepares (run_plan (run_value c.args.asked.now)) (g.F.Files.state c.args.files.now) (g.F.Files.state c.read_part.new.files) (run_ready (run_of r)))
    c.from_residual-in_err-file.ensures.1
    (pass_ready (policy_part c.args.asked.now.policy.now) (rules_of c.in_ok-policy.policy) (image_plan (run_value c.args.asked.now)) _ _ _ (Err c.in_err-file.field-0.0) c.in_ok-policy.ensures.stage
    (stopped_ready Part.Image c.args.asked.now.image.now max_image_bytes _ _ _ c.in_err-file.field-0.0 c.in_err-file.ensures))

pub boot_file-requires-clause-permitted : goal.boot_file-requires-clause-permitted
unfolding run_plan image_plan
boot_file-requires-clause-permitted g c κs within =
    subst
    (λ (b : List ℕ). MayFollow (kernel_part (rules_of c.in_ok-policy.policy) b (boot_plan (run_value c.args.asked.now) (rules_of c.in_ok-policy.policy) b)) (g.F.Files.state c.read_part.new.files))
    (sym c.deref.ensures.value)
    (read_may Part.Image c.args.asked.now.image.now max_image_bytes
    (λ (b : List ℕ). kernel_part (rules_of c.in_ok-policy.policy) b (boot_plan (run_value c.args.asked.now) (rules_of c.in_ok-policy.policy) b))
    (g.F.Files.state c.read_policy.new.files) (g.F.Files.state c.read_part.new.files) c.in_ok-file.file.items c.in_ok-file.ensures
    (c.in_ok-policy.ensures.stage.may (image_plan (run_value c.args.asked.now)) c.requires.permitted))

pub returns-clause-prepares : goal.returns-clause-prepares
unfolding run_plan image_plan
returns-clause-prepares g c =
    pass_ready (policy_part c.args.asked.now.policy.now) (rules_of c.in_ok-policy.policy) (image_plan (run_value c.args.asked.now)) _ _ _ (run_ready (run_of c.boot_file.result))
    c.in_ok-policy.ensures.stage
    (read_ready Part.Image c.args.asked.now.image.now max_image_bytes
    (λ (b : List ℕ). kernel_part (rules_of c.in_ok-policy.policy) b (boot_plan (run_value c.args.asked.now) (rules_of c.in_ok-policy.policy) b)) _ _ _ c.in_ok-file.file.items
    (run_ready (run_of c.boot_file.result)) c.in_ok-file.ensures
    (subst
    (λ (b : List ℕ). Prepares (kernel_part (rules_of c.in_ok-policy.policy) b (boot_plan (run_value c.args.asked.now) (rules_of c.in_ok-policy.policy) b))
    (g.F.Files.state c.read_part.new.files) (g.F.Files.state c.boot_file.new.files) (run_ready (run_of c.boot_file.result)))
    c.deref.ensures.value c.boot_file.ensures.prepares))
