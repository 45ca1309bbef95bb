use Rattle.std.proofs.Common.{ℕ, List, subst, sym, Some, Ok, Err}
use Rattle.sv_types.specs.Policies.{rules_of}
use Rattle.cli_plans.specs.declared.file_fault.Part.{Part}
use Rattle.cli_plans.specs.Plans.{max_image_bytes, policy_part, kernel_part, boot_plan, image_plan, run_plan}
use Rattle.cli_plans.specs.Reading.{MayFollow}
use Rattle.cli_plans.specs.Words.{run_value}
use Rattle.secvisor_cli.specs.Ready.{Prepares}
use Rattle.secvisor_cli.proofs.ReadyLemmas.{err_by, stopped_ready, read_ready}
use Rattle.secvisor_cli.proofs.StageLemmas.{pass_ready, read_may, read_follows}
use Rattle.cli_trials.specs.Orders.{order_schedule}
use Rattle.cli_trials.specs.Reading.{BootsFrom, PartsRead, run_due}
use Rattle.cli_trials.proofs.PartLemmas.{held_image}
use Rattle.cli_trials.proofs.parts.read_parts.Goals as goal

pub read_policy_text-requires-clause-permitted : goal.read_policy_text-requires-clause-permitted
unfolding run_plan
read_policy_text-requires-clause-permitted g c = record { next = image_plan (run_value c.args.asked.now); may = c.requires.permitted }

pub returns-in_err-read : goal.returns-in_err-read
unfolding run_plan
returns-in_err-read g c =
    err_by _ c.in_err-read.field-0.0 (λ r. PartsRead (run_value c.args.asked.now) (g.F.Files.state c.args.files.now) (g.F.Files.state c.read_policy_text.new.files) r)
    c.from_residual.ensures.1 (c.in_err-read.ensures.stage (image_plan (run_value c.args.asked.now)))

pub read_part-requires-clause-permitted : goal.read_part-requires-clause-permitted
unfolding run_plan image_plan
read_part-requires-clause-permitted g c = (c.in_ok-read.ensures.stage.may (image_plan (run_value c.args.asked.now)) c.requires.permitted).0

pub returns-in_err-image : goal.returns-in_err-image
unfolding run_plan image_plan
returns-in_err-image g c =
    let words = run_value c.args.asked.now in
    err_by _ c.in_err-image.field-0.0 (λ r. PartsRead words (g.F.Files.state c.args.files.now) (g.F.Files.state c.read_part.new.files) r)
    c.from_residual-in_err-image.ensures.1
    (pass_ready (policy_part c.args.asked.now.policy.now) (rules_of c.in_ok-read.read.policy) (image_plan words) _ _ _ (Err c.in_err-image.field-0.0) c.in_ok-read.ensures.stage
    (stopped_ready Part.Image c.args.asked.now.image.now max_image_bytes _ _ _ c.in_err-image.field-0.0 c.in_err-image.ensures))

pub boot_parts-requires-clause-permitted : goal.boot_parts-requires-clause-permitted
unfolding run_plan image_plan
boot_parts-requires-clause-permitted g c κs within =
    let words = run_value c.args.asked.now in
    let rules = rules_of c.in_ok-read.read.policy in
    subst (λ (b : List ℕ). MayFollow (kernel_part rules b (boot_plan words rules b)) (g.F.Files.state c.read_part.new.files)) (sym c.deref.ensures.value)
    (read_may Part.Image c.args.asked.now.image.now max_image_bytes (λ (b : List ℕ). kernel_part rules b (boot_plan words rules b)) (g.F.Files.state c.read_policy_text.new.files)
    (g.F.Files.state c.read_part.new.files) c.in_ok-image.image.items c.in_ok-image.ensures (c.in_ok-read.ensures.stage.may (image_plan words) c.requires.permitted))

pub returns-in_err-rest : goal.returns-in_err-rest
unfolding run_plan image_plan
returns-in_err-rest g c =
    let words = run_value c.args.asked.now in
    let rules = rules_of c.in_ok-read.read.policy in
    err_by _ c.in_err-rest.field-0.0 (λ r. PartsRead words (g.F.Files.state c.args.files.now) (g.F.Files.state c.boot_parts.new.files) r)
    c.from_residual-in_err-rest.ensures.1
    (pass_ready (policy_part c.args.asked.now.policy.now) rules (image_plan words) _ _ _ (Err c.in_err-rest.field-0.0) c.in_ok-read.ensures.stage
    (read_ready Part.Image c.args.asked.now.image.now max_image_bytes (λ (b : List ℕ). kernel_part rules b (boot_plan words rules b)) _ _ _ c.in_ok-image.image.items
    (Err c.in_err-rest.field-0.0) c.in_ok-image.ensures
    (subst (λ (b : List ℕ). Prepares (kernel_part rules b (boot_plan words rules b)) (g.F.Files.state c.read_part.new.files) (g.F.Files.state c.boot_parts.new.files) (Err c.in_err-rest.field-0.0))
    c.deref.ensures.value c.in_err-rest.ensures.boots)))

pub returns : goal.returns
unfolding run_plan image_plan
returns g c =
    let words = run_value c.args.asked.now in
    let rules = rules_of c.in_ok-read.read.policy in
    let due = run_due words rules c.in_ok-image.image.items c.in_ok-rest.rest.disk.items (order_schedule rules.harts c.in_ok-rest.rest.order) in
    record {
      rules = rules;
      reads = c.in_ok-read.ensures.text;
      sectors = c.in_ok-rest.ensures.sectors;
      accepted = c.in_ok-rest.ensures.accepted;
      held = held_image words.policy words.image c.in_ok-image.image.items rules _ _ _ due c.in_ok-read.ensures.stage c.in_ok-image.ensures;
      follows = c.in_ok-read.ensures.stage.follows (image_plan words) (g.F.Files.state c.boot_parts.new.files) (Some due)
          (read_follows Part.Image c.args.asked.now.image.now max_image_bytes (λ (b : List ℕ). kernel_part rules b (boot_plan words rules b)) (g.F.Files.state c.read_policy_text.new.files)
          (g.F.Files.state c.read_part.new.files) (g.F.Files.state c.boot_parts.new.files) c.in_ok-image.image.items (Some due) c.in_ok-image.ensures
          (subst (λ (b : List ℕ). BootsFrom words rules b (g.F.Files.state c.read_part.new.files) (g.F.Files.state c.boot_parts.new.files) (Ok c.in_ok-rest.rest))
          c.deref.ensures.value c.in_ok-rest.ensures.boots));
    }
