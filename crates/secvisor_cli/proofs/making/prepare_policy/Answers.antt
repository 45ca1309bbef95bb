use Rattle.std.specs.List.{list_all}
use Rattle.policy_making.specs.WordRanges.{are_module_names}
use Rattle.cli_plans.specs.Plans.{digest_part, modules_part, no_modules, making_plan, measure_plan, Kernel}
use Rattle.secvisor_cli.specs.Ready.{Prepares, Passes, MayStage, kernel_value, modules_value}
use Rattle.cli_plans.specs.Words.{policy_value}
use Rattle.std.proofs.Common.{List, ℕ, IsTrue, map, subst, sym, ap, ◌∙◌, Bor, Err}
use Rattle.secvisor_cli.proofs.ReadyLemmas.{err_by}
use Rattle.secvisor_cli.proofs.StageLemmas.{pass_ready}
use Rattle.secvisor_cli.proofs.MakingLemmas.{modules_named}
use Rattle.secvisor_cli.proofs.making.prepare_policy.Goals as goal
use Rattle.sv_types.specs.Names.{name_within}

pub measure_kernel-requires-clause-permitted : goal.measure_kernel-requires-clause-permitted
unfolding measure_plan
measure_kernel-requires-clause-permitted g c κs within = record {
  next = λ (kernel : Kernel). modules_part (map (λ (w : Bor (List ℕ)). w.now) c.args.asked.now.modules.items) no_modules (making_plan (policy_value c.args.asked.now) kernel);
  may = c.requires.permitted;
}

pub returns-in_err-kernel : goal.returns-in_err-kernel
unfolding measure_plan
returns-in_err-kernel g c =
    err_by _ c.in_err-kernel.field-0.0 (λ r. Prepares (measure_plan (policy_value c.args.asked.now)) (g.F.Files.state c.args.files.now) (g.F.Files.state c.measure_kernel.new.files) r)
    c.from_residual.ensures.1
    (c.in_err-kernel.ensures (λ (kernel : Kernel). modules_part (map (λ (w : Bor (List ℕ)). w.now) c.args.asked.now.modules.items) no_modules (making_plan (policy_value c.args.asked.now) kernel)))

pub read_modules-requires-clause-permitted : goal.read_modules-requires-clause-permitted
unfolding measure_plan
read_modules-requires-clause-permitted g c =
    subst (λ (ws : List (Bor (List ℕ))). MayStage (modules_part (map (λ w. w.now) ws) no_modules) (g.F.Files.state c.measure_kernel.new.files)) (sym c.deref.ensures.value) (record {
      next = making_plan (policy_value c.args.asked.now) (kernel_value c.in_ok-kernel.kernel);
      may =
          c.in_ok-kernel.ensures.may (λ (kernel : Kernel). modules_part (map (λ (w : Bor (List ℕ)). w.now) c.args.asked.now.modules.items) no_modules
          (making_plan (policy_value c.args.asked.now) kernel))
          c.requires.permitted;
    })

pub read_modules-requires-clause-names : goal.read_modules-requires-clause-names
read_modules-requires-clause-names g c =
    subst (λ (ws : List (Bor (List ℕ))). IsTrue (list_all (λ w. name_within w.now) ws)) (sym c.deref.ensures.value)
    (modules_named (λ (w : Bor (List ℕ)). w.now) c.args.asked.now.modules.items c.requires.names)

pub make_ready-requires-clause-names : goal.make_ready-requires-clause-names
make_ready-requires-clause-names g c κs within =
    subst (λ (ns : List (List ℕ)). IsTrue (are_module_names ns))
    (sym (c.in_ok-modules.ensures.named ∙ ap (λ (ws : List (Bor (List ℕ))). map (λ w. w.now) ws) c.deref.ensures.value)) c.requires.names

pub returns-in_err-modules : goal.returns-in_err-modules
unfolding measure_plan
returns-in_err-modules g c =
    err_by _ c.in_err-modules.field-0.0 (λ r. Prepares (measure_plan (policy_value c.args.asked.now)) (g.F.Files.state c.args.files.now) (g.F.Files.state c.read_modules.new.files) r)
    c.from_residual-in_err-modules.ensures.1
    (pass_ready (digest_part c.args.asked.now.kernel.now c.args.asked.now.terms.ram_pages) (kernel_value c.in_ok-kernel.kernel)
    (λ (kernel : Kernel). modules_part (map (λ (w : Bor (List ℕ)). w.now) c.args.asked.now.modules.items) no_modules (making_plan (policy_value c.args.asked.now) kernel)) _ _ _
    (Err c.in_err-modules.field-0.0)
    c.in_ok-kernel.ensures
    (subst
    (λ (ws : List (Bor (List ℕ))). Prepares (modules_part (map (λ w. w.now) ws) no_modules (making_plan (policy_value c.args.asked.now) (kernel_value c.in_ok-kernel.kernel)))
    (g.F.Files.state c.measure_kernel.new.files) (g.F.Files.state c.read_modules.new.files) (Err c.in_err-modules.field-0.0))
    c.deref.ensures.value (c.in_err-modules.ensures.staged (making_plan (policy_value c.args.asked.now) (kernel_value c.in_ok-kernel.kernel)))))

pub returns : goal.returns
unfolding measure_plan
returns g c =
    let passes : Passes (modules_part (map (λ (w : Bor (List ℕ)). w.now) c.args.asked.now.modules.items) no_modules) (modules_value c.in_ok-modules.modules)
    (g.F.Files.state c.measure_kernel.new.files) (g.F.Files.state c.read_modules.new.files) =
    subst
    (λ (ws : List (Bor (List ℕ))). Passes (modules_part (map (λ w. w.now) ws) no_modules) (modules_value c.in_ok-modules.modules)
    (g.F.Files.state c.measure_kernel.new.files) (g.F.Files.state c.read_modules.new.files))
    c.deref.ensures.value c.in_ok-modules.ensures.staged in
    pass_ready (digest_part c.args.asked.now.kernel.now c.args.asked.now.terms.ram_pages) (kernel_value c.in_ok-kernel.kernel)
    (λ (kernel : Kernel). modules_part (map (λ (w : Bor (List ℕ)). w.now) c.args.asked.now.modules.items) no_modules (making_plan (policy_value c.args.asked.now) kernel)) _ _ _ c.make_ready.result
    c.in_ok-kernel.ensures
    (pass_ready (modules_part (map (λ (w : Bor (List ℕ)). w.now) c.args.asked.now.modules.items) no_modules) (modules_value c.in_ok-modules.modules)
    (making_plan (policy_value c.args.asked.now) (kernel_value c.in_ok-kernel.kernel)) _ _ _ c.make_ready.result passes
    (c.make_ready.ensures (g.F.Files.state c.read_modules.new.files)))
