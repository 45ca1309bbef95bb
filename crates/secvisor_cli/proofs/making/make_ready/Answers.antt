use Rattle.std.proofs.Common.{◌≡◌, List, true, map, refl, subst, sym, ◌∙◌}
use Rattle.sv_types.specs.Policies.{Rules, rules_of}
use Rattle.policy_making.specs.Making.{Terms, file_names, file_of}
use Rattle.policy_making.specs.Ranges.{terms_within}
use Rattle.policy_making.specs.Refusals.{Judged, Refuses}
use Rattle.policy_making.specs.WordRanges.{are_module_names}
use Rattle.policy_making.specs.declared.object_file.ObjectFile.{ObjectFile}
use Rattle.secvisor_cli.specs.declared.ready.Stop.TheVariants.{Memory}
use Rattle.cli_plans.specs.Plans.{making_plan}
use Rattle.secvisor_cli.specs.Ready.{Prepares, stop_of_making, kernel_value, modules_value}
use Rattle.cli_plans.specs.Words.{policy_value}
use Rattle.secvisor_cli.proofs.ReadyLemmas.{err_by}
use Rattle.secvisor_cli.proofs.MakingLemmas.{making_stops, making_wants, making_ready, after_same}
use Rattle.secvisor_cli.proofs.making.make_ready.Goals as goal

pub returns-in_err-settings : goal.returns-in_err-settings
returns-in_err-settings g c = λ files.
    err_by _ Memory (λ r. Prepares (making_plan (policy_value c.args.asked.now) (kernel_value c.args.kernel.now) (modules_value c.args.modules.now)) files files r)
    c.from_residual.ensures.1 (making_wants (policy_value c.args.asked.now) (kernel_value c.args.kernel.now) (modules_value c.args.modules.now) files)

pub returns-in_err-policy : goal.returns-in_err-policy
returns-in_err-policy g c = λ files.
    err_by _ (stop_of_making c.in_err-policy.field-0.0)
    (λ r. Prepares (making_plan (policy_value c.args.asked.now) (kernel_value c.args.kernel.now) (modules_value c.args.modules.now)) files files r)
    c.from_residual-in_err-policy.ensures.1
    (making_stops (policy_value c.args.asked.now) (kernel_value c.args.kernel.now) (modules_value c.args.modules.now) files c.in_err-policy.field-0.0
    (subst (λ (j : Judged Rules). Refuses j c.in_err-policy.field-0.0)
    (after_same _ _ _ _ _ _ _ _ _ c.in_ok-settings.ensures refl c.deref.ensures.value c.deref-2.ensures.value) c.in_err-policy.ensures.refused))

pub measured_policy-requires : goal.measured_policy-requires
measured_policy-requires g c = record {
  within =
      c.in_ok-policy.ensures.within (subst (λ (t : Terms). terms_within t ≡ true) (sym c.in_ok-settings.ensures) c.requires.terms)
      (subst (λ (os : List ObjectFile). are_module_names (file_names (map file_of os)) ≡ true) (sym c.deref-2.ensures.value) c.requires.names);
}

pub returns-in_err-made : goal.returns-in_err-made
returns-in_err-made g c = λ files.
    err_by _ Memory (λ r. Prepares (making_plan (policy_value c.args.asked.now) (kernel_value c.args.kernel.now) (modules_value c.args.modules.now)) files files r)
    c.from_residual-in_err-made.ensures.1 (making_wants (policy_value c.args.asked.now) (kernel_value c.args.kernel.now) (modules_value c.args.modules.now) files)

pub returns : goal.returns
returns g c = λ files.
    making_ready (policy_value c.args.asked.now) (kernel_value c.args.kernel.now) (modules_value c.args.modules.now) files (rules_of c.in_ok-policy.policy) c.in_ok-made.made
    (sym (after_same _ _ _ _ _ _ _ _ _ c.in_ok-settings.ensures refl c.deref.ensures.value c.deref-2.ensures.value) ∙ c.in_ok-policy.ensures.policy) c.in_ok-made.ensures
