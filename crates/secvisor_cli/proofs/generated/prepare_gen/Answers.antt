use Rattle.std.proofs.Common.{◌∙◌, ℕ, List, refl, sym, subst}
use Rattle.sv_types.specs.Policies.{Rules, rules_of}
use Rattle.guest_gen.specs.Booting.{IsMeasuredKernel}
use Rattle.guest_gen.specs.Generated.{generated_policy, generated_image}
use Rattle.guest_gen.proofs.Boots.{bootable}
use Rattle.spec_reference.specs.Start.{boot_start}
use Rattle.spec_hardware.specs.Reaches.{IsNew}
use Rattle.cli_plans.specs.Plans.{gen_due, gen_disk}
use Rattle.secvisor_cli.specs.Ready.{IsReady}
use Rattle.secvisor_cli.specs.declared.ready.Stop.TheVariants.{Memory}
use Rattle.secvisor_cli.proofs.ReadyLemmas.{err_by, gen_ready, gen_wants}
use Rattle.secvisor_cli.proofs.generated.prepare_gen.Goals as goal

pub returns-in_err-file : goal.returns-in_err-file
returns-in_err-file g c = err_by _ Memory (λ r. IsReady (gen_due c.args.calls) r) c.from_residual.ensures.1 (gen_wants c.args.calls)

pub returns-in_err-disk : goal.returns-in_err-disk
returns-in_err-disk g c = err_by _ Memory (λ r. IsReady (gen_due c.args.calls) r) c.from_residual-in_err-disk.ensures.1 (gen_wants c.args.calls)

pub boot-requires-clause-bootable : goal.boot-requires-clause-bootable
boot-requires-clause-bootable g c κs within =
    subst (λ (rules : Rules). IsMeasuredKernel c.deref.result.now rules) (sym c.in_ok-file.ensures.policy)
    (subst (λ (file : List ℕ). IsMeasuredKernel file (generated_policy c.args.calls)) (sym (c.deref.ensures.value ∙ c.in_ok-file.ensures.image)) (bootable c.args.calls))

pub returns-in_err-machine : goal.returns-in_err-machine
returns-in_err-machine g c = err_by _ Memory (λ r. IsReady (gen_due c.args.calls) r) c.from_residual-in_err-machine.ensures.1 (gen_wants c.args.calls)

pub returns : goal.returns
returns g c =
    let new =
    subst (λ (rules : Rules). IsNew c.in_ok-machine.machine (boot_start rules (generated_image c.args.calls) gen_disk)) c.in_ok-file.ensures.policy
    (subst (λ (file : List ℕ). IsNew c.in_ok-machine.machine (boot_start (rules_of c.in_ok-file.policy) file gen_disk)) (c.deref.ensures.value ∙ c.in_ok-file.ensures.image)
    c.in_ok-machine.ensures) in
    gen_ready c.args.calls _ new refl c.weave.ensures refl
