use Rattle.std.proofs.Common.{rules}
use Rattle.sv_types.specs.Policies.{rules_of}
use Rattle.elf64_load.specs.Images.{segments_of}
use Rattle.secvisor_cli.specs.declared.ready.Stop.TheVariants.{Memory}
use Rattle.cli_plans.specs.Plans.{bound_plan, kernel_part}
use Rattle.secvisor_cli.specs.Ready.{Prepares, stop_of_binding}
use Rattle.cli_plans.specs.Values.{convert_split_of}
use Rattle.secvisor_cli.proofs.ReadyLemmas.{err_by}
use Rattle.secvisor_cli.proofs.StageLemmas.{kernel_stopped}
use Rattle.secvisor_cli.proofs.ConvertLemmas.{bound_ready, bound_stops, bound_wants, of_kernel}
use Rattle.secvisor_cli.proofs.converting.bind_file.Goals as goal

pub returns-in_err-image : goal.returns-in_err-image
returns-in_err-image g c = λ files.
    err_by _ c.in_err-image.field-0.0
    (λ r. Prepares (kernel_part (rules_of c.args.policy) c.args.file.now (bound_plan (convert_split_of c.args.asked.now) (rules_of c.args.policy) c.args.file.now)) files files r)
    c.from_residual.ensures.1
    (kernel_stopped (rules_of c.args.policy) c.args.file.now _ files c.in_err-image.field-0.0 c.in_err-image.ensures)

pub bind-requires : goal.bind-requires
bind-requires g c = (search rules, of_kernel c.args.file.now c.args.policy.ram_pages c.in_ok-image.image c.in_ok-image.ensures)

pub returns-in_err-bound : goal.returns-in_err-bound
returns-in_err-bound g c = λ files.
    err_by _ (stop_of_binding c.in_err-bound.field-0.0)
    (λ r. Prepares (kernel_part (rules_of c.args.policy) c.args.file.now (bound_plan (convert_split_of c.args.asked.now) (rules_of c.args.policy) c.args.file.now)) files files r)
    c.from_residual-in_err-bound.ensures.1
    (bound_stops (convert_split_of c.args.asked.now) (rules_of c.args.policy) c.args.file.now files c.in_ok-image.ensures.accepted (segments_of c.in_ok-image.image) c.in_err-bound.field-0.0
    c.in_ok-image.ensures.segments c.in_err-bound.ensures.refused)

pub converted_policy-requires : goal.converted_policy-requires
converted_policy-requires g c = record { within = c.in_ok-bound.ensures.within c.requires.within }

pub returns-in_err-made : goal.returns-in_err-made
returns-in_err-made g c = λ files.
    err_by _ Memory
    (λ r. Prepares (kernel_part (rules_of c.args.policy) c.args.file.now (bound_plan (convert_split_of c.args.asked.now) (rules_of c.args.policy) c.args.file.now)) files files r)
    c.from_residual-in_err-made.ensures.1
    (bound_wants (convert_split_of c.args.asked.now) (rules_of c.args.policy) c.args.file.now files c.in_ok-image.ensures.accepted)

pub returns : goal.returns
returns g c = λ files.
    bound_ready (convert_split_of c.args.asked.now) (rules_of c.args.policy) c.args.file.now files c.in_ok-image.ensures.accepted (segments_of c.in_ok-image.image)
    (rules_of c.in_ok-bound.bound) c.in_ok-made.made c.in_ok-image.ensures.segments c.in_ok-bound.ensures.bound c.in_ok-made.ensures
