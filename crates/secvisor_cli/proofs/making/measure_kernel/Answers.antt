use Rattle.std.proofs.Common.{◌≡◌, List, ℕ, subst, Ok}
use Rattle.policy_making.specs.Making.{kernel_digest}
use Rattle.policy_making.specs.Refusals.{Refuses}
use Rattle.policy_making.specs.declared.policy.MeasuredKernel.{MeasuredKernel}
use Rattle.cli_plans.specs.Plans.{digest_part}
use Rattle.secvisor_cli.specs.Ready.{Staged, stop_of_making, kernel_value}
use Rattle.secvisor_cli.proofs.ReadyLemmas.{err_by}
use Rattle.secvisor_cli.proofs.MakingLemmas.{kernel_asked, kernel_passes, kernel_stops, kernel_unread}
use Rattle.secvisor_cli.proofs.making.measure_kernel.Goals as goal

pub read_part-requires-clause-permitted : goal.read_part-requires-clause-permitted
read_part-requires-clause-permitted g c = kernel_asked c.args.name.now c.args.ram_pages _ c.requires.permitted

pub returns-in_err-file : goal.returns-in_err-file
returns-in_err-file g c =
    err_by _ c.in_err-file.field-0.0 (λ r. Staged {T = MeasuredKernel} (digest_part c.args.name.now c.args.ram_pages) kernel_value (g.F.Files.state c.args.files.now)
    (g.F.Files.state c.read_part.new.files) r)
    c.from_residual.ensures.1 (kernel_unread c.args.name.now c.args.ram_pages _ _ c.in_err-file.field-0.0 c.in_err-file.ensures)

pub returns-in_err-digest : goal.returns-in_err-digest
returns-in_err-digest g c =
    err_by _ (stop_of_making c.in_err-digest.field-0.0)
    (λ r. Staged {T = MeasuredKernel} (digest_part c.args.name.now c.args.ram_pages) kernel_value (g.F.Files.state c.args.files.now) (g.F.Files.state c.read_part.new.files) r)
    c.from_residual-in_err-digest.ensures.1
    (kernel_stops c.args.name.now c.args.ram_pages c.in_ok-file.file.items _ _ c.in_err-digest.field-0.0 c.in_ok-file.ensures
    (subst (λ (b : List ℕ). Refuses (kernel_digest b c.args.ram_pages) c.in_err-digest.field-0.0) c.deref.ensures.value c.in_err-digest.ensures.refused))

pub returns : goal.returns
returns g c =
    kernel_passes c.args.name.now c.args.ram_pages c.in_ok-file.file.items _ _ _ c.in_ok-file.ensures
    (subst (λ (b : List ℕ). kernel_digest b c.args.ram_pages ≡ Ok c.in_ok-digest.digest) c.deref.ensures.value c.in_ok-digest.ensures.digest)
