use Rattle.std.proofs.Common.{refl, subst}
use Rattle.elf64_load.specs.Refusals.{IsRefusalOf}
use Rattle.elf64_load.specs.declared.read.ElfRefusal.{ElfRefusal}
use Rattle.secvisor_cli.proofs.image_run.judge_kernel.Goals as goal

pub returns-in-Ok : goal.returns-in-Ok
returns-in-Ok c = record { accepted = c.in-Ok.ensures.accepted; entry = c.in-Ok.ensures.entry; segments = c.in-Ok.ensures.segments }

pub returns-in-Err-Fault : goal.returns-in-Err-Fault
returns-in-Err-Fault c = (
  c.in-Err-Fault.fault,
  subst (λ (r : ElfRefusal). IsRefusalOf c.args.file.now c.args.ram_pages r) c.in-Err-Fault.field-0-is c.in-Err-Fault.ensures.refused,
  refl,
)
