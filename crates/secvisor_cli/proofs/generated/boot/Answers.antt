use Rattle.std.proofs.Common.{◌∙◌, ◌%◌, ℕ, List, length, ap, subst}
use Rattle.sv_types.specs.Policies.{rules_of}
use Rattle.spec_reference.specs.Start.{boot_start}
use Rattle.spec_hardware.specs.Reaches.{IsNew}
use Rattle.secvisor_cli.proofs.ReadyLemmas.{disk_sectors}
use Rattle.secvisor_cli.proofs.generated.boot.Goals as goal

pub boot-requires-clause-read : goal.boot-requires-clause-read
boot-requires-clause-read g c κs within = record {
  file = c.args.file.now;
  is = record { accepted = c.in-Ok.ensures.accepted; entry = c.in-Ok.ensures.entry; segments = c.in-Ok.ensures.segments };
}

pub boot-requires-clause-sectors : goal.boot-requires-clause-sectors
boot-requires-clause-sectors g c κs within = ap (λ (bytes : List ℕ). length bytes % 512) c.requires.disk ∙ disk_sectors

pub returns-in-Ok-boot : goal.returns-in-Ok-boot
returns-in-Ok-boot g c =
    subst (λ (disk : List ℕ). IsNew c.in-Ok-boot.machine (boot_start (rules_of c.args.policy) c.args.file.now disk)) c.requires.disk
    (c.in-Ok-boot.ensures.new c.args.file.now
    (record { accepted = c.in-Ok.ensures.accepted; entry = c.in-Ok.ensures.entry; segments = c.in-Ok.ensures.segments }))
