use Rattle.std.proofs.Common.{◌≡◌}
use Rattle.std.proofs.lemmas.Result.{IfOk-weaker}
use Rattle.laws_resume.specs.Starts.{machine_at_boot, image_machine}
use Rattle.elf64_load.specs.Images.{segments_of}
use Rattle.hw_devices.specs.Ports.{port_disk}
use Rattle.sv_types.specs.Policies.{rules_of}
use Rattle.sv_types.proofs.PolicyLimits.{bound_along, bound_few, few_harts, some_hart}
use Rattle.machine.proofs.ImageStarting.{image_made}
use Rattle.machine.proofs.image_start.assemble.Goals as goal

pub returns-clause-made : goal.returns-clause-made
returns-clause-made c =
    IfOk-weaker c.at_boot.result
    (λ p. p ≡ machine_at_boot (rules_of c.args.policy) c.in_ok-mem.field-0.mem c.args.image.now.entry c.in_ok-mem.field-0.guard.pages (port_disk c.args.port))
    (λ p. p ≡ image_machine p.region.tables (rules_of c.args.policy) c.args.image.now.entry (segments_of c.args.image.now) (port_disk c.args.port))
    (λ p made. image_made p (rules_of c.args.policy) c.args.image.now.entry (segments_of c.args.image.now) c.in_ok-mem.field-0.mem c.in_ok-mem.field-0.guard.pages
    (port_disk c.args.port) made c.in_ok-mem.ensures.ram c.in_ok-mem.ensures.guard)
    c.at_boot.ensures

pub at_boot-requires-clause-along : goal.at_boot-requires-clause-along
at_boot-requires-clause-along c = bound_along (rules_of c.args.policy) c.requires.within

pub at_boot-requires-clause-few : goal.at_boot-requires-clause-few
at_boot-requires-clause-few c = bound_few (rules_of c.args.policy) c.requires.within

pub at_boot-requires-clause-one : goal.at_boot-requires-clause-one
at_boot-requires-clause-one c = some_hart (rules_of c.args.policy) c.requires.within

pub at_boot-requires-clause-four : goal.at_boot-requires-clause-four
at_boot-requires-clause-four c = few_harts (rules_of c.args.policy) c.requires.within
