use Rattle.std.proofs.Common.{rules}
use Rattle.spec_hardware.specs.HwExits.{served_load_turn}
use Rattle.secvisor_core.proofs.Given.{counts, decides}
use Rattle.secvisor_core.specs.Visors.{machine_of}
use Rattle.secvisor_core.proofs.visor.Visor.load_turn.Goals as goal

pub returns-in-Some-clause-turn : goal.returns-in-Some-clause-turn
returns-in-Some-clause-turn c =
    decides c.args.self.now c.args.hardware.now c.args.journal.now c.args.hart c.in-Some.answer c.load_turn.new.modules
    (machine_of c.give.new.self c.give.new.hardware c.give.new.journal) c.in-Some.ensures.kept
    (c.in-Some.ensures.decided (machine_of c.args.self.now c.args.hardware.now c.args.journal.now) c.args.hart c.args.self.now.guard.pages) c.give.ensures.answer

pub returns-in_default-clause-turn : goal.returns-in_default-clause-turn
returns-in_default-clause-turn c =
    counts c.args.self.now c.args.hardware.now c.args.journal.now (λ m. served_load_turn m c.args.hart) c.load_turn.new.modules
    (c.load_turn.ensures.counted (search rules) (machine_of c.args.self.now c.args.hardware.now c.args.journal.now) c.args.hart c.args.self.now.guard.pages)
    c.requires.joined
