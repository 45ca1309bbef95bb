use Rattle.spec_hardware.specs.HwExits.{hw_exit_answered}
use Rattle.spec_hardware.specs.declared.exits.ExitAnswer.TheVariants.{Traps}
use Rattle.secvisor_core.proofs.Called.{slot_indexed}
use Rattle.secvisor_core.proofs.Slotted.{aligned_there, answers, slot_set}
use Rattle.secvisor_core.specs.Visors.{machine_of}
use Rattle.secvisor_core.proofs.visor.Visor.guest_trap.Goals as goal

pub returns-clause-answer : goal.returns-clause-answer
unfolding hw_exit_answered
returns-clause-answer c =
    answers c.args.self.now c.args.hardware.now c.args.journal.now c.args.hart c.index_mut-slot.result.now c.index_mut-slot.ensures.value
    (λ m hw mode. hw_exit_answered m c.args.hart hw mode (Traps c.args.trap.cause c.args.trap.tval))
    c.guest_trap.new.slot c.args.hardware.now.devices c.guest_trap.new.journal c.requires.hart.there c.requires.joined
    (c.guest_trap.ensures.machine (machine_of c.args.self.now c.args.hardware.now c.args.journal.now) c.requires.joined.entries c.requires.joined.bound)

pub index_mut-slot-requires : goal.index_mut-slot-requires
index_mut-slot-requires c = slot_indexed c.args.hardware.now c.args.hart c.requires.hart.there

pub guest_trap-requires-clause-aligned : goal.guest_trap-requires-clause-aligned
guest_trap-requires-clause-aligned c =
    aligned_there c.args.hardware.now c.args.hart c.index_mut-slot.result.now c.index_mut-slot.ensures.value
    c.requires.hart.there c.requires.hart.aligned

pub returns-clause-joined : goal.returns-clause-joined
returns-clause-joined c = slot_set c.args.self.now c.args.hardware.now c.args.hart c.guest_trap.new.slot c.args.hardware.now.devices c.requires.joined
