use Rattle.spec_hardware.specs.HwExits.{hw_exit_answered}
use Rattle.spec_hardware.specs.declared.exits.ExitAnswer.TheVariants.{Demotes}
use Rattle.secvisor_core.proofs.Called.{slot_indexed}
use Rattle.secvisor_core.proofs.Slotted.{answers, slot_set}
use Rattle.secvisor_core.specs.Visors.{machine_of}
use Rattle.secvisor_core.proofs.visor.Visor.guest_demotion.Goals as goal

pub returns-clause-answer : goal.returns-clause-answer
unfolding hw_exit_answered
returns-clause-answer c =
    answers c.args.self.now c.args.hardware.now c.args.journal.now c.args.hart c.index_mut-slot.result.now c.index_mut-slot.ensures.value
    (λ m hw mode. hw_exit_answered m c.args.hart hw mode (Demotes c.args.gpa))
    c.guest_demotion.new.slot c.args.hardware.now.devices c.guest_demotion.new.journal c.requires.there c.requires.joined
    (c.guest_demotion.ensures.machine (machine_of c.args.self.now c.args.hardware.now c.args.journal.now))

pub index_mut-slot-requires : goal.index_mut-slot-requires
index_mut-slot-requires c = slot_indexed c.args.hardware.now c.args.hart c.requires.there

pub returns-clause-joined : goal.returns-clause-joined
returns-clause-joined c = slot_set c.args.self.now c.args.hardware.now c.args.hart c.guest_demotion.new.slot c.args.hardware.now.devices c.requires.joined
