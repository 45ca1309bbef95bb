use Rattle.spec_hardware.specs.HwExits.{hw_exit_answered}
use Rattle.spec_hardware.specs.declared.exits.ExitAnswer.TheVariants.{LeavesEntry}
use Rattle.secvisor_core.proofs.Called.{slot_indexed}
use Rattle.secvisor_core.proofs.Slotted.{answers, leaves, slot_set}
use Rattle.secvisor_core.specs.Visors.{machine_of}
use Rattle.secvisor_core.proofs.visor.Visor.leave_entry.Goals as goal

pub returns-clause-answer : goal.returns-clause-answer
unfolding hw_exit_answered
returns-clause-answer c = λ journal.
    answers c.args.self.now c.args.hardware.now journal c.args.hart c.index_mut-slot.result.now c.index_mut-slot.ensures.value
    (λ m hw mode. hw_exit_answered m c.args.hart hw mode LeavesEntry)
    c.leave_entry.new.slot c.args.hardware.now.devices journal c.requires.there c.requires.joined
    (c.leave_entry.ensures.machine (machine_of c.args.self.now c.args.hardware.now journal) c.args.hart journal)

pub returns-clause-left : goal.returns-clause-left
returns-clause-left c = λ journal.
    leaves c.args.self.now c.args.hardware.now journal c.args.hart c.index_mut-slot.result.now c.index_mut-slot.ensures.value c.leave_entry.new.slot
    (c.leave_entry.ensures.machine (machine_of c.args.self.now c.args.hardware.now journal) c.args.hart journal)

pub index_mut-slot-requires : goal.index_mut-slot-requires
index_mut-slot-requires c = slot_indexed c.args.hardware.now c.args.hart c.requires.there

pub returns-clause-joined : goal.returns-clause-joined
returns-clause-joined c = slot_set c.args.self.now c.args.hardware.now c.args.hart c.leave_entry.new.slot c.args.hardware.now.devices c.requires.joined
