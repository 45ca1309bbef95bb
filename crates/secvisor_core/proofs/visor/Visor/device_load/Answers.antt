use Rattle.spec_hardware.specs.HwExits.{hw_exit_answered}
use Rattle.spec_hardware.specs.declared.exits.ExitAnswer.TheVariants.{LoadsDevice}
use Rattle.secvisor_core.proofs.Called.{slot_indexed}
use Rattle.secvisor_core.proofs.Slotted.{aligned_there, answers, slot_set}
use Rattle.secvisor_core.specs.Visors.{machine_of}
use Rattle.secvisor_core.proofs.visor.Visor.device_load.Goals as goal

pub returns-clause-answer : goal.returns-clause-answer
unfolding hw_exit_answered
returns-clause-answer c =
    answers c.args.self.now c.args.hardware.now c.args.journal.now c.args.hart c.index_mut-slot.result.now c.index_mut-slot.ensures.value
    (λ m hw mode. hw_exit_answered m c.args.hart hw mode (LoadsDevice c.args.load))
    c.device_load.new.slot c.device_load.new.devices c.device_load.new.journal c.requires.hart.there c.requires.joined
    (c.device_load.ensures.machine (machine_of c.args.self.now c.args.hardware.now c.args.journal.now) c.requires.joined.entries c.requires.joined.bound)

pub index_mut-slot-requires : goal.index_mut-slot-requires
index_mut-slot-requires c = slot_indexed c.args.hardware.now c.args.hart c.requires.hart.there

pub device_load-requires-clause-aligned : goal.device_load-requires-clause-aligned
device_load-requires-clause-aligned c =
    aligned_there c.args.hardware.now c.args.hart c.index_mut-slot.result.now c.index_mut-slot.ensures.value
    c.requires.hart.there c.requires.hart.aligned

pub returns-clause-joined : goal.returns-clause-joined
returns-clause-joined c = slot_set c.args.self.now c.args.hardware.now c.args.hart c.device_load.new.slot c.device_load.new.devices c.requires.joined
