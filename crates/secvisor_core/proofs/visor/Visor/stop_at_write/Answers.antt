use Rattle.spec_hardware.specs.HwExits.{hw_exit_answered}
use Rattle.spec_hardware.specs.declared.exits.ExitAnswer.TheVariants.{StopsAtWrite}
use Rattle.secvisor_core.proofs.Called.{slot_indexed}
use Rattle.secvisor_core.proofs.Slotted.{journal_answers}
use Rattle.secvisor_core.specs.Visors.{machine_of}
use Rattle.secvisor_core.proofs.visor.Visor.stop_at_write.Goals as goal

pub returns : goal.returns
unfolding hw_exit_answered
returns c =
    journal_answers c.args.self.now c.args.hardware.now c.args.journal.now c.args.hart c.index.result.now c.index.ensures
    (λ m hw mode. hw_exit_answered m c.args.hart hw mode (StopsAtWrite c.args.gpa))
    c.stop_at_write.new.journal c.requires.there c.requires.joined
    (c.stop_at_write.ensures.machine (machine_of c.args.self.now c.args.hardware.now c.args.journal.now))

pub index-requires : goal.index-requires
index-requires c = slot_indexed c.args.hardware.now c.args.hart c.requires.there
