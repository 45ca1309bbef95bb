use Rattle.std.proofs.Common.{subst}
use Rattle.spec_hardware.specs.HwExits.{hw_exit}
use Rattle.spec_hardware.specs.declared.exits.ExitAnswer.{ExitAnswer}
use Rattle.secvisor_core.specs.Serving.{Answered}
use Rattle.secvisor_core.specs.Visors.{machine_of}
use Rattle.secvisor_core.proofs.visor.Visor.serve_exit.Goals as goal

pub returns-clause-answer : goal.returns-clause-answer
unfolding hw_exit
returns-clause-answer c =
    let m = machine_of c.args.self.now c.args.hardware.now c.args.journal.now in
    subst (λ (answer : ExitAnswer). Answered m c.args.hart answer (machine_of c.carry_out.new.self c.carry_out.new.hardware c.carry_out.new.journal))
    (c.exit_answer-answer.ensures.answer c.args.journal.now) c.carry_out.ensures.answer
