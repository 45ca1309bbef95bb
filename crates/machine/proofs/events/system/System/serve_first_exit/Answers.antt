use Rattle.std.proofs.Common.{◌≡◌, Bool, false, ap, subst, sym, ◌∙◌}
use Rattle.spec_hardware.specs.Served.{is_again}
use Rattle.spec_hardware.specs.declared.exits.ExitAnswer.{ExitAnswer}
use Rattle.secvisor_core.proofs.Served.{carried}
use Rattle.secvisor_core.specs.Serving.{asked_of}
use Rattle.machine.specs.Turns.{ExitServed}
use Rattle.machine.proofs.events.system.System.serve_first_exit.Goals as goal

pub returns-else-is_again : goal.returns-else-is_again
returns-else-is_again c =
    let once : is_again (asked_of c.args.self.now c.args.hart c.args.exit) ≡ false =
    sym (ap (λ (answer : ExitAnswer). is_again answer) c.exit_answer-answer.ensures.answer) ∙ sym c.is_again.ensures ∙ c.if-is_again.false in
    subst (λ (again : Bool). ExitServed again c.args.self.now c.args.hart c.args.exit c.carry_out.new.self) (sym once)
    (carried c.args.self.now c.carry_out.new.self c.args.hart c.args.exit c.exit_answer-answer.result c.requires.hart.there c.exit_answer-answer.ensures.answer c.carry_out.ensures)
