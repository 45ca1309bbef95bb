use Rattle.std.proofs.Common.{◌≡◌, subst}
use Rattle.spec_hardware.specs.Machine.{Machine}
use Rattle.secvisor_core.specs.Serving.{asked_of}
use Rattle.machine.proofs.events.system.System.exit_answer.Goals as goal

pub returns-clause-answer : goal.returns-clause-answer
returns-clause-answer c =
    subst (λ (m : Machine). c.exit_answer.result ≡ asked_of m c.args.hart c.args.exit.now) c.self.view_is (c.exit_answer.ensures.answer c.self.inside.journal)
