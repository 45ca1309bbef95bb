use Rattle.std.proofs.Common.{◌≡◌, subst}
use Rattle.spec_hardware.specs.HardwareEvent.{attempt_of}
use Rattle.spec_hardware.specs.Machine.{Machine, after_attempt}
use Rattle.hw_platform.specs.Attempts.{hart_in}
use Rattle.secvisor_core.specs.Visors.{machine_of}
use Rattle.machine.proofs.events.system.System.attempt.Goals as goal

pub returns-clause-machine : goal.returns-clause-machine
returns-clause-machine c =
    subst (λ (m : Machine). machine_of c.self.inside.visor c.attempt.new.self c.self.inside.journal ≡ after_attempt m c.args.hart (attempt_of m c.args.hart (hart_in m.harts c.args.hart)))
    c.self.view_is (c.attempt.ensures.machine (machine_of c.self.inside.visor c.self.inside.hardware c.self.inside.journal))

pub returns-clause-outcome : goal.returns-clause-outcome
returns-clause-outcome c =
    subst (λ (m : Machine). c.attempt.result ≡ (attempt_of m c.args.hart (hart_in m.harts c.args.hart)).outcome) c.self.view_is
    (c.attempt.ensures.outcome (machine_of c.self.inside.visor c.self.inside.hardware c.self.inside.journal))
