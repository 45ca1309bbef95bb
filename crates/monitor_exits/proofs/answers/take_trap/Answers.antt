use Rattle.spec_processor.specs.Traps.{is_interrupt, guest_number}
use Rattle.monitor_exits.proofs.HartTraps.{at_trap}
use Rattle.monitor_exits.proofs.answers.take_trap.Goals as goal

pub returns-clause-hart : goal.returns-clause-hart
returns-clause-hart c = λ rules same bound.
    rw (c.enter_handler.ensures, c.mode-from.ensures, c.in_ok-enter.ensures.entered rules same bound, c.target-target.ensures.value)
    (at_trap rules (is_interrupt c.args.trap.cause) (guest_number c.args.trap.cause) c.args.trap.tval c.args.hart.now c.args.privilege.now)
