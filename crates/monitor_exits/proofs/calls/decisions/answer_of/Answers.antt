use Rattle.std.proofs.Common.{length}
use Rattle.monitor_exits.proofs.calls.decisions.answer_of.Goals as goal

pub returns-in-Some-Timer-clause-starts : goal.returns-in-Some-Timer-clause-starts
returns-in-Some-Timer-clause-starts c = c.timer_call.ensures.starts (length c.args.slots.now)

pub returns-in-Some-Interrupt-clause-starts : goal.returns-in-Some-Interrupt-clause-starts
returns-in-Some-Interrupt-clause-starts c = c.ipi_call.ensures.starts (length c.args.slots.now)

pub returns-in-Some-Reset-clause-starts : goal.returns-in-Some-Reset-clause-starts
returns-in-Some-Reset-clause-starts c = c.reset_call.ensures.starts (length c.args.slots.now)
