use Rattle.std.proofs.Common.{rules}
use Rattle.monitor_exits.proofs.Started.{started_there}
use Rattle.monitor_exits.proofs.calls.decisions.is_started.Goals as goal

pub returns-in-Some-clause-started : goal.returns-in-Some-clause-started
returns-in-Some-clause-started c = started_there c.args.slots.now c.args.hart c.in-Some.slot.now (search rules) (search rules)
