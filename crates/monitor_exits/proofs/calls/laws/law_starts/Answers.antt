use Rattle.monitor_exits.proofs.Starting.{module_starts, decision_starts}
use Rattle.monitor_exits.proofs.calls.laws.law_starts.Goals as goal

pub returns-clause-calls : goal.returns-clause-calls
returns-clause-calls c = module_starts

pub returns-clause-loads : goal.returns-clause-loads
returns-clause-loads c = decision_starts
