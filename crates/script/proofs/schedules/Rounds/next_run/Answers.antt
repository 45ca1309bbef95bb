use Rattle.std.proofs.Common.{arith, ap, ◌∙◌, Some}
use Rattle.script.proofs.EventRuns.{begins_once, alone_from}
use Rattle.script.proofs.schedules.Rounds.next_run.Goals as goal

pub returns-then-self-eq1-clause-first : goal.returns-then-self-eq1-clause-first
returns-then-self-eq1-clause-first c =
    alone_from c.args.self.now c.self.inside.harts c.self.inside.hart c.args.most (omega (arith, c.if-self-eq1.true)) c.self.invariant.0 c.self.view_is

pub returns-else-self-eq1-clause-first : goal.returns-else-self-eq1-clause-first
returns-else-self-eq1-clause-first c =
    begins_once c.args.self.now c.next.new.self c.once.result c.once.ensures.count (ap Some c.once.ensures.event ∙ c.next.ensures.event) c.next.ensures.rest
