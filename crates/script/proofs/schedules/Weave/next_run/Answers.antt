use Rattle.std.proofs.Common.{◌+◌, ◌≤◌, arith, ap, ◌∙◌, Some}
use Rattle.script.proofs.EventRuns.{begins_once, woven_from}
use Rattle.script.proofs.schedules.Weave.next_run.Goals as goal

pub returns-then-self-eq-WOVEN_TURNS-clause-first : goal.returns-then-self-eq-WOVEN_TURNS-clause-first
returns-then-self-eq-WOVEN_TURNS-clause-first c =
    begins_once c.args.self.now c.next.new.self c.once.result c.once.ensures.count (ap Some c.once.ensures.event ∙ c.next.ensures.event) c.next.ensures.rest

pub returns-clause-first : goal.returns-clause-first
returns-clause-first c =
    let few : c.min-count.result + c.self.inside.place ≤ 7 = grind (arith, c.min-count.ensures, c.from.ensures, c.self.invariant, c.if-self-eq-WOVEN_TURNS.false) in
    λ later. woven_from c.args.self.now c.min-count.result later c.self.inside.place few c.self.view_is
