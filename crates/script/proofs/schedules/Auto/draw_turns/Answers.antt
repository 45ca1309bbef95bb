use Rattle.script.proofs.BurstEvents.{turns_alone}
use Rattle.script.proofs.schedules.Auto.draw_turns.Goals as goal

pub returns-clause-draws : goal.returns-clause-draws
returns-clause-draws c =
    turns_alone c.turns_ahead-turns.result.count c.args.hart c.self.inside.harts c.self.inside.number c.turns_ahead-turns.result.number
    c.args.self.now c.if-self-ne1.false c.if-hart-ne0.false c.turns_ahead-turns.ensures.turns c.self.view_is
