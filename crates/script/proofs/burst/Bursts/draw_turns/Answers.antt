use Rattle.std.proofs.Common.{◌≤◌, arith}
use Rattle.script.proofs.BurstEvents.{turns_in_burst}
use Rattle.script.proofs.burst.Bursts.draw_turns.Goals as goal

pub returns-clause-draws : goal.returns-clause-draws
returns-clause-draws c =
    let few : c.turns_ahead-turns.result.count ≤ c.self.inside.left = omega (arith, c.turns_ahead-turns.ensures.most, c.min.ensures) in
    turns_in_burst c.turns_ahead-turns.result.count c.self.inside.harts c.self.inside.hart c.args.hart c.self.inside.left c.self.inside.number c.turns_ahead-turns.result.number
    c.args.self.now c.if-hart-self.false few c.turns_ahead-turns.ensures.turns c.self.view_is
