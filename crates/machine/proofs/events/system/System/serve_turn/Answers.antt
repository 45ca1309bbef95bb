use Rattle.std.proofs.Common.{rules}
use Rattle.machine.proofs.EventsSeen.{attempts_there}
use Rattle.machine.proofs.events.system.System.serve_turn.Goals as goal

pub serve_attempts-requires-clause-attempts : goal.serve_attempts-requires-clause-attempts
serve_attempts-requires-clause-attempts c =
    attempts_there c.self.inside c.args.self.now c.self.view_is c.args.hart c.index.result.now c.index.ensures (search rules) c.if-not-index.false (search rules)

pub serve_attempts-requires-clause-ready : goal.serve_attempts-requires-clause-ready
serve_attempts-requires-clause-ready c =
    c.requires.ready (attempts_there c.self.inside c.args.self.now c.self.view_is c.args.hart c.index.result.now c.index.ensures (search rules) c.if-not-index.false (search rules))
