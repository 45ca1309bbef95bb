use Rattle.debug_session.proofs.Reaching.{Reached}
use Rattle.debug_session.proofs.motion.advance_up_to.Given as goal

abbrev pub invariant-events : goal.invariant-events
invariant-events g l = Reached g.T.Target.stands l.fn.target l.made l.counter l.target
