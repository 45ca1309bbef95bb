use Rattle.debug_session.proofs.Motions.{Searched}
use Rattle.debug_session.proofs.motion.last_hit.Given as goal

abbrev pub invariant-events : goal.invariant-events
invariant-events g l = Searched g.T.Target.stands l.breaks l.watches l.fn.target l.count l.n l.last l.target
