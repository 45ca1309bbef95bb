use Rattle.debug_session.proofs.Motions.{Underway}
use Rattle.debug_session.proofs.motion.go_by_events.Given as goal

abbrev pub invariant-events : goal.invariant-events
invariant-events g l = Underway g.T.Target.stands l.breaks l.watches l.steps l.fn.target l.most l.counter l.target l.change
