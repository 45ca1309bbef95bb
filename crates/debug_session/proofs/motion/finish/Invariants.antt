use Rattle.debug_session.proofs.RowLemmas.{Rowing}
use Rattle.debug_session.proofs.motion.finish.Given as goal

abbrev pub invariant-rows : goal.invariant-rows
invariant-rows g l = Rowing g.T.Target.stands l.fn.target l.most l.counter l.target
