use Rattle.debug_session.proofs.RowLemmas.{Counted}
use Rattle.debug_session.proofs.motion.advance_by.Given as goal

abbrev pub invariant-rows : goal.invariant-rows
invariant-rows g l = Counted g.T.Target.stands l.fn.target l.count l.left l.counter l.target
