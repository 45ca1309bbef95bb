use Rattle.debug_session.proofs.RowLemmas.{one_row}
use Rattle.debug_session.proofs.motion.advance.Goals as goal

pub returns : goal.returns
returns g c = λ run at within.
    one_row g.T.Target.stands run c.in_ok-advance_row.field-0 c.advance_row.new.self c.in_ok-advance_row.ensures.few (c.in_ok-advance_row.ensures.row run at within)
