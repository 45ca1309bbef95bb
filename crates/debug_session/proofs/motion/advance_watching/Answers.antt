use Rattle.std.proofs.Common.{sym, ◌∙◌}
use Rattle.debug_session.proofs.RowLemmas.{unchanged}
use Rattle.debug_session.proofs.motion.advance_watching.Goals as goal

pub returns-then-is_empty-clause-change : goal.returns-then-is_empty-clause-change
returns-then-is_empty-clause-change g c = λ run stands within. unchanged c.args.watches.now run run.made (sym c.is_empty.ensures ∙ c.if-is_empty.true)
