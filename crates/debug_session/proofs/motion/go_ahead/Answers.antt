use Rattle.std.proofs.Common.{◌∙◌, sym}
use Rattle.debug_session.specs.Runs.{ahead}
use Rattle.debug_session.proofs.RowLemmas.{free_ahead, free_change}
use Rattle.debug_session.proofs.motion.go_ahead.Goals as goal

pub returns-then-is_free-clause-moved : goal.returns-then-is_free-clause-moved
returns-then-is_free-clause-moved g c = λ run stands.
    free_ahead g.T.Target.stands c.finish.new.target run c.args.breaks.now c.args.watches.now c.args.steps (sym c.is_free.ensures ∙ c.if-is_free.true) (c.in_ok-finish.ensures run stands)

pub returns-then-is_free-clause-change : goal.returns-then-is_free-clause-change
returns-then-is_free-clause-change g c = λ run stands.
    free_change run (ahead c.args.breaks.now c.args.watches.now c.args.steps run).made c.args.breaks.now c.args.watches.now c.args.steps (sym c.is_free.ensures ∙ c.if-is_free.true)
