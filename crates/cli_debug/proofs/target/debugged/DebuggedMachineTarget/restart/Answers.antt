use Rattle.std.proofs.Common.{[], sym, ◌∙◌, subst, arith}
use Rattle.debug_session.specs.Runs.{after, state}
use Rattle.cli_debug.specs.Debugged.{StandsIn}
use Rattle.cli_debug.proofs.AlikeStates.{stands_first}
use Rattle.cli_debug.proofs.Standings.{on_ok, state_first}
use Rattle.cli_debug.proofs.target.debugged.DebuggedMachineTarget.restart.Goals as goal

pub returns : goal.returns
returns g c = on_ok c.go_to.result c.go_to.ensures (λ goes run at. goes run at (omega arith)
    (subst (λ xs. StandsIn c.in_ok-machine.field-0.«machine» xs (state (after run 0))) (sym c.new.ensures.items)
    (subst (λ s. StandsIn c.in_ok-machine.field-0.«machine» [] s) (sym at.starts ∙ state_first run)
    (stands_first c.in_ok-machine.field-0.«machine» (g.B.Beginning.start c.args.self.now.beginning) c.in_ok-machine.ensures.new))))
