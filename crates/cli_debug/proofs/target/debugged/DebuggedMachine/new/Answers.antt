use Rattle.std.proofs.Common.{[], sym, ◌∙◌, ap, subst, refl, arith}
use Rattle.sv_types.specs.Schedule.{first_events}
use Rattle.debug_session.specs.Runs.{state}
use Rattle.cli_debug.specs.Debugged.{StandsIn, run_from}
use Rattle.cli_debug.proofs.AlikeStates.{stands_first}
use Rattle.cli_debug.proofs.Shelving.{none_kept}
use Rattle.cli_debug.proofs.Standings.{state_first}
use Rattle.cli_debug.proofs.target.debugged.DebuggedMachine.new.Goals as goal

pub returns : goal.returns
returns g c =
    let kernel = g.B.Beginning.kernel c.args.beginning in
    let start = g.B.Beginning.start c.args.beginning in
    let events = first_events c.args.events (g.B.Beginning.schedule c.args.beginning) in
    record {
      kernel_is = refl;
      starts = refl;
      events_are = refl;
      made_are = refl;
      within = omega arith;
      here =
          subst (λ xs. StandsIn c.in_ok-machine.field-0.«machine» xs (state (run_from kernel start events))) (sym c.new.ensures.items)
          (subst (λ s. StandsIn c.in_ok-machine.field-0.«machine» [] s) (state_first (run_from kernel start events))
          (stands_first c.in_ok-machine.field-0.«machine» start c.in_ok-machine.ensures.new));
      left_are = c.draw-next.ensures.same ∙ ap (first_events c.args.events) c.in_ok-script.ensures;
      measured = c.in_ok-machine.ensures.measured;
      text_is = c.in_ok-machine.ensures.text;
      kept = none_kept start events _ c.new-2.ensures.before c.new-2.ensures.last;
    }
