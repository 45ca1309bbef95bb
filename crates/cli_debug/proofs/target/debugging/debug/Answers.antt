use Rattle.std.proofs.Common.{rules, ◌≡◌, sym, subst, Err}
use Rattle.sv_types.specs.Schedule.{first_events}
use Rattle.debug_session.specs.declared.breakdown.Breakdown.TheVariants.{Memory}
use Rattle.cli_debug.specs.Debugged.{StandsAt, run_from}
use Rattle.cli_debug.specs.Debugging.{Debugs}
use Rattle.cli_debug.proofs.OneRun.{of_one_run, before_it}
use Rattle.cli_debug.proofs.target.debugging.debug.Goals as goal

pub returns-in_err-target : goal.returns-in_err-target
returns-in_err-target g c =
    let memory : c.from_residual.result ≡ Err Memory = search rules in
    let run = run_from (g.B.Beginning.kernel c.args.beginning) (g.B.Beginning.start c.args.beginning) (first_events c.args.events (g.B.Beginning.schedule c.args.beginning)) in
    record {
      headline = subst (λ r. Debugs run (g.K.Keys.state c.args.keys.now) (g.K.Keys.state c.args.keys.now) (g.O.Sink.state c.args.out.now) (g.O.Sink.state c.args.out.now) r)
          (sym memory) (before_it run (g.K.Keys.state c.args.keys.now) (g.O.Sink.state c.args.out.now));
    }

pub returns : goal.returns
returns g c = record {
  headline = of_one_run (StandsAt g.B.Beginning.kernel g.B.Beginning.start g.B.Beginning.schedule) _ _ _ _ _ _ _ c.in_ok-target.ensures c.serve.ensures.headline;
}
