use Rattle.std.proofs.Common.{ℕ, List, [], length, ap, sym, subst, inl, arith, Some}
use Rattle.sv_types.specs.Schedule.{first_events}
use Rattle.host_io.specs.Outside.{FilesState, MaySaveUnder}
use Rattle.secvisor_cli.proofs.ReadyLemmas.{err_by}
use Rattle.cli_live.specs.LiveAnswers.{live_outside, RunsLive, TriesAndRuns}
use Rattle.cli_live.proofs.AnswerLemmas.{vain_lives}
use Rattle.cli_live.proofs.MadeEvents.{may_write}
use Rattle.cli_live.proofs.LiveLemmas.{runs_live}
use Rattle.cli_live.proofs.answer.carry_out.Goals as goal

pub returns : goal.returns
returns g c = λ start new.
    inl (
      c.in_ok-try_place.ensures.0,
      subst (λ (f : FilesState). RunsLive start (first_events c.args.ready.live.events c.args.ready.live.script) c.args.ready.out.now
          (live_outside f (g.O.Sink.state c.args.out.now) (g.K.Keys.state c.args.keys.now) c.args.bench.now.machine)
          (live_outside (g.F.Files.state c.report-result.new.files) (g.O.Sink.state c.report-result.new.out) (g.K.Keys.state c.run-end.new.keys) (Some c.run-end.new.self.machine))
          c.report-result.result)
          c.in_ok-try_place.ensures.1
          (runs_live c.args.ready c.run-end.new.self c.run-end.result start _ _ _ _ _ _ _ _ _ c.requires.fresh new (record { on = c.run-end.ensures.on; broke = c.run-end.ensures.broke })
          c.run-end.ensures.keys c.run-end.ensures.others c.run-end.ensures.autos c.run-end.ensures.end c.run-end.ensures.harts c.run-end.ensures.events c.report-result.ensures),
    )

pub try_place-requires-clause-permitted : goal.try_place-requires-clause-permitted
try_place-requires-clause-permitted g c = ([], c.requires.permitted [])

pub returns-in_err-try_place : goal.returns-in_err-try_place
returns-in_err-try_place g c = λ start new.
    err_by _ c.in_err-try_place.field-0.0
    (λ r. TriesAndRuns start (first_events c.args.ready.live.events c.args.ready.live.script) c.args.ready.out.now
    (live_outside (g.F.Files.state c.args.files.now) (g.O.Sink.state c.args.out.now) (g.K.Keys.state c.args.keys.now) c.args.bench.now.machine)
    (live_outside (g.F.Files.state c.try_place.new.files) (g.O.Sink.state c.args.out.now) (g.K.Keys.state c.args.keys.now) c.args.bench.now.machine) r)
    c.from_residual.ensures.1
    (vain_lives start _ c.args.ready.out.now _ _ _ _ _ c.in_err-try_place.field-0.0 c.in_err-try_place.ensures)

pub report-result-requires-clause-permitted : goal.report-result-requires-clause-permitted
report-result-requires-clause-permitted g c =
    subst (λ (f : FilesState). MaySaveUnder c.args.ready.out.now f) (sym c.in_ok-try_place.ensures.1) c.requires.permitted

pub run-end-requires-clause-may : goal.run-end-requires-clause-may
run-end-requires-clause-may g c κs within = record {
  sink = c.requires.sink;
  on = record {
    way = c.requires.fresh.way;
    room = let none = ap (λ (bytes : List ℕ). length bytes) c.requires.fresh.console in omega arith;
  };
  line = c.requires.fresh.line;
}

pub run-end-requires-clause-few : goal.run-end-requires-clause-few
run-end-requires-clause-few g c κs within = record {
  events = c.requires.fresh.events;
  autos = let none = c.requires.fresh.autos in omega arith;
}

pub report-result-requires-clause-sink : goal.report-result-requires-clause-sink
report-result-requires-clause-sink g c = λ done. may_write (c.run-end.ensures.on done) c.requires.sink

pub report-result-requires-clause-autos : goal.report-result-requires-clause-autos
report-result-requires-clause-autos g c = let most = c.run-end.ensures.autos in let few = c.requires.fresh.events in omega arith
