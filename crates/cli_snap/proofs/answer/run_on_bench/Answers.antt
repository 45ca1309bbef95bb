use Rattle.std.proofs.Common.{[], refl, sym, subst, inl}
use Rattle.sv_types.specs.Schedule.{first_events}
use Rattle.host_io.specs.Outside.{FilesState, MaySaveUnder}
use Rattle.secvisor_cli.specs.Answers.{outside}
use Rattle.secvisor_cli.proofs.ReadyLemmas.{err_by}
use Rattle.cli_snap.specs.SnapAnswers.{SnapsTo, TriesAndSnaps}
use Rattle.cli_snap.proofs.AnswerLemmas.{vain_snaps}
use Rattle.cli_snap.proofs.answer.run_on_bench.Goals as goal

pub try_place-requires-clause-permitted : goal.try_place-requires-clause-permitted
try_place-requires-clause-permitted g c = ([], c.requires.snapshot [])

pub returns-in_err-try_place : goal.returns-in_err-try_place
returns-in_err-try_place g c = λ start new.
    err_by _ c.in_err-try_place.field-0.0
    (λ r. TriesAndSnaps start (first_events c.args.ready.run.events c.args.ready.run.script) c.args.name.now
    (outside (g.F.Files.state c.args.files.now) (g.O.Sink.state c.args.out.now) c.args.bench.now.machine)
    (outside (g.F.Files.state c.try_place.new.files) (g.O.Sink.state c.args.out.now) c.args.bench.now.machine) r)
    c.from_residual.ensures.1
    (vain_snaps start _ c.args.name.now _ _ _ _ c.in_err-try_place.field-0.0 c.in_err-try_place.ensures)

pub run_and_save-result-requires-clause-snapshot : goal.run_and_save-result-requires-clause-snapshot
run_and_save-result-requires-clause-snapshot g c =
    subst (λ (f : FilesState). MaySaveUnder c.args.name.now f) (sym c.in_ok-try_place.ensures.1) c.requires.snapshot

pub returns : goal.returns
returns g c = λ start new.
    inl (
      c.in_ok-try_place.ensures.0,
      (
        c.run_and_save-result.new.machine,
        refl,
        subst (λ (f : FilesState). SnapsTo start (first_events c.args.ready.run.events c.args.ready.run.script) c.args.name.now c.run_and_save-result.new.machine f
            (g.F.Files.state c.run_and_save-result.new.files) (g.O.Sink.state c.args.out.now) (g.O.Sink.state c.run_and_save-result.new.out) c.run_and_save-result.result)
            c.in_ok-try_place.ensures.1 (c.run_and_save-result.ensures start new),
      ),
    )
