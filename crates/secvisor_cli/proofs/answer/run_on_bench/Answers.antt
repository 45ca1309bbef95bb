use Rattle.std.proofs.Common.{refl, sym, subst, inl}
use Rattle.std.specs.Option.{option_copied}
use Rattle.spec_reference.specs.Disk.{disk_bytes}
use Rattle.spec_reference.specs.Run.{run}
use Rattle.sv_types.specs.Schedule.{first_events}
use Rattle.host_io.specs.Outside.{FilesState}
use Rattle.cli_plans.specs.Plans.{RunFrom}
use Rattle.secvisor_cli.specs.Answers.{Answers, RunsAndSaves, outside}
use Rattle.secvisor_cli.specs.Ready.{MaySaveRun}
use Rattle.secvisor_cli.proofs.ReadyLemmas.{err_by}
use Rattle.secvisor_cli.proofs.TopLemmas.{may_try_run, vain_answers}
use Rattle.secvisor_cli.proofs.answer.run_on_bench.Goals as goal

pub try_place-requires-clause-permitted : goal.try_place-requires-clause-permitted
try_place-requires-clause-permitted g c =
    let it = c.requires.permitted in
    may_try_run (disk_bytes (run it.start (first_events c.args.ready.events c.args.ready.script)).devices.disk) (option_copied c.args.ready.save) (g.F.Files.state c.args.files.now) it.may

pub returns-in_err-try_place : goal.returns-in_err-try_place
returns-in_err-try_place g c = λ start new.
    err_by _ c.in_err-try_place.field-0.0
    (λ r. Answers (RunFrom start (first_events c.args.ready.events c.args.ready.script) (option_copied c.args.ready.save))
    (outside (g.F.Files.state c.args.files.now) (g.O.Sink.state c.args.out.now) c.args.bench.now.machine)
    (outside (g.F.Files.state c.try_place.new.files) (g.O.Sink.state c.args.out.now) c.args.bench.now.machine) r)
    c.from_residual.ensures.1
    (vain_answers start _ (option_copied c.args.ready.save) _ _ _ _ c.in_err-try_place.field-0.0 c.in_err-try_place.ensures)

pub run_and_save-result-requires-clause-permitted : goal.run_and_save-result-requires-clause-permitted
run_and_save-result-requires-clause-permitted g c =
    subst (λ (f : FilesState). MaySaveRun c.args.ready.machine (first_events c.args.ready.events c.args.ready.script) (option_copied c.args.ready.save) f)
    (sym c.in_ok-try_place.ensures.1) c.requires.permitted

pub returns : goal.returns
returns g c = λ start new.
    let it = subst (λ (f : FilesState). RunsAndSaves start (first_events c.args.ready.events c.args.ready.script) (option_copied c.args.ready.save) c.run_and_save-result.new.machine f
    (g.F.Files.state c.run_and_save-result.new.files) (g.O.Sink.state c.args.out.now) (g.O.Sink.state c.run_and_save-result.new.out) c.run_and_save-result.result)
    c.in_ok-try_place.ensures.1 (c.run_and_save-result.ensures start new) in
    inl (
      c.in_ok-try_place.ensures.0,
      record {
        written = it.written;
        writes = it.writes;
        saves = it.saves;
        wants = λ _. refl;
        quiet = λ _. tt;
        bench = (c.run_and_save-result.new.machine, refl, it.runs);
      },
    )
