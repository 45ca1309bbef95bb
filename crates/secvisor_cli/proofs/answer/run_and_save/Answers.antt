use Rattle.std.proofs.Common.{ℕ, List, sym, subst}
use Rattle.std.specs.Option.{option_copied}
use Rattle.sv_types.specs.Schedule.{first_events}
use Rattle.cli_plans.specs.Plans.{saving_of_bytes}
use Rattle.cli_plans.specs.Reading.{MaySave}
use Rattle.secvisor_cli.specs.Answers.{RunsAndSaves}
use Rattle.secvisor_cli.proofs.ReadyLemmas.{err_by}
use Rattle.secvisor_cli.proofs.SaveLemmas.{run_not_saved, run_saved, run_broke}
use Rattle.secvisor_cli.proofs.answer.run_and_save.Goals as goal

pub save_disk-requires-clause-permitted : goal.save_disk-requires-clause-permitted
save_disk-requires-clause-permitted g c =
    let it = c.requires.permitted in
    subst (λ (bytes : List ℕ). MaySave (saving_of_bytes bytes (option_copied c.args.order.save)) (g.F.Files.state c.args.files.now)) (sym (c.in_ok-status.ensures.disk it.start it.new)) it.may

pub returns-in_err-status : goal.returns-in_err-status
returns-in_err-status g c = λ start new.
    err_by _ c.in_err-status.field-0.0
    (λ r. RunsAndSaves start (first_events c.args.order.events c.args.order.script) (option_copied c.args.order.save) c.run_and_report.new.machine (g.F.Files.state c.args.files.now)
    (g.F.Files.state c.args.files.now) (g.O.Sink.state c.args.out.now) (g.O.Sink.state c.run_and_report.new.out) r)
    c.from_residual.ensures.1
    (run_not_saved start _ (option_copied c.args.order.save) _ _ _ _ c.in_err-status.field-0.0 (c.in_err-status.ensures.writes start new) (c.in_err-status.ensures.machine start new))

pub returns-in_err-save_disk : goal.returns-in_err-save_disk
returns-in_err-save_disk g c = λ start new.
    err_by _ c.in_err-save_disk.field-0.0
    (λ r. RunsAndSaves start (first_events c.args.order.events c.args.order.script) (option_copied c.args.order.save) c.run_and_report.new.machine (g.F.Files.state c.args.files.now)
    (g.F.Files.state c.save_disk.new.files) (g.O.Sink.state c.args.out.now) (g.O.Sink.state c.run_and_report.new.out) r)
    c.from_residual-in_err-save_disk.ensures.1
    (run_broke start _ (option_copied c.args.order.save) _ _ _ _ _ c.in_ok-status.status c.in_err-save_disk.field-0.0 (c.in_ok-status.ensures.disk start new) (c.in_ok-status.ensures.writes start new)
    (c.in_ok-status.ensures.machine start new) c.in_err-save_disk.ensures)

pub returns : goal.returns
returns g c = λ start new.
    run_saved start _ (option_copied c.args.order.save) _ _ _ _ _ c.in_ok-status.status c.in_ok-save_disk.field-0 (c.in_ok-status.ensures.disk start new) (c.in_ok-status.ensures.writes start new)
    (c.in_ok-status.ensures.machine start new) c.in_ok-save_disk.ensures
