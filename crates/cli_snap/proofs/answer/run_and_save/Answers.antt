use Rattle.sv_types.specs.Schedule.{first_events}
use Rattle.secvisor_cli.proofs.ReadyLemmas.{err_by}
use Rattle.host_io.specs.declared.trouble.Trouble.TheVariants.{Memory}
use Rattle.cli_snap.specs.SnapAnswers.{SnapsTo}
use Rattle.cli_snap.proofs.RunLemmas.{has_state, stands_all, few_counted}
use Rattle.cli_snap.proofs.SaveLemmas.{snaps_ok, snaps_err, snaps_none, snaps_broke}
use Rattle.cli_snap.proofs.answer.run_and_save.Goals as goal

pub returns-in_err-text : goal.returns-in_err-text
returns-in_err-text g c = λ start new.
    err_by _ Memory (λ r. SnapsTo start (first_events c.args.order.events c.args.order.script) c.args.order.name.now c.args.machine.now (g.F.Files.state c.args.files.now)
    (g.F.Files.state c.args.files.now) (g.O.Sink.state c.args.out.now) (g.O.Sink.state c.args.out.now) r)
    c.from_residual.ensures.1 (snaps_none start _ c.args.order.name.now c.args.machine.now _ _ new)

pub returns-in_err-status : goal.returns-in_err-status
returns-in_err-status g c = λ start new.
    err_by _ c.in_err-status.field-0.0
    (λ r. SnapsTo start (first_events c.args.order.events c.args.order.script) c.args.order.name.now c.run_and_print.new.machine (g.F.Files.state c.args.files.now)
    (g.F.Files.state c.args.files.now) (g.O.Sink.state c.args.out.now) (g.O.Sink.state c.run_and_print.new.out) r)
    c.from_residual-in_err-status.ensures.1
    (snaps_broke start _ c.args.order.name.now c.run_and_print.new.machine _ _ _ c.in_err-status.field-0.0 (c.in_err-status.ensures.writes start new) (c.in_err-status.ensures.stands start new))

pub save_snapshot-requires-clause-state : goal.save_snapshot-requires-clause-state
save_snapshot-requires-clause-state g c =
    let s = c.requires.starts in
    has_state s.start _ c.run_and_print.new.machine _ _ _ (c.in_ok-status.ensures.stands s.start s.new)

pub save_snapshot-requires-clause-few : goal.save_snapshot-requires-clause-few
save_snapshot-requires-clause-few g c =
    let s = c.requires.starts in
    few_counted c.args.machine.now c.run_and_print.new.machine s.start c.args.order.events c.args.order.script s.new c.requires.counts c.requires.events
    (stands_all s.start _ c.run_and_print.new.machine _ _ c.in_ok-status.status (c.in_ok-status.ensures.stands s.start s.new))

pub returns-in_err-save_snapshot : goal.returns-in_err-save_snapshot
returns-in_err-save_snapshot g c = λ start new.
    err_by _ c.in_err-save_snapshot.field-0.0
    (λ r. SnapsTo start (first_events c.args.order.events c.args.order.script) c.args.order.name.now c.run_and_print.new.machine (g.F.Files.state c.args.files.now)
    (g.F.Files.state c.save_snapshot.new.files) (g.O.Sink.state c.args.out.now) (g.O.Sink.state c.run_and_print.new.out) r)
    c.from_residual-in_err-save_snapshot.ensures.1
    (snaps_err c.args.machine.now c.run_and_print.new.machine start _ c.args.order.name.now c.in_ok-text.text.items _ _ _ _ c.in_ok-status.status c.in_err-save_snapshot.field-0.0
    (record {
      is_new = new;
      few = c.requires.counts;
      text_is = c.in_ok-text.ensures start new.stands;
      writes = c.in_ok-status.ensures.writes start new;
      stands = c.in_ok-status.ensures.stands start new;
    }) c.in_err-save_snapshot.ensures)

pub returns : goal.returns
returns g c = λ start new.
    snaps_ok c.args.machine.now c.run_and_print.new.machine start _ c.args.order.name.now c.in_ok-text.text.items _ _ _ _ c.in_ok-status.status c.in_ok-save_snapshot.field-0
    (record {
      is_new = new;
      few = c.requires.counts;
      text_is = c.in_ok-text.ensures start new.stands;
      writes = c.in_ok-status.ensures.writes start new;
      stands = c.in_ok-status.ensures.stands start new;
    }) c.in_ok-save_snapshot.ensures
