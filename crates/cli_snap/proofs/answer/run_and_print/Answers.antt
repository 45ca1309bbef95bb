use Rattle.std.proofs.Common.{◌≡◌, ℕ, List, subst}
use Rattle.sv_types.specs.Schedule.{first_events}
use Rattle.sv_types.specs.declared.status.Status.{Status}
use Rattle.spec_reference.specs.Run.{run}
use Rattle.host_io.specs.Outside.{after_taking, BreaksOff}
use Rattle.secvisor_cli.proofs.ReadyLemmas.{err_by}
use Rattle.secvisor_cli.specs.Answers.{Writes}
use Rattle.host_io.specs.declared.trouble.Trouble.TheVariants.{Write}
use Rattle.cli_snap.specs.SnapAnswers.{StandsAfter}
use Rattle.cli_snap.proofs.RunLemmas.{ran_writes, last_broke_writes, run_broke_writes, ran_stands, last_broke_stands, run_broke_stands}
use Rattle.cli_snap.proofs.answer.run_and_print.Goals as goal

pub returns-in_err-run-clause-writes : goal.returns-in_err-run-clause-writes
returns-in_err-run-clause-writes g c = λ start new.
    err_by _ Write (λ r. Writes Status.Done (run start (first_events c.args.events c.args.script)).journal.printed (g.O.Sink.state c.args.out.now) (g.O.Sink.state c.run.new.out) r)
    c.from_residual.ensures.1 (run_broke_writes c.args.machine.now start _ c.run.new.machine _ _ (c.in_err-run.ensures.some start new))

pub returns-in_err-run-clause-stands : goal.returns-in_err-run-clause-stands
returns-in_err-run-clause-stands g c = λ start new.
    err_by _ Write (λ r. StandsAfter start (first_events c.args.events c.args.script) c.run.new.machine (g.O.Sink.state c.args.out.now) (g.O.Sink.state c.run.new.out) r)
    c.from_residual.ensures.1 (run_broke_stands c.args.machine.now start _ c.run.new.machine _ _ new (c.in_err-run.ensures.some start new))

pub returns-in_err-write_all-clause-writes : goal.returns-in_err-write_all-clause-writes
returns-in_err-write_all-clause-writes g c = λ start new.
    err_by _ Write (λ r. Writes Status.Done (run start (first_events c.args.events c.args.script)).journal.printed (g.O.Sink.state c.args.out.now) (g.O.Sink.state c.write_all.new.out) r)
    c.from_residual-in_err-write_all.ensures.1
    (last_broke_writes c.args.machine.now start _ c.run.new.machine _ (g.O.Sink.state c.run.new.out) _ (c.in_ok-run.ensures.all.ran start new)
    (subst (λ (bytes : List ℕ). BreaksOff (g.O.Sink.state c.run.new.out) (g.O.Sink.state c.write_all.new.out) bytes) c.printed.ensures c.in_err-write_all.ensures.failed))

pub returns-in_err-write_all-clause-stands : goal.returns-in_err-write_all-clause-stands
returns-in_err-write_all-clause-stands g c = λ start new.
    err_by _ Write (λ r. StandsAfter start (first_events c.args.events c.args.script) c.run.new.machine (g.O.Sink.state c.args.out.now) (g.O.Sink.state c.write_all.new.out) r)
    c.from_residual-in_err-write_all.ensures.1
    (last_broke_stands c.args.machine.now start _ c.run.new.machine _ (g.O.Sink.state c.run.new.out) _ new (c.in_ok-run.ensures.all.ran start new) c.in_ok-run.ensures.all.room
    c.in_ok-run.ensures.all.rest
    (subst (λ (bytes : List ℕ). BreaksOff (g.O.Sink.state c.run.new.out) (g.O.Sink.state c.write_all.new.out) bytes) c.printed.ensures c.in_err-write_all.ensures.failed))

pub returns-clause-writes : goal.returns-clause-writes
returns-clause-writes g c = λ start new.
    ran_writes c.args.machine.now start _ c.run.new.machine _ (g.O.Sink.state c.run.new.out) _ (c.in_ok-run.ensures.all.ran start new)
    (subst (λ (bytes : List ℕ). g.O.Sink.state c.write_all.new.out ≡ after_taking (g.O.Sink.state c.run.new.out) bytes) c.printed.ensures c.in_ok-write_all.ensures.whole)

pub returns-clause-stands : goal.returns-clause-stands
returns-clause-stands g c = λ start new.
    ran_stands c.args.machine.now start _ c.run.new.machine _ (g.O.Sink.state c.run.new.out) _ new (c.in_ok-run.ensures.all.ran start new) c.in_ok-run.ensures.all.room c.in_ok-run.ensures.all.rest
    (subst (λ (bytes : List ℕ). g.O.Sink.state c.write_all.new.out ≡ after_taking (g.O.Sink.state c.run.new.out) bytes) c.printed.ensures c.in_ok-write_all.ensures.whole)
