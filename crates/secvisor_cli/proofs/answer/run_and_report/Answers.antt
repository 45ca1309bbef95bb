use Rattle.std.proofs.Common.{rules, Result, Ok, Err, OnOk}
use Rattle.sv_types.specs.declared.status.Status.{Status}
use Rattle.host_io.specs.declared.trouble.Trouble.{Trouble}
use Rattle.machine.proofs.Standing.{stands_disk}
use Rattle.secvisor_cli.proofs.EndLemmas.{broke_prefix, broke_reaches, ran_writes, ran_reaches}
use Rattle.secvisor_cli.proofs.answer.run_and_report.Goals as goal

pub returns-in_err-run-clause-writes : goal.returns-in_err-run-clause-writes
returns-in_err-run-clause-writes g c =
    λ start new.
    let some = c.in_err-run.ensures.some start new in
    record {
      status = search rules;
      proper = search rules;
      whole = search rules;
      prefix = broke_prefix c.args.machine.now start _ c.run.new.machine _ _ some;
      write = λ _. some.broke.faults;
      memory = search rules;
    }

pub returns-in_err-run-clause-machine : goal.returns-in_err-run-clause-machine
returns-in_err-run-clause-machine g c = λ start new.
    broke_reaches _ c.args.machine.now start _ c.run.new.machine _ _ (search rules) new (c.in_err-run.ensures.some start new)

pub returns-clause-writes : goal.returns-clause-writes
returns-clause-writes g c = λ start new.
    ran_writes c.args.machine.now start c.run.new.machine _ _ _ _ _ (c.in_ok-run.ensures.all.ran start new) c.finish.ensures.writes

disk_ok : (result : Result Status Trouble) (P : Type 0) → P → OnOk result P
disk_ok (Ok s) P p = p
disk_ok (Err e) P p = tt

pub returns-clause-disk : goal.returns-clause-disk
returns-clause-disk g c = disk_ok c.finish.result _ (λ start new. stands_disk c.run.new.machine _ _ (c.in_ok-run.ensures.all.ran start new).stands)

pub returns-clause-machine : goal.returns-clause-machine
returns-clause-machine g c = λ start new.
    ran_reaches c.args.machine.now start _ c.run.new.machine _ _ _ _ new (c.in_ok-run.ensures.all.ran start new) c.in_ok-run.ensures.all.room c.in_ok-run.ensures.all.rest
    c.finish.ensures.writes.prefix c.finish.ensures.quiet
