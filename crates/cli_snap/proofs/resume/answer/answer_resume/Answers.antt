use Rattle.std.proofs.Common.{arith, refl, None}
use Rattle.cli_plans.proofs.PlanLemmas.{follows_keeps, may_save}
use Rattle.secvisor_cli.proofs.ReadyLemmas.{refused_follows, wanting_follows}
use Rattle.secvisor_cli.proofs.TopLemmas.{refused_writes}
use Rattle.cli_snap.proofs.resume.answer.answer_resume.Goals as goal

pub run_on_bench-requires-clause-saves : goal.run_on_bench-requires-clause-saves
run_on_bench-requires-clause-saves g c =
    let same = (follows_keeps _ _ _ _ c.in-Ok.ensures.follows).saves in
    let few = c.requires.saves in
    omega arith

pub run_on_bench-requires-clause-runnable : goal.run_on_bench-requires-clause-runnable
run_on_bench-requires-clause-runnable g c = c.in-Ok.ensures.runnable

pub run_on_bench-requires-clause-permitted : goal.run_on_bench-requires-clause-permitted
run_on_bench-requires-clause-permitted g c =
    let on = c.in-Ok.ensures in record { start = on.start; new = on.is_new; may = may_save _ _ _ _ c.requires.permitted on.follows }

pub returns-in-Ok : goal.returns-in-Ok
returns-in-Ok g c =
    let on = c.in-Ok.ensures in record { reached = _; read = _; follows = on.follows; answers = c.run_on_bench.ensures on.start on.is_new }

pub returns-in-Err-Refused : goal.returns-in-Err-Refused
returns-in-Err-Refused g c =
    let p = rw c.in-Err-Refused.field-0-is at c.in-Err-Refused.ensures in record {
      reached = _;
      read = _;
      follows = refused_follows _ _ _ c.in-Err-Refused.refusal p;
      answers = refused_writes _ _ _ _ _ _ c.refuse.ensures.writes c.refuse.ensures.wants c.refuse.ensures.quiet;
    }

pub returns-in-Err-Memory : goal.returns-in-Err-Memory
returns-in-Err-Memory g c =
    let p = rw c.in-Err-Memory.field-0-is at c.in-Err-Memory.ensures in
    record { reached = None; read = _; follows = wanting_follows _ _ _ p; answers = (refl, refl) }
