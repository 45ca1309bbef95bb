use Rattle.std.proofs.Common.{arith, refl, None}
use Rattle.cli_plans.proofs.PlanLemmas.{follows_keeps, follows_permits}
use Rattle.secvisor_cli.proofs.ReadyLemmas.{begins, refused_follows, wanting_follows}
use Rattle.secvisor_cli.proofs.TopLemmas.{refused_writes}
use Rattle.cli_snap.proofs.AnswerLemmas.{may_under}
use Rattle.cli_snap.proofs.answer.answer_snap.Goals as goal

pub run_on_bench-requires-clause-saves : goal.run_on_bench-requires-clause-saves
run_on_bench-requires-clause-saves g c =
    let same = (follows_keeps _ _ _ _ c.in-Ok.ensures.boots.follows).saves in
    let few = c.requires.saves in
    omega arith

pub run_on_bench-requires-clause-fresh : goal.run_on_bench-requires-clause-fresh
run_on_bench-requires-clause-fresh g c = (begins _ _ _ c.in-Ok.booted.run c.in-Ok.ensures.boots).fresh

pub run_on_bench-requires-clause-starts : goal.run_on_bench-requires-clause-starts
run_on_bench-requires-clause-starts g c =
    let b = begins _ _ _ c.in-Ok.booted.run c.in-Ok.ensures.boots in record { start = b.start; new = b.is_new }

pub run_on_bench-requires-clause-digests : goal.run_on_bench-requires-clause-digests
run_on_bench-requires-clause-digests g c = c.in-Ok.ensures.digests

pub run_on_bench-requires-clause-snapshot : goal.run_on_bench-requires-clause-snapshot
run_on_bench-requires-clause-snapshot g c =
    may_under _ (g.F.Files.state c.args.files.now) (g.F.Files.state c.prepare_snap.new.files) (follows_permits _ _ _ _ c.in-Ok.ensures.boots.follows) c.requires.snapshot

pub returns-in-Ok : goal.returns-in-Ok
returns-in-Ok g c =
    let b = begins _ _ _ c.in-Ok.booted.run c.in-Ok.ensures.boots in
    record { reached = _; read = _; follows = b.follows; answers = c.run_on_bench.ensures b.start b.is_new }

pub returns-in-Err-Refused : goal.returns-in-Err-Refused
returns-in-Err-Refused g c =
    let p = rw c.in-Err-Refused.field-0-is at c.in-Err-Refused.ensures.boots in record {
      reached = _;
      read = _;
      follows = refused_follows _ _ _ c.in-Err-Refused.refusal p;
      answers = refused_writes _ _ _ _ _ _ c.refuse.ensures.writes c.refuse.ensures.wants c.refuse.ensures.quiet;
    }

pub returns-in-Err-Memory : goal.returns-in-Err-Memory
returns-in-Err-Memory g c =
    let p = rw c.in-Err-Memory.field-0-is at c.in-Err-Memory.ensures.boots in
    record { reached = None; read = _; follows = wanting_follows _ _ _ p; answers = (refl, refl) }
