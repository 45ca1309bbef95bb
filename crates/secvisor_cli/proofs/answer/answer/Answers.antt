use Rattle.std.proofs.Common.{arith, refl, None}
use Rattle.cli_plans.proofs.PlanLemmas.{follows_keeps}
use Rattle.secvisor_cli.proofs.ReadyLemmas.{refused_follows, wanting_follows}
use Rattle.secvisor_cli.proofs.TopLemmas.{may_carry_out, ready_answers, refused_writes}
use Rattle.secvisor_cli.proofs.answer.answer.Goals as goal

pub carry_out-requires-clause-saves : goal.carry_out-requires-clause-saves
carry_out-requires-clause-saves g c =
    let same = (follows_keeps _ _ _ _ c.in-Ok.ensures.follows).saves in
    let few = c.requires.saves in
    omega arith

pub carry_out-requires-clause-permitted : goal.carry_out-requires-clause-permitted
carry_out-requires-clause-permitted g c = may_carry_out _ _ _ c.in-Ok.ready c.requires.permitted c.in-Ok.ensures

pub returns-in-Ok : goal.returns-in-Ok
returns-in-Ok g c =
    let p = c.in-Ok.ensures in
    record { reached = p.reached; read = _; follows = p.follows; answers = ready_answers p.reached c.in-Ok.ready _ _ _ p.ready c.carry_out.ensures }

pub returns-in-Err-Refused : goal.returns-in-Err-Refused
returns-in-Err-Refused g c =
    let p = rw c.in-Err-Refused.field-0-is at c.in-Err-Refused.ensures in record {
      reached = _;
      read = _;
      follows = refused_follows _ _ _ c.in-Err-Refused.refusal p;
      answers = refused_writes _ _ _ _ _ _ c.refuse.ensures.writes c.refuse.ensures.wants c.refuse.ensures.quiet;
    }

pub returns-in-Err-Memory : goal.returns-in-Err-Memory
returns-in-Err-Memory g c =
    let p = rw c.in-Err-Memory.field-0-is at c.in-Err-Memory.ensures in
    record { reached = None; read = _; follows = wanting_follows _ _ _ p; answers = (refl, refl) }
