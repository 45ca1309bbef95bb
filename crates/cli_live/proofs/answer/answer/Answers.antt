use Rattle.std.proofs.Common.{arith, refl, None}
use Rattle.cli_plans.proofs.PlanLemmas.{follows_keeps, follows_permits}
use Rattle.secvisor_cli.proofs.ReadyLemmas.{refused_follows, wanting_follows}
use Rattle.secvisor_cli.proofs.TopLemmas.{refused_writes}
use Rattle.cli_live.proofs.AnswerLemmas.{may_under, named_runs}
use Rattle.cli_live.proofs.answer.answer.Goals as goal

pub carry_out-requires-clause-fresh : goal.carry_out-requires-clause-fresh
carry_out-requires-clause-fresh g c = λ κs lives. c.in-Ok.ensures.prepares.fresh

pub carry_out-requires-clause-state : goal.carry_out-requires-clause-state
carry_out-requires-clause-state g c = λ κs lives. let it = c.in-Ok.ensures.prepares in (it.start, it.is_new)

pub carry_out-requires-clause-saves : goal.carry_out-requires-clause-saves
carry_out-requires-clause-saves g c =
    let same = (follows_keeps _ _ _ _ c.in-Ok.ensures.prepares.follows).saves in
    let few = c.requires.saves in
    omega arith

pub carry_out-requires-clause-permitted : goal.carry_out-requires-clause-permitted
carry_out-requires-clause-permitted g c = λ κs lives.
    may_under _ c.in-Ok.ready.out.now (g.F.Files.state c.args.files.now) (g.F.Files.state c.prepare_live.new.files) (follows_permits _ _ _ _ c.in-Ok.ensures.prepares.follows)
    c.in-Ok.ensures.name c.requires.script

pub returns-in-Ok : goal.returns-in-Ok
returns-in-Ok g c =
    let it = c.in-Ok.ensures.prepares in
    record { reached = _; read = _; follows = it.follows; answers = named_runs _ _ _ _ _ _ _ c.in-Ok.ensures.name (c.carry_out.ensures it.start it.is_new) }

pub returns-in-Err-Refused : goal.returns-in-Err-Refused
returns-in-Err-Refused g c =
    let p = rw c.in-Err-Refused.field-0-is at c.in-Err-Refused.ensures.prepares in record {
      reached = _;
      read = _;
      follows = refused_follows _ _ _ c.in-Err-Refused.refusal p;
      answers = (refused_writes _ _ _ _ _ _ c.refuse.ensures.writes c.refuse.ensures.wants c.refuse.ensures.quiet, refl);
    }

pub returns-in-Err-Memory : goal.returns-in-Err-Memory
returns-in-Err-Memory g c =
    let p = rw c.in-Err-Memory.field-0-is at c.in-Err-Memory.ensures.prepares in
    record { reached = None; read = _; follows = wanting_follows _ _ _ p; answers = (refl, refl) }
