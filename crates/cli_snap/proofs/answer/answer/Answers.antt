use Rattle.std.proofs.Common.{refl, None}
use Rattle.cli_plans.specs.CommandLine.{SnapWords}
use Rattle.cli_plans.specs.Plans.{run_plan}
use Rattle.cli_plans.specs.Words.{snap_value}
use Rattle.cli_plans.proofs.PlanLemmas.{asked_may, asked_refuses, asked_wants}
use Rattle.secvisor_cli.proofs.TopLemmas.{refused_writes}
use Rattle.cli_snap.proofs.AnswerLemmas.{name_may, words_performed}
use Rattle.cli_snap.proofs.answer.answer.Goals as goal

pub answer_snap-requires-clause-permitted : goal.answer_snap-requires-clause-permitted
answer_snap-requires-clause-permitted g c = λ κs lives.
    asked_may (λ (w : SnapWords). run_plan w.run) _ (snap_value c.in-Ok.snap) _ c.in-Ok.ensures.asked c.requires.permitted

pub answer_snap-requires-clause-snapshot : goal.answer_snap-requires-clause-snapshot
answer_snap-requires-clause-snapshot g c = λ κs lives. name_may _ (snap_value c.in-Ok.snap) (g.F.Files.state c.args.files.now) c.in-Ok.ensures.asked c.requires.snapshot

pub returns-in-Ok : goal.returns-in-Ok
returns-in-Ok g c = words_performed _ (snap_value c.in-Ok.snap) _ _ _ c.in-Ok.ensures.asked c.answer_snap.ensures

pub returns-in-Err-Refused : goal.returns-in-Err-Refused
returns-in-Err-Refused g c =
    let is = rw c.in-Err-Refused.field-0-is at c.in-Err-Refused.ensures.asked in record {
      reached = _;
      read = _;
      follows = asked_refuses (λ (w : SnapWords). run_plan w.run) _ c.in-Err-Refused.refusal _ is;
      answers = refused_writes _ _ _ _ _ _ c.refuse.ensures.writes c.refuse.ensures.wants c.refuse.ensures.quiet;
    }

pub returns-in-Err-Memory : goal.returns-in-Err-Memory
returns-in-Err-Memory g c =
    let good = rw c.in-Err-Memory.field-0-is at c.in-Err-Memory.ensures.asked in
    record { reached = None; read = _; follows = asked_wants (λ (w : SnapWords). run_plan w.run) _ _ good; answers = (refl, refl) }
