use Rattle.std.proofs.Common.{refl, None}
use Rattle.cli_plans.specs.Words.{resume_value}
use Rattle.cli_plans.proofs.PlanLemmas.{asked_goes, asked_may, asked_refuses, asked_wants}
use Rattle.secvisor_cli.proofs.TopLemmas.{refused_writes}
use Rattle.cli_snap.specs.ResumePlans.{words_plan}
use Rattle.cli_snap.proofs.resume.answer.answer.Goals as goal

pub answer_resume-requires-clause-permitted : goal.answer_resume-requires-clause-permitted
answer_resume-requires-clause-permitted g c = λ κs lives. asked_may words_plan _ (resume_value c.in-Ok.resume) _ c.in-Ok.ensures.asked c.requires.permitted

pub returns-in-Ok : goal.returns-in-Ok
returns-in-Ok g c =
    let it = c.answer_resume.ensures in
    record { reached = it.reached; read = it.read; follows = asked_goes words_plan _ (resume_value c.in-Ok.resume) _ _ _ c.in-Ok.ensures.asked it.follows; answers = it.answers }

pub returns-in-Err-Refused : goal.returns-in-Err-Refused
returns-in-Err-Refused g c =
    let is = rw c.in-Err-Refused.field-0-is at c.in-Err-Refused.ensures.asked in record {
      reached = _;
      read = _;
      follows = asked_refuses words_plan _ c.in-Err-Refused.refusal _ is;
      answers = refused_writes _ _ _ _ _ _ c.refuse.ensures.writes c.refuse.ensures.wants c.refuse.ensures.quiet;
    }

pub returns-in-Err-Memory : goal.returns-in-Err-Memory
returns-in-Err-Memory g c =
    let good = rw c.in-Err-Memory.field-0-is at c.in-Err-Memory.ensures.asked in
    record { reached = None; read = _; follows = asked_wants words_plan _ _ good; answers = (refl, refl) }
