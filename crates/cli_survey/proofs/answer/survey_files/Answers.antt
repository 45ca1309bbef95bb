use Rattle.cli_plans.specs.Words.{run_value}
use Rattle.std.proofs.Common.{refl, None}
use Rattle.secvisor_cli.proofs.ReadyLemmas.{refused_follows, wanting_follows}
use Rattle.secvisor_cli.proofs.TopLemmas.{refused_writes}
use Rattle.cli_survey.proofs.AnswerLemmas.{begins_at, ready_performs}
use Rattle.cli_survey.proofs.answer.survey_files.Goals as goal

pub survey_on_bench-requires-clause-fresh : goal.survey_on_bench-requires-clause-fresh
survey_on_bench-requires-clause-fresh g c = c.in-Ok.ensures.fresh

pub survey_on_bench-requires-clause-starts : goal.survey_on_bench-requires-clause-starts
survey_on_bench-requires-clause-starts g c = begins_at (run_value c.args.asked.now) _ _ c.in-Ok.ready c.in-Ok.ensures

pub returns-in-Ok : goal.returns-in-Ok
returns-in-Ok g c = ready_performs (run_value c.args.asked.now) _ _ _ _ _ _ c.in-Ok.ready c.survey_on_bench.result c.in-Ok.ensures c.survey_on_bench.ensures

pub returns-in-Err-Refused : goal.returns-in-Err-Refused
returns-in-Err-Refused g c =
    let p = rw c.in-Err-Refused.field-0-is at c.in-Err-Refused.ensures in record {
      reached = _;
      read = _;
      follows = refused_follows _ _ _ c.in-Err-Refused.refusal p;
      answers = refused_writes _ _ _ _ _ _ c.refuse.ensures.writes c.refuse.ensures.wants c.refuse.ensures.quiet;
    }

pub returns-in-Err-Memory : goal.returns-in-Err-Memory
returns-in-Err-Memory g c =
    let p = rw c.in-Err-Memory.field-0-is at c.in-Err-Memory.ensures in
    record { reached = None; read = _; follows = wanting_follows _ _ _ p; answers = (refl, refl) }
