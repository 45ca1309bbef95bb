use Rattle.std.proofs.Common.{subst, sym, Ok, Err}
use Rattle.cli_plans.specs.CommandLine.{RunWords}
use Rattle.cli_plans.specs.Plans.{run_plan}
use Rattle.cli_plans.specs.Reading.{MayFollow}
use Rattle.cli_plans.specs.Words.{sweep_value}
use Rattle.cli_trials.specs.Reading.{PartsRead}
use Rattle.secvisor_cli.specs.declared.ready.Stop.TheVariants.{Refused, Memory}
use Rattle.cli_trials.proofs.AnswerLemmas.{swept_files, refused_files, wants_files}
use Rattle.cli_trials.proofs.sweep.answer.sweep_files.Goals as goal

pub read_parts-requires-clause-permitted : goal.read_parts-requires-clause-permitted
read_parts-requires-clause-permitted g c = λ κs lives. subst (λ (w : RunWords). MayFollow (run_plan w) (g.F.Files.state c.args.files.now)) (sym c.first_run-first.ensures) c.requires.permitted

pub returns-in-Ok : goal.returns-in-Ok
returns-in-Ok g c =
    let begins = subst (λ (w : RunWords). PartsRead w (g.F.Files.state c.args.files.now) (g.F.Files.state c.read_parts.new.files) (Ok c.in-Ok.parts)) c.first_run-first.ensures c.in-Ok.ensures in
    swept_files (sweep_value c.args.asked.now) c.in-Ok.parts _ _ _ _ _ begins (c.sweep_parts.ensures begins.rules begins.reads)

pub returns-in-Err-Refused : goal.returns-in-Err-Refused
returns-in-Err-Refused g c =
    let p = rw c.in-Err-Refused.field-0-is at c.in-Err-Refused.ensures in
    let q = subst (λ (w : RunWords). PartsRead w (g.F.Files.state c.args.files.now) (g.F.Files.state c.read_parts.new.files) (Err (Refused c.in-Err-Refused.refusal))) c.first_run-first.ensures p in
    refused_files (sweep_value c.args.asked.now) _ _ c.in-Err-Refused.refusal _ _ _ q c.refuse.ensures

pub returns-in-Err-Memory : goal.returns-in-Err-Memory
returns-in-Err-Memory g c =
    let p = rw c.in-Err-Memory.field-0-is at c.in-Err-Memory.ensures in
    let q = subst (λ (w : RunWords). PartsRead w (g.F.Files.state c.args.files.now) (g.F.Files.state c.read_parts.new.files) (Err Memory)) c.first_run-first.ensures p in
    wants_files (sweep_value c.args.asked.now) _ _ _ q
