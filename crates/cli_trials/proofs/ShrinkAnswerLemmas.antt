-- From the files that were read to what `shrink` answers.
use Rattle.std.proofs.Common.{◌≡◌, ◌⊎◌, ℕ, List, [], ◌∷◌, IsTrue, refl, sym, subst, inl, inr, Option, Some, None, Result, Ok, Err}
use Rattle.std.specs.Result.{is_ok}
use Rattle.spec_processor.specs.Counters.{CanCount}
use Rattle.sv_types.specs.Policies.{Rules}
use Rattle.sv_types.specs.Schedule.{Schedule, first_events}
use Rattle.sv_types.specs.declared.status.Status.{Status}
use Rattle.spec_reference.specs.Run.{run}
use Rattle.spec_reference.specs.Start.{boot_start, start as begin}
use Rattle.policy.specs.Refusals.{Judged}
use Rattle.policy.specs.Text.{rules_of_text}
use Rattle.host_io.specs.Outside.{FilesState, SinkState, MaySaveUnder}
use Rattle.host_io.specs.declared.trouble.Trouble.{Trouble}
use Rattle.host_io.specs.declared.trouble.Trouble.TheVariants.{Memory}
use Rattle.cli_plans.specs.declared.command_words.command.DiskKind.{DiskKind}
use Rattle.cli_plans.specs.declared.refusal.Refusal.{Refusal}
use Rattle.cli_plans.specs.CommandLine.{SnapWords}
use Rattle.cli_plans.specs.Plans.{Due, Refuse, run_plan, start_with}
use Rattle.cli_plans.specs.Reading.{MayFollow, Follows}
use Rattle.cli_plans.proofs.PlanLemmas.{follows_keeps, follows_permits, may_follow}
use Rattle.secvisor_cli.specs.Ready.{Prepares}
use Rattle.secvisor_cli.specs.declared.ready.Stop.TheVariants.{Refused}
use Rattle.secvisor_cli.specs.declared.ready.Stop.TheVariants as stop
use Rattle.script_lines.specs.Tallies.{outcome_of}
use Rattle.cli_trials.specs.declared.trial.files.RunFiles.{RunFiles}
use Rattle.cli_trials.specs.declared.trial.order.Order.{Order}
use Rattle.cli_trials.specs.Trials.{end_from, end_under, schedule_of, text_schedule}
use Rattle.cli_trials.specs.declared.parts.Parts.{Parts}
use Rattle.cli_trials.specs.Orders.{order_schedule}
use Rattle.cli_trials.specs.Reading.{BeginsFrom, run_due}
use Rattle.cli_trials.specs.Writing.{Refuses}
use Rattle.cli_trials.specs.declared.shrink.shrinking.Shrunk.{Shrunk}
use Rattle.cli_trials.specs.Shrinking.{IsShrunk, IsShrunkAs, IsShrunkFrom}
use Rattle.cli_trials.specs.ShrinkAnswers.{AnswersRun, AnswersShrunk, MayAsk, Shrinks, ShrinksFiles, Wants, end_of_text}
use Rattle.secvisor_cli.proofs.ReadyLemmas.{refused_follows, wanting_follows}

-- ---- the run

start_rules : (rules : Rules) (file disk : List ℕ) → (boot_start rules file disk).rules ≡ rules
unfolding boot_start begin
start_rules rules file disk = refl

-- a run of files that were judged is one from the start that they give
shrunk_from : (files : RunFiles) (events : ℕ) (order : Order) (rules : Rules) (schedule : Schedule) (shrunk : Shrunk) → rules_of_text files.policy.now ≡ Ok rules →
    schedule_of order rules.harts ≡ Some schedule → IsShrunk files events order shrunk →
    IsShrunkAs (outcome_of (run (boot_start rules files.image.now files.disk.now) (first_events events schedule)).journal.verdict)
    (end_of_text (boot_start rules files.image.now files.disk.now) events) shrunk
shrunk_from files events order rules schedule shrunk reads scheduled it =
    let image = files.image.now in
    let disk = files.disk.now in
    let start = boot_start rules image disk in
    let judged : IsShrunkFrom (end_from start events (schedule_of order rules.harts)) (λ text. end_from start events (text_schedule text rules.harts)) shrunk =
    subst (λ (j : Judged Rules). IsShrunkFrom (end_under j image disk events (schedule_of order)) (λ text. end_under j image disk events (text_schedule text)) shrunk) reads it in
    let made : IsShrunkAs (outcome_of (run start (first_events events schedule)).journal.verdict) (λ text. end_from start events (text_schedule text rules.harts)) shrunk =
    subst (λ (s : Option Schedule). IsShrunkFrom (end_from start events s) (λ text. end_from start events (text_schedule text rules.harts)) shrunk) scheduled judged in
    subst (λ (r : Rules). IsShrunkAs (outcome_of (run start (first_events events schedule)).journal.verdict) (λ text. end_from start events (text_schedule text r.harts)) shrunk)
    (sym (start_rules rules image disk)) made

-- the bytes that are borrowed
pub record Borrows (files : RunFiles) (parts : Parts) : Type 0 where
  pub policy_is : files.policy.now ≡ parts.policy.items
  pub image_is : files.image.now ≡ parts.image.items
  pub disk_is : files.disk.now ≡ parts.disk.items

pub run_answered : (files : RunFiles) (parts : Parts) (events : ℕ) (order : Order) (rules : Rules) (shrunk : Shrunk) (name : List ℕ) (f0 f1 : FilesState) (old new : SinkState)
    (result : Result Status Trouble) → Borrows files parts → rules_of_text parts.policy.items ≡ Ok rules → schedule_of order rules.harts ≡ Some (order_schedule rules.harts parts.order) →
    IsShrunk files events order shrunk → Wants f0 f1 old new result ⊎ AnswersShrunk name shrunk f0 f1 old new result →
    Wants f0 f1 old new result
    ⊎ AnswersRun (boot_start rules parts.image.items parts.disk.items) (first_events events (order_schedule rules.harts parts.order)) events name f0 f1 old new result
run_answered files parts events order rules shrunk name f0 f1 old new result borrows reads scheduled small (inl wants) = inl wants
run_answered files parts events order rules shrunk name f0 f1 old new result borrows reads scheduled small (inr answers) =
    let schedule = order_schedule rules.harts parts.order in
    let given : rules_of_text files.policy.now ≡ Ok rules = subst (λ (text : List ℕ). rules_of_text text ≡ Ok rules) (sym borrows.policy_is) reads in
    let it = shrunk_from files events order rules schedule shrunk given scheduled small in
    let image = subst (λ (file : List ℕ). IsShrunkAs (outcome_of (run (boot_start rules file files.disk.now) (first_events events schedule)).journal.verdict)
    (end_of_text (boot_start rules file files.disk.now) events) shrunk) borrows.image_is it in
    let disk = subst (λ (disk : List ℕ). IsShrunkAs (outcome_of (run (boot_start rules parts.image.items disk) (first_events events schedule)).journal.verdict)
    (end_of_text (boot_start rules parts.image.items disk) events) shrunk) borrows.disk_is image in
    inr (record { shrunk = shrunk; small = disk; answers = answers })

-- ---- the files

pub shrunk_files : (words : SnapWords) (parts : Parts) (files read saved : FilesState) (old new : SinkState) (result : Result Status Trouble) → words.run.kind ≡ DiskKind.Block →
    (begins : BeginsFrom words.run parts files read) →
    Wants read saved old new result
    ⊎ AnswersRun (boot_start begins.rules parts.image.items parts.disk.items) (first_events words.run.events (order_schedule begins.rules.harts parts.order)) words.run.events words.out read saved
    old new result → ShrinksFiles words files saved old new result
shrunk_files words parts files read saved old new result block begins it =
    let schedule = order_schedule begins.rules.harts parts.order in
    record {
      reached = Some (run_due words.run begins.rules parts.image.items parts.disk.items schedule);
      read = read;
      follows = begins.follows;
      answers = subst (λ (kind : DiskKind). Wants read saved old new result ⊎ AnswersRun (start_with kind begins.rules parts.image.items parts.disk.items)
          (first_events words.run.events schedule) words.run.events words.out read saved old new result) (sym block) it;
    }

pub refused_files : (words : SnapWords) (files read : FilesState) (given : Refusal) (old new : SinkState) (result : Result Status Trouble) →
    Prepares (run_plan words.run) files read (Err (Refused given)) → Refuses given old new result → ShrinksFiles words files read old new result
refused_files words files read given old new result p refuses =
    record { reached = Some (Refuse given); read = read; follows = refused_follows (run_plan words.run) files read given p; answers = (refl, refuses) }

pub wants_files : (words : SnapWords) (files read : FilesState) (old : SinkState) → Prepares (run_plan words.run) files read (Err stop.Memory) → ShrinksFiles words files read old old (Err Memory)
wants_files words files read old p = record { reached = None; read = read; follows = wanting_follows (run_plan words.run) files read p; answers = (refl, refl, refl) }

-- what may be saved is the same once they were read
pub may_under : (words : SnapWords) (name : List ℕ) (files read : FilesState) (reached : Option Due) → Follows (run_plan words.run) files read reached → MaySaveUnder name files →
    MaySaveUnder name read
may_under words name files read reached follows may bytes =
    subst (λ (permits : List (List ℕ × List ℕ) → _). IsTrue (permits ((name, bytes) ∷ []))) (sym (follows_permits (run_plan words.run) files read reached follows)) (may bytes)

-- nor has a save failed more often
pub may_count : (words : SnapWords) (files read : FilesState) (reached : Option Due) → Follows (run_plan words.run) files read reached → CanCount files.save_faults → CanCount read.save_faults
may_count words files read reached follows few = subst (λ (n : ℕ). CanCount n) (sym (follows_keeps (run_plan words.run) files read reached follows).saves) few

-- ---- the words

pub may_read : (judged : Result SnapWords Refusal) (words : SnapWords) (files : FilesState) → judged ≡ Ok words → MayAsk judged files → MayFollow (run_plan words.run) files
may_read judged words files is may = (subst (λ (j : Result SnapWords Refusal). MayAsk j files) is may).0

pub may_save : (judged : Result SnapWords Refusal) (words : SnapWords) (files : FilesState) → judged ≡ Ok words → MayAsk judged files → MaySaveUnder words.out files
may_save judged words files is may = (subst (λ (j : Result SnapWords Refusal). MayAsk j files) is may).1

pub shrinks_ok : (judged : Result SnapWords Refusal) (words : SnapWords) (files saved : FilesState) (old new : SinkState) (result : Result Status Trouble) → judged ≡ Ok words →
    ShrinksFiles words files saved old new result → Shrinks judged files saved old new result
shrinks_ok judged words files saved old new result is it = subst (λ (j : Result SnapWords Refusal). Shrinks j files saved old new result) (sym is) (inr it)

pub shrinks_refused : (judged : Result SnapWords Refusal) (why : Refusal) (files : FilesState) (old new : SinkState) (result : Result Status Trouble) → judged ≡ Err why →
    Refuses why old new result → Shrinks judged files files old new result
shrinks_refused judged why files old new result is it = subst (λ (j : Result SnapWords Refusal). Shrinks j files files old new result) (sym is) (refl, it)

pub shrinks_want : (judged : Result SnapWords Refusal) (files : FilesState) (old : SinkState) → IsTrue (is_ok judged) → Shrinks judged files files old old (Err Memory)
shrinks_want (Ok words) files old good = inl (refl, refl, refl)
shrinks_want (Err why) files old good = absurd (cc good)

-- where all names may be asked for and saved under
pub may_ask : (judged : Result SnapWords Refusal) (files : FilesState) → ((asked : List (List ℕ × ℕ)) → IsTrue (files.permits asked)) →
    ((saves : List (List ℕ × List ℕ)) → IsTrue (files.permits_save saves)) → MayAsk judged files
may_ask (Err why) files all saves = tt
may_ask (Ok words) files all saves = (may_follow (run_plan words.run) files all saves, λ bytes. saves _)
