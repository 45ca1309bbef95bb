-- What follows of an answer of `sweep`.
use Rattle.std.proofs.Common.{◌≡◌, ◌≢◌, ◌≤◌, ◌==◌, ℕ, List, [], ◌∷◌, length, map, Bool, IsTrue, true, false, refl, sym, ◌∙◌, ap, ap₂, subst}
use Rattle.std.proofs.Common.{inl, inr, Option, Some, None, Result, Ok, Err, if◌then◌else◌}
use Rattle.std.specs.Result.{is_ok}
use Rattle.std.proofs.lemmas.Option.{same_Some}
use Rattle.sv_types.specs.ApprovedPages.{numbers_from}
use Rattle.sv_types.specs.Policies.{Rules}
use Rattle.sv_types.specs.declared.status.Status.{Status}
use Rattle.spec_reference.specs.Start.{boot_start}
use Rattle.policy.specs.Refusals.{Judged}
use Rattle.policy.specs.Text.{rules_of_text}
use Rattle.host_io.specs.Endings.{status_of_end}
use Rattle.host_io.specs.Outside.{FilesState, SinkState}
use Rattle.host_io.specs.declared.trouble.Trouble.{Trouble}
use Rattle.host_io.specs.declared.trouble.Trouble.TheVariants.{Memory}
use Rattle.cli_plans.specs.declared.refusal.Refusal.{Refusal}
use Rattle.cli_plans.specs.declared.words.DrawnOrder.{DrawnOrder}
use Rattle.cli_plans.specs.CommandLine.{SweepWords, first_run, sweep_judged}
use Rattle.cli_plans.specs.Plans.{Due, Refuse, RunFrom, Make, run_plan}
use Rattle.cli_plans.specs.Reading.{Follows, MayFollow}
use Rattle.cli_plans.specs.Refusals.{refusal_line, refusal_status}
use Rattle.cli_plans.proofs.FoundFaults.{run_found_faults}
use Rattle.cli_plans.proofs.PlanLemmas.{HasFault, Keeps, follows_keeps, may_follow, keeps_same}
use Rattle.cli_plans.proofs.WordLemmas.{NoReadFault, sweep_no_read_fault}
use Rattle.secvisor_cli.specs.Ready.{Prepares}
use Rattle.secvisor_cli.specs.declared.ready.Stop.TheVariants.{Refused}
use Rattle.secvisor_cli.specs.declared.ready.Stop.TheVariants as stop
use Rattle.script_lines.specs.declared.tally.outcome.Outcome.{Outcome}
use Rattle.script_lines.specs.declared.tally.tally.Tally.{Tally}
use Rattle.script_lines.specs.declared.tally.outcome.Outcome.TheVariants.{Ended}
use Rattle.script_lines.specs.TallyLines.{stops_of, sweep_status, sweep_text}
use Rattle.script_lines.specs.Tallies.{tallies_of, tally_in}
use Rattle.cli_trials.specs.declared.sweep.sweeping.Sweep.{Sweep}
use Rattle.cli_trials.specs.declared.parts.Parts.{Parts}
use Rattle.cli_trials.specs.Orders.{order_schedule}
use Rattle.cli_trials.specs.Reading.{BeginsFrom, run_due}
use Rattle.cli_trials.specs.Writing.{Refuses}
use Rattle.cli_trials.proofs.WritingLemmas.{refused_fault, same_rises, written_no_fault, written_rises}
use Rattle.cli_trials.specs.Sweeps.{IsSwept, end_at, outcome_at, outcome_under}
use Rattle.cli_trials.specs.SweepAnswers.{AnswersDue, AnswersReached, MayAsk, Sweeps, SweepsFiles, entries_due, sweep_plan}
use Rattle.secvisor_cli.proofs.TopLemmas.{wants_no_fault}
use Rattle.secvisor_cli.proofs.ReadyLemmas.{refused_follows, wanting_follows}

-- ---- the runs

-- a run of the files is a run from the start that they give
end_same : (sweep : Sweep) (words : SweepWords) (rules : Rules) (number : ℕ) → words.order ≡ sweep.order → words.events ≡ sweep.events → rules_of_text sweep.files.policy.now ≡ Ok rules →
    outcome_at sweep number ≡ Some (end_at words.events words.order (boot_start rules sweep.files.image.now sweep.files.disk.now) number)
end_same sweep words rules number order few reads =
    let start = boot_start rules sweep.files.image.now sweep.files.disk.now in
    ap (λ (j : Judged Rules). outcome_under j sweep number) reads
    ∙ ap (λ (n : ℕ). Some (end_at n sweep.order start number)) (sym few)
    ∙ ap (λ (o : DrawnOrder). Some (end_at words.events o start number)) (sym order)

-- the bytes that a sweep borrows
pub record Borrows (sweep : Sweep) (text file disk : List ℕ) : Type 0 where
  pub text_is : sweep.files.policy.now ≡ text
  pub file_is : sweep.files.image.now ≡ file
  pub disk_is : sweep.files.disk.now ≡ disk

-- outcomes that are there are these
outcomes_same : (found : ℕ → Option Outcome) (given : ℕ → Outcome) (numbers : List ℕ) (outcomes : List Outcome) → ((number : ℕ) → found number ≡ Some (given number)) →
    map found numbers ≡ map Some outcomes → outcomes ≡ map given numbers
outcomes_same found given [] [] each is = refl
outcomes_same found given (number ∷ numbers) (outcome ∷ outcomes) each is =
    let head : found number ≡ Some outcome = cc is in
    let tail : map found numbers ≡ map Some outcomes = cc is in
    let first : outcome ≡ given number = same_Some outcome (given number) (sym head ∙ each number) in
    ap₂ (λ (o : Outcome) (os : List Outcome). o ∷ os) first (outcomes_same found given numbers outcomes each tail)
outcomes_same found given _ _ each is = cc is

pub entries_same : (sweep : Sweep) (words : SweepWords) (rules : Rules) (text file disk : List ℕ) (entries : List (Outcome × Tally)) → words.order ≡ sweep.order → words.events ≡ sweep.events →
    Borrows sweep text file disk → rules_of_text text ≡ Ok rules → IsSwept sweep words.first words.count entries → entries ≡ entries_due words (boot_start rules file disk)
entries_same sweep words rules text file disk entries order few borrows given swept =
    let reads : rules_of_text sweep.files.policy.now ≡ Ok rules = ap rules_of_text borrows.text_is ∙ given in
    let there : entries_due words (boot_start rules sweep.files.image.now sweep.files.disk.now) ≡ entries_due words (boot_start rules file disk) =
    ap₂ (λ (f d : List ℕ). entries_due words (boot_start rules f d)) borrows.file_is borrows.disk_is in
    swept.entries_are
    ∙ ap (tallies_of words.first)
    (outcomes_same (outcome_at sweep) (end_at words.events words.order (boot_start rules sweep.files.image.now sweep.files.disk.now)) (numbers_from words.first words.count) swept.outcomes
    (λ number. end_same sweep words rules number order few reads) swept.each)
    ∙ there

-- ---- from what was read to the answer

abbrev due_of : SweepWords → Rules → Parts → Due
due_of words rules parts = run_due (first_run words) rules parts.image.items parts.disk.items (order_schedule rules.harts parts.order)

pub swept_files : (words : SweepWords) (parts : Parts) (files read : FilesState) (old new : SinkState) (result : Result Status Trouble) → (begins : BeginsFrom (first_run words) parts files read) →
    AnswersDue words (due_of words begins.rules parts) old new result → SweepsFiles words files read old new result
swept_files words parts files read old new result begins ends = record { reached = Some (due_of words begins.rules parts); follows = begins.follows; answers = ends }

pub refused_files : (words : SweepWords) (files read : FilesState) (given : Refusal) (old new : SinkState) (result : Result Status Trouble) →
    Prepares (run_plan (first_run words)) files read (Err (Refused given)) →
    Refuses given old new result → SweepsFiles words files read old new result
refused_files words files read given old new result p refuses =
    record { reached = Some (Refuse given); follows = refused_follows (run_plan (first_run words)) files read given p; answers = refuses }

pub wants_files : (words : SweepWords) (files read : FilesState) (old : SinkState) → Prepares (run_plan (first_run words)) files read (Err stop.Memory) →
    SweepsFiles words files read old old (Err Memory)
wants_files words files read old p = record { reached = None; follows = wanting_follows (run_plan (first_run words)) files read p; answers = (refl, refl) }

-- ---- the words

pub may_ok : (judged : Result SweepWords Refusal) (words : SweepWords) (files : FilesState) → judged ≡ Ok words → MayAsk judged files → MayFollow (run_plan (first_run words)) files
may_ok judged words files is may = subst (λ (j : Result SweepWords Refusal). MayAsk j files) is may

pub sweeps_ok : (judged : Result SweepWords Refusal) (words : SweepWords) (files read : FilesState) (old new : SinkState) (result : Result Status Trouble) → judged ≡ Ok words →
    SweepsFiles words files read old new result → Sweeps judged files read old new result
sweeps_ok judged words files read old new result is it = subst (λ (j : Result SweepWords Refusal). Sweeps j files read old new result) (sym is) (inr it)

pub sweeps_refused : (judged : Result SweepWords Refusal) (why : Refusal) (files : FilesState) (old new : SinkState) (result : Result Status Trouble) → judged ≡ Err why →
    Refuses why old new result → Sweeps judged files files old new result
sweeps_refused judged why files old new result is it = subst (λ (j : Result SweepWords Refusal). Sweeps j files files old new result) (sym is) (refl, it)

pub sweeps_want : (judged : Result SweepWords Refusal) (files : FilesState) (old : SinkState) → IsTrue (is_ok judged) → Sweeps judged files files old old (Err Memory)
sweeps_want (Ok words) files old good = inl (refl, refl, refl)
sweeps_want (Err why) files old good = absurd (cc good)

-- ---- what becomes of the files and the sink

pub keeps_files : (judged : Result SweepWords Refusal) (files read : FilesState) (old new : SinkState) (result : Result Status Trouble) → Sweeps judged files read old new result → Keeps files read
keeps_files (Err why) files read old new result it = keeps_same files read it.0
keeps_files (Ok words) files read old new result (inl wants) = keeps_same files read wants.1
keeps_files (Ok words) files read old new result (inr it) = follows_keeps (run_plan (first_run words)) files read it.reached it.follows

pub unread : (judged : Result SweepWords Refusal) (files read : FilesState) (old new : SinkState) (result : Result Status Trouble) → is_ok judged ≡ false →
    Sweeps judged files read old new result → read ≡ files
unread (Err why) files read old new result bad it = it.0
unread (Ok words) files read old new result bad it = cc bad

reached_writes : (words : SweepWords) (reached : Option Due) (old new : SinkState) (result : Result Status Trouble) → AnswersReached words reached old new result → old.faults ≤ new.faults
reached_writes words None old new result it = same_rises old new it.1
reached_writes words (Some (Refuse refusal)) old new result it = written_rises (refusal_status refusal) (refusal_line refusal) old new result it.writes
reached_writes words (Some (RunFrom start events save)) old new result it = written_rises _ _ old new result it
reached_writes words (Some (Make name rules line)) old new result it = absurd it

pub writes : (judged : Result SweepWords Refusal) (files read : FilesState) (old new : SinkState) (result : Result Status Trouble) → Sweeps judged files read old new result → old.faults ≤ new.faults
writes (Err why) files read old new result it = written_rises (refusal_status why) (refusal_line why) old new result it.1.writes
writes (Ok words) files read old new result (inl wants) = same_rises old new wants.2
writes (Ok words) files read old new result (inr it) = reached_writes words it.reached old new result it.answers

-- ---- a read fault

no_fault_by : (none_stopped none_ended : Bool) → (if none_stopped then (if none_ended then Status.Done else Status.Ended) else Status.Stopped) ≢ Status.ReadFault
no_fault_by true true = λ is. cc is
no_fault_by true false = λ is. cc is
no_fault_by false none_ended = λ is. cc is

swept_no_fault : (entries : List (Outcome × Tally)) → sweep_status entries ≢ Status.ReadFault
swept_no_fault entries = no_fault_by (length (stops_of entries) == 0) ((tally_in Ended entries).runs == 0)

reached_fault : (words : SweepWords) (reached : Option Due) (files read : FilesState) (old new : SinkState) (result : Result Status Trouble) → Follows (run_plan (first_run words)) files read reached →
    AnswersReached words reached old new result → status_of_end result ≡ Status.ReadFault → HasFault (run_plan (first_run words)) files read
reached_fault words None files read old new result follows it is = absurd (wants_no_fault result it.0 is)
reached_fault words (Some (Refuse refusal)) files read old new result follows it is =
    refused_fault (run_plan (first_run words)) refusal files read old new result (run_found_faults (first_run words)) follows it.writes is
reached_fault words (Some (RunFrom start events save)) files read old new result follows it is =
    absurd (written_no_fault (sweep_status (entries_due words start)) (sweep_text (entries_due words start)) old new result (swept_no_fault (entries_due words start)) it is)
reached_fault words (Some (Make name rules line)) files read old new result follows it is = absurd it

judged_fault : (judged : Result SweepWords Refusal) (files read : FilesState) (old new : SinkState) (result : Result Status Trouble) → NoReadFault judged → Sweeps judged files read old new result →
    status_of_end result ≡ Status.ReadFault → HasFault (sweep_plan judged) files read
judged_fault (Err why) files read old new result never it is = absurd (written_no_fault (refusal_status why) (refusal_line why) old new result never it.1.writes is)
judged_fault (Ok words) files read old new result never (inl wants) is = absurd (wants_no_fault result wants.0 is)
judged_fault (Ok words) files read old new result never (inr it) is = reached_fault words it.reached files read old new result it.follows it.answers is

pub sweep_fault : (words : List (List ℕ)) (files read : FilesState) (old new : SinkState) (result : Result Status Trouble) → Sweeps (sweep_judged words) files read old new result →
    status_of_end result ≡ Status.ReadFault → HasFault (sweep_plan (sweep_judged words)) files read
sweep_fault words files read old new result it is = judged_fault (sweep_judged words) files read old new result (sweep_no_read_fault words) it is

-- where all names may be asked for
pub may_ask : (judged : Result SweepWords Refusal) (files : FilesState) → ((asked : List (List ℕ × ℕ)) → IsTrue (files.permits asked)) →
    ((saves : List (List ℕ × List ℕ)) → IsTrue (files.permits_save saves)) → MayAsk judged files
may_ask (Err why) files all saves = tt
may_ask (Ok words) files all saves = may_follow (run_plan (first_run words)) files all saves
