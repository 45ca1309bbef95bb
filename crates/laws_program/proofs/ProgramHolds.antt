-- What the program printed and saved is that of a guarded run.
use Rattle.std.proofs.Common.{◌≡◌, ℕ, inl, inr, List, refl, sym, ◌∙◌, ap, subst, Bool, true, false}
use Rattle.std.specs.Prelude.{Option, Some, None, Result, Ok, Err, IsErrOf, IsTrue}
use Rattle.sv_types.specs.Output.{run_status}
use Rattle.sv_types.specs.declared.event.Event.{Event}
use Rattle.sv_types.specs.declared.status.Status.{Status}
use Rattle.spec_reference.specs.Report.{output}
use Rattle.spec_reference.specs.Run.{run}
use Rattle.spec_reference.specs.States.{State}
use Rattle.host_io.specs.Outside.{FilesState}
use Rattle.host_io.specs.Endings.{status_of_end}
use Rattle.host_io.specs.declared.trouble.Trouble.{Trouble}
use Rattle.host_io.specs.declared.trouble.Trouble.TheVariants.{Write, Memory}
use Rattle.cli_plans.specs.Refusals.{refusal_line, refusal_status}
use Rattle.cli_plans.specs.Plans.{Due, Refuse, RunFrom, Make, Plan, Saving, Exactly, live_plan, snap_plan}
use Rattle.cli_plans.specs.Reading.{Follows, Saved}
use Rattle.cli_plans.specs.declared.refusal.Refusal.{Refusal}
use Rattle.secvisor_cli.specs.Answers.{Outside, outside, is_answer, Writes, WritesAndSaves, MeetsSavesAfter, MeetsReached}
use Rattle.cli_live.specs.LiveAnswers.{LiveOutside, live_outside, SavesScript, after_reading, AnswersLiveReached}
use Rattle.cli_live.specs.LiveReady.{out_of}
use Rattle.cli_plans.specs.CommandLine.{LiveWords, SnapWords}
use Rattle.cli_snap.specs.SnapAnswers.{saving_of, SavesSnapshot, AnswersSnapReached}
use Rattle.cli_snap.specs.SnapReady.{out_of as snap_out}
use Rattle.laws_guarantee.specs.Guarded.{IsGuarded}
use Rattle.laws_guarantee.proofs.GuardedHolds.{guarded_law}
use Rattle.laws_program.specs.Starts.{IsMeasuredStart}
use Rattle.laws_program.specs.ResumeLaw.{IsResumedStart}
use Rattle.laws_program.specs.ProgramLaw.{IsRunStatus, SavedIfAsked, AsksFor, GuardedRun, GuardedLive, GuardedSnap, ProgramLaw}
use Rattle.laws_program.proofs.PlanWalks.{DueRuns, Runs, followed}
use Rattle.laws_program.proofs.PlansRun.{run_runs, asked_runs}
use Rattle.laws_program.proofs.ResumesRun.{resume_due, resume_law}
use Rattle.laws_program.proofs.Guaranteed.{measured_reached}

-- ---- statuses

answered : (answer : Status) → IsRunStatus answer → IsTrue (is_answer answer)
answered Status.Done good = refl
answered Status.Stopped good = refl
answered Status.Usage good = absurd good
answered Status.Refused good = absurd good
answered Status.ReadFault good = absurd good
answered Status.WriteFault good = absurd good
answered Status.Memory good = absurd good
answered Status.Ended good = refl

no_refusal : (refusal : Refusal) → IsRunStatus (refusal_status refusal) → ⊥
no_refusal Refusal.NoCommand good = good
no_refusal (Refusal.OutOfRange word) good = good
no_refusal (Refusal.ReadFault part) good = good
no_refusal (Refusal.File fault) good = good
no_refusal (Refusal.Measure found wanted) good = good
no_refusal (Refusal.Entry entry) good = good

ended_well : (answer : Status) (result : Result Status Trouble) → IsRunStatus answer → answer ≡ status_of_end result → result ≡ Ok answer
ended_well answer (Ok status) good e = ap Ok (sym e)
ended_well answer (Err Write) good e = absurd (subst IsRunStatus e good)
ended_well answer (Err Memory) good e = absurd (subst IsRunStatus e good)

no_error : (answer : Status) (result : Result Status Trouble) → result ≡ Ok answer → IsErrOf result Memory → ⊥
no_error answer result well e = cc

-- ---- starts

measured_guarded : (start : State) → IsMeasuredStart start → (done : List Event) → IsGuarded start (run start done)
measured_guarded start k done = guarded_law start (run start done) (measured_reached start done k)

resumed_guarded : (start : State) → IsResumedStart start → (done : List Event) → IsGuarded start (run start done)
resumed_guarded start k done = guarded_law start (run start done) (resume_law.reached start done k)

live_runs : (words : Result LiveWords Refusal) → Runs ⊥ IsMeasuredStart (live_plan words)
live_runs (Err refusal) = tt
live_runs (Ok words) = run_runs words.run

snap_runs : (words : Result SnapWords Refusal) → Runs ⊥ IsMeasuredStart (snap_plan words)
snap_runs (Err refusal) = tt
snap_runs (Ok words) = run_runs words.run

measured_for : (plan : Plan) (old read : FilesState) (start : State) (events : List Event) (save : Option (List ℕ)) → Runs ⊥ IsMeasuredStart plan
    → Follows plan old read (Some (RunFrom start events save)) → AsksFor IsMeasuredStart plan old start events
measured_for plan old read start events save runs f =
    let begun = followed ⊥ IsMeasuredStart plan old read (RunFrom start events save) runs f in
    record { save = save; read = read; asked = f; begun = begun; guarded = measured_guarded start begun }

-- ---- runs

saved_by : (x : Option Saving) (bytes : List ℕ) (old new : Outside) (answer : Status) → IsTrue (is_answer answer) → MeetsSavesAfter x bytes old new answer
    → SavedIfAsked x old.files new.files
saved_by None bytes old new answer t k = k.0
saved_by (Some saving) bytes old new answer t k = k.saved t

by_due : (begins : State → Type 0) (plan : Plan) (old new : Outside) (read : FilesState) (answer : Status) (reached : Option Due)
    → ((due : Due) → Follows plan old.files read (Some due) → DueRuns ⊥ begins due)
    → ((start : State) → begins start → (done : List Event) → IsGuarded start (run start done))
    → IsRunStatus answer → Follows plan old.files read reached → MeetsReached reached (outside read old.sink old.bench) new answer
    → GuardedRun begins plan old new answer
by_due begins plan old new read answer None walk guard good f meets = absurd (subst IsRunStatus meets.0 good)
by_due begins plan old new read answer (Some due) walk guard good f (inr vain) = absurd (subst IsRunStatus vain.1 good)
by_due begins plan old new read answer (Some (Refuse refusal)) walk guard good f (inl (free, meets)) =
    absurd (no_refusal refusal (subst IsRunStatus (meets.status (answered answer good)) good))
by_due begins plan old new read answer (Some (RunFrom start events save)) walk guard good f (inl (free, meets)) =
    let begun = walk (RunFrom start events save) f in
    record {
      start = start;
      events = events;
      ran = record { save = save; read = read; asked = f; begun = begun; guarded = guard start begun };
      printed = meets.whole (answered answer good);
      status = meets.status (answered answer good);
      saved = saved_by _ (output (run start events)) (outside read old.sink old.bench) new answer (answered answer good) meets.saves;
    }
by_due begins plan old new read answer (Some (Make name rules line)) walk guard good f (inl meets) = absurd (walk (Make name rules line) f)

-- ---- what was written, and saved after it

refused_writes : (answer : Status) (refusal : Refusal) (old new : Outside) (result : Result Status Trouble) → IsRunStatus answer → result ≡ Ok answer
    → WritesAndSaves (Refuse refusal) old new result → ⊥
refused_writes answer refusal old new result good well k = by_written k.written (sym k.saves.1 ∙ well) k.writes
  where
    by_written : (written : Result Status Trouble) → written ≡ Ok answer → Writes (refusal_status refusal) (refusal_line refusal) old.sink new.sink written → ⊥
    by_written (Err trouble) e w = cc
    by_written (Ok status) e w =
        let same : status ≡ answer = cc in no_refusal refusal (subst IsRunStatus (sym same ∙ w.status) good)

-- ---- `live`

read_well : (failed : Bool) (saved : Result Status Trouble) (answer : Status) → IsRunStatus answer → Ok answer ≡ after_reading failed saved → saved ≡ Ok answer
read_well failed (Err trouble) answer good e = absurd (cc)
read_well true (Ok status) answer good e = let same : answer ≡ Status.ReadFault = cc in absurd (subst IsRunStatus same good)
read_well false (Ok status) answer good e = sym e

live_by_written : (words : Result LiveWords Refusal) (old new : LiveOutside) (read : FilesState) (answer : Status) (start : State) (events journal : List Event)
    (written saved : Result Status Trouble) → (ran : AsksFor IsMeasuredStart (live_plan words) old.files start events) → ran.read ≡ read → saved ≡ Ok answer
    → Writes (run_status (run start journal).journal.verdict) (output (run start journal)) old.sink new.sink written
    → SavesScript start.rules.harts journal (out_of words) read new.files written saved → GuardedLive words old new answer
live_by_written words old new read answer start events journal (Err trouble) saved ran same well w k = let no = k.1 in absurd (cc)
live_by_written words old new read answer start events journal (Ok status) saved ran same well w (text, script, inr broke) = let no = broke.1 in absurd (cc)
live_by_written words old new read answer start events journal (Ok status) saved ran same well w (text, script, inl kept) =
    let its : answer ≡ status = by_two answer status saved well kept.1 in
    record {
      start = start;
      events = events;
      ran = ran;
      journal = journal;
      printed = w.whole;
      status = its ∙ w.status;
      text = text;
      script = script;
      saved = subst (λ (x : FilesState). Saved (record { name = out_of words; content = Exactly text }) x new.files) (sym same) kept.0;
    }
  where
    by_two : (a b : Status) (x : Result Status Trouble) → x ≡ Ok a → x ≡ Ok b → a ≡ b
    by_two a b x s t = cc

live_by : (words : Result LiveWords Refusal) (old new : LiveOutside) (read : FilesState) (answer : Status) (result : Result Status Trouble) (reached : Option Due)
    → IsRunStatus answer → result ≡ Ok answer → Follows (live_plan words) old.files read reached
    → AnswersLiveReached (out_of words) reached (live_outside read old.sink old.keys old.bench) new result → GuardedLive words old new answer
unfolding measured_for
live_by words old new read answer result None good well f k = absurd (no_error answer result well k.0)
live_by words old new read answer result (Some (Refuse refusal)) good well f k =
    absurd (refused_writes answer refusal (outside read old.sink old.bench) (outside new.files new.sink new.bench) result good well k.0)
live_by words old new read answer result (Some (RunFrom start events save)) good well f (inr vain) = absurd (cc (well, vain.2))
live_by words old new read answer result (Some (RunFrom start events save)) good well f (inl (free, k)) =
    live_by_written words old new read answer start events k.journal k.written k.saved
    (measured_for (live_plan words) old.files read start events save (live_runs words) f) refl
    (read_well k.ended.read_failed k.saved answer good (sym well ∙ k.status)) k.writes k.saves
live_by words old new read answer result (Some (Make name rules line)) good well f k = absurd k

-- ---- `snap`

snap_by_written : (words : Result SnapWords Refusal) (old new : Outside) (read : FilesState) (start : State) (events : List Event) (written result : Result Status Trouble)
    → (ran : AsksFor IsMeasuredStart (snap_plan words) old.files start events) → ran.read ≡ read → result ≡ Ok Status.Done
    → Writes Status.Done (run start events).journal.printed old.sink new.sink written
    → SavesSnapshot start events (snap_out words) read new.files written result → GuardedSnap words old new
snap_by_written words old new read start events (Err trouble) result ran same well w k = let no = k.0 in absurd (cc)
snap_by_written words old new read start events (Ok status) result ran same well w (inl none) = let no = none.0 in absurd (cc)
snap_by_written words old new read start events (Ok status) result ran same well w (inr (s, its, inr broke)) = let no = broke.1 in absurd (cc)
snap_by_written words old new read start events (Ok status) result ran same well w (inr (s, its, inl kept)) = record {
  start = start;
  events = events;
  ran = ran;
  printed = w.whole;
  snapshot = s;
  its = its;
  saved = subst (λ (x : FilesState). Saved (saving_of (snap_out words) s) x new.files) (sym same) kept.0;
}

snap_by : (words : Result SnapWords Refusal) (old new : Outside) (read : FilesState) (result : Result Status Trouble) (reached : Option Due)
    → result ≡ Ok Status.Done → Follows (snap_plan words) old.files read reached
    → AnswersSnapReached (snap_out words) reached (outside read old.sink old.bench) new result → GuardedSnap words old new
unfolding measured_for
snap_by words old new read result None well f k = absurd (no_error Status.Done result well k.0)
snap_by words old new read result (Some (Refuse refusal)) well f k =
    absurd (refused_writes Status.Done refusal (outside read old.sink old.bench) new result tt well k)
snap_by words old new read result (Some (RunFrom start events save)) well f (inr vain) = absurd (cc (well, vain.1))
snap_by words old new read result (Some (RunFrom start events save)) well f (inl (free, k)) =
    snap_by_written words old new read start events k.2.written result
    (measured_for (snap_plan words) old.files read start events save (snap_runs words) f) refl well k.2.writes k.2.saves
snap_by words old new read result (Some (Make name rules line)) well f k = absurd k

-- ---- the law

pub program_law : ProgramLaw
program_law = record {
  runs = λ asked old new answer asks good k.
      by_due IsMeasuredStart _ old new k.read answer k.reached (λ due f. followed ⊥ IsMeasuredStart _ old.files k.read due (asked_runs asked asks) f)
      measured_guarded good k.follows k.meets;
  resumes = λ asked old new answer holds good k.
      by_due IsResumedStart _ old new k.read answer k.reached (λ due f. resume_due asked old.files k.read due holds f) resumed_guarded good k.follows k.meets;
  lives = λ asked old new answer good k.
      live_by asked old new k.performs.read answer k.result k.performs.reached good (ended_well answer k.result good k.status) k.performs.follows k.performs.answers;
  snaps = λ asked old new k.
      snap_by asked old new k.performs.read k.result k.performs.reached (ended_well Status.Done k.result tt k.status) k.performs.follows k.performs.answers;
}
