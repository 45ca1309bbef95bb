-- From what `snap` performed to each of its clauses.
use Rattle.std.proofs.Common.{◌≡◌, ◌≢◌, ◌≤◌, ℕ, List, [], false, ◌∙◌, sym, ap, arith, inl, inr, Option, Some, None, Result, Ok, Err}
use Rattle.std.specs.Result.{is_ok}
use Rattle.sv_types.specs.declared.event.Event.{Event}
use Rattle.sv_types.specs.declared.status.Status.{Status}
use Rattle.spec_reference.specs.Run.{run}
use Rattle.spec_reference.specs.States.{State}
use Rattle.host_io.specs.Outside.{FilesState, SinkState}
use Rattle.secvisor_cli.specs.Answers.{Outside, outside, Writes}
use Rattle.host_io.specs.Endings.{status_of_end}
use Rattle.cli_plans.specs.Plans.{Due, Refuse, RunFrom, Make, Plan, run_plan, snap_plan}
use Rattle.cli_plans.specs.Reading.{Follows}
use Rattle.cli_plans.specs.declared.refusal.Refusal.{Refusal}
use Rattle.host_io.specs.declared.trouble.Trouble.{Trouble}
use Rattle.host_io.specs.declared.trouble.Trouble.TheVariants.{Write, Memory}
use Rattle.cli_plans.proofs.PlanLemmas.{asked_unread, HasFault, HasFoundFaults, follows_keeps}
use Rattle.secvisor_cli.proofs.SaveLemmas.{changes, ChangesOut, changes_none, exact_saving, writes_faults}
use Rattle.cli_plans.proofs.FoundFaults.{asked_found_faults, run_found_faults}
use Rattle.secvisor_cli.proofs.TopLemmas.{EffectOut, changes_vain, effect_out, refused_fault, wants_no_fault}
use Rattle.cli_plans.proofs.WordLemmas.{snap_no_read_fault}
use Rattle.cli_snap.specs.SnapAnswers.{saving_of, SavesMade, SavesSnapshot, RunsSnap, AnswersSnapReached, PerformsSnap}
use Rattle.cli_plans.specs.CommandLine.{SnapWords, snap_judged}
use Rattle.cli_snap.specs.SnapReady.{out_of}

-- ---- the sink

reached_writes : (name : List ℕ) (reached : Option Due) (old new : Outside) (result : Result Status Trouble) → AnswersSnapReached name reached old new result → old.sink.faults ≤ new.sink.faults
reached_writes name None old new result a = let same : new.sink.faults ≡ old.sink.faults = ap (λ (o : Outside). o.sink.faults) a.1 in omega arith
reached_writes name (Some (Refuse refusal)) old new result a = writes_faults _ _ old.sink new.sink a.written a.writes
reached_writes name (Some (RunFrom start events save)) old new result (inl a) = writes_faults _ _ old.sink new.sink a.1.2.written a.1.2.writes
reached_writes name (Some (RunFrom start events save)) old new result (inr a) =
    let same : new.sink.faults ≡ old.sink.faults = ap (λ (k : SinkState). k.faults) a.0.sink in omega arith
reached_writes name (Some (Make out rules line)) old new result a = absurd a

pub snap_writes : (words : Result SnapWords Refusal) (old new : Outside) (result : Result Status Trouble) → PerformsSnap words old new result → old.sink.faults ≤ new.sink.faults
snap_writes words old new result p = reached_writes (out_of words) p.reached (outside p.read old.sink old.bench) new result p.answers

-- ---- the files

made_changes : (start : State) (events : List Event) (name : List ℕ) (old new : FilesState) (status : Status) (saved : Result Status Trouble) →
    SavesMade start events name old new status saved → ChangesOut name old new
made_changes start events name old new status saved (inl it) = changes_none name old new it.1
made_changes start events name old new status saved (inr it) = record { bytes = _; changes = changes (Some (saving_of name it.0)) old new (Ok status) saved it.2 }

saves_changes : (start : State) (events : List Event) (name : List ℕ) (old new : FilesState) (written saved : Result Status Trouble) →
    SavesSnapshot start events name old new written saved → ChangesOut name old new
saves_changes start events name old new (Err trouble) saved it = changes_none name old new it.1
saves_changes start events name old new (Ok status) saved it = made_changes start events name old new status saved it

pub reached_changes : (name : List ℕ) (reached : Option Due) (old new : Outside) (result : Result Status Trouble) → AnswersSnapReached name reached old new result → ChangesOut name old.files new.files
reached_changes name None old new result a = changes_none name old.files new.files (ap (λ (o : Outside). o.files) a.1)
reached_changes name (Some (Refuse refusal)) old new result a = changes_none name old.files new.files a.saves.0
reached_changes name (Some (RunFrom start events save)) old new result (inl a) = saves_changes start events name old.files new.files a.1.2.written result a.1.2.saves
reached_changes name (Some (RunFrom start events save)) old new result (inr a) =
    record { bytes = []; changes = changes_vain (exact_saving name []) old.files new.files a.0.files }
reached_changes name (Some (Make out rules line)) old new result a = absurd a

pub snap_effect : (words : Result SnapWords Refusal) (old new : Outside) (result : Result Status Trouble) → PerformsSnap words old new result → EffectOut (out_of words) old.files new.files
snap_effect words old new result p =
    effect_out (out_of words) old.files p.read new.files (follows_keeps (snap_plan words) old.files p.read p.reached p.follows)
    (reached_changes (out_of words) p.reached (outside p.read old.sink old.bench) new result p.answers)

-- ---- words that are refused

pub snap_unread : (words : Result SnapWords Refusal) (old new : Outside) (result : Result Status Trouble) → is_ok words ≡ false → PerformsSnap words old new result → new.files ≡ old.files
snap_unread words old new result bad p =
    asked_unread (λ (w : SnapWords). run_plan w.run) words old.files new.files (λ read reached. AnswersSnapReached (out_of words) reached (outside read old.sink old.bench) new result) bad
    (λ refusal a. a.saves.0) p

-- ---- a read fault

made_no_fault : (start : State) (events : List Event) (name : List ℕ) (old new : FilesState) (status answer : Status) → status ≡ Status.Done → SavesMade start events name old new status (Ok answer) →
    answer ≢ Status.ReadFault
made_no_fault start events name old new status answer done (inl it) = λ fault. cc it.0
made_no_fault start events name old new status answer done (inr (s, is, inl it)) = λ fault. cc (it.1, done, fault)
made_no_fault start events name old new status answer done (inr (s, is, inr it)) = λ fault. cc it.1

saves_no_fault : (start : State) (events : List Event) (name : List ℕ) (f0 f1 : FilesState) (old new : SinkState) (written : Result Status Trouble) (answer : Status) →
    Writes Status.Done (run start events).journal.printed old new written → SavesSnapshot start events name f0 f1 written (Ok answer) → answer ≢ Status.ReadFault
saves_no_fault start events name f0 f1 old new (Err trouble) answer w it = λ fault. cc it.0
saves_no_fault start events name f0 f1 old new (Ok status) answer w it = made_no_fault start events name f0 f1 status answer w.status it

run_no_fault : (start : State) (events : List Event) (name : List ℕ) (old new : Outside) (result : Result Status Trouble) → RunsSnap start events name old new result →
    status_of_end result ≢ Status.ReadFault
run_no_fault start events name old new (Ok answer) r = saves_no_fault start events name old.files new.files old.sink new.sink r.2.written answer r.2.writes r.2.saves
run_no_fault start events name old new (Err Write) r = λ is. cc is
run_no_fault start events name old new (Err Memory) r = λ is. cc is

reached_fault : (plan : Plan) (name : List ℕ) (reached : Option Due) (old new : Outside) (read : FilesState) (result : Result Status Trouble) → HasFoundFaults plan →
    Follows plan old.files read reached →
    AnswersSnapReached name reached (outside read old.sink old.bench) new result → status_of_end result ≡ Status.ReadFault → HasFault plan old.files new.files
reached_fault plan name None old new read result never follows a is = absurd (wants_no_fault result a.0 is)
reached_fault plan name (Some (Refuse refusal)) old new read result never follows a is = refused_fault plan refusal old new read result never follows a is
reached_fault plan name (Some (RunFrom start events save)) old new read result never follows (inl a) is =
    absurd (run_no_fault start events name (outside read old.sink old.bench) new result a.1 is)
reached_fault plan name (Some (RunFrom start events save)) old new read result never follows (inr a) is = absurd (cc (sym (ap status_of_end a.1) ∙ is))
reached_fault plan name (Some (Make out rules line)) old new read result never follows a is = absurd a

pub snap_fault : (words : List (List ℕ)) (old new : Outside) (result : Result Status Trouble) → PerformsSnap (snap_judged words) old new result → status_of_end result ≡ Status.ReadFault →
    HasFault (snap_plan (snap_judged words)) old.files new.files
snap_fault words old new result p is =
    reached_fault (snap_plan (snap_judged words)) (out_of (snap_judged words)) p.reached old new p.read result
    (asked_found_faults (λ (w : SnapWords). run_plan w.run) (snap_judged words) (snap_no_read_fault words) (λ w. run_found_faults w.run)) p.follows p.answers is
