-- How `snap` ends where `run` accepts what it is asked.
use Rattle.std.proofs.Common.{◌≡◌, ◌<◌, ◌⊎◌, ℕ, List, Bool, IsTrue, refl, sym, ◌∙◌, ap, subst, inl, inr, Option, Some, None, Result, Ok, Err}
use Rattle.sv_types.specs.declared.event.Event.{Event}
use Rattle.sv_types.specs.declared.status.Status.{Status}
use Rattle.spec_reference.specs.Run.{run}
use Rattle.spec_reference.specs.States.{State}
use Rattle.host_io.specs.Outside.{FilesState, after_taking}
use Rattle.secvisor_cli.specs.Answers.{Outside, outside, Writes}
use Rattle.host_io.specs.Endings.{status_of_end}
use Rattle.secvisor_cli.specs.DueIn.{due_in, AreReadWhole}
use Rattle.cli_plans.specs.Plans.{Due, RunFrom, Plan, snap_plan}
use Rattle.cli_plans.specs.Reading.{Follows}
use Rattle.cli_plans.specs.declared.refusal.Refusal.{Refusal}
use Rattle.host_io.specs.declared.trouble.Trouble.{Trouble}
use Rattle.host_io.specs.declared.trouble.Trouble.TheVariants.{Write, Memory}
use Rattle.secvisor_cli.proofs.DueLemmas.{comes_to_due, ends_after}
use Rattle.cli_plans.proofs.PlanLemmas.{Keeps, follows_keeps}
use Rattle.cli_snap.specs.SnapAnswers.{AnswersSnapReached, PerformsSnap, TriesAndSnaps, SavesMade, SavesSnapshot, SnapHeadline}
use Rattle.cli_snap.specs.SnapEnds.{SnapEnds, SnapEndsLaw}
use Rattle.cli_plans.specs.CommandLine.{SnapWords}
use Rattle.cli_snap.proofs.AcceptedLemmas.{SnapAccepted, snap_accepted}
use Rattle.cli_snap.proofs.ClauseLemmas.{reached_changes}

module _ (start : State) (events : List Event) (name : List ℕ) (old new : Outside) where
  -- memory ran out
  wanting_ends : (result : Result Status Trouble) → result ≡ Err Memory → SnapEnds start events name old new (status_of_end result)
  wanting_ends result is = record { ends = inr (inr (ap status_of_end is)); done = λ fine. absurd (cc (sym fine ∙ ap status_of_end is)) }

  -- a write or the save failed
  fault_ends : (result : Result Status Trouble) → result ≡ Err Write → (old.sink.faults < new.sink.faults) ⊎ (old.files.save_faults < new.files.save_faults) →
      SnapEnds start events name old new (status_of_end result)
  fault_ends result is counted = record { ends = inr (inl (ap status_of_end is, counted)); done = λ fine. absurd (cc (sym fine ∙ ap status_of_end is)) }

  made_ends : (status : Status) (result : Result Status Trouble) → IsTrue old.files.tells → status ≡ Status.Done →
      new.sink ≡ after_taking old.sink (run start events).journal.printed → SavesMade start events name old.files new.files status result →
      SnapEnds start events name old new (status_of_end result)
  made_ends status result tells done printed (inl it) = wanting_ends result it.0
  made_ends status result tells done printed (inr (saved, is, inl it)) = record {
    ends = inl (ap status_of_end it.1 ∙ done);
    done = λ fine. record { saved = saved; saved_is = is; held = it.0.held tells ∙ ap Some it.0.content; printed = printed };
  }
  made_ends status result tells done printed (inr (saved, is, inr it)) = fault_ends result it.1 (inr it.0.faults)

  written_ends : (written result : Result Status Trouble) → IsTrue old.files.tells → Writes Status.Done (run start events).journal.printed old.sink new.sink written →
      SavesSnapshot start events name old.files new.files written result → SnapEnds start events name old new (status_of_end result)
  written_ends (Ok status) result tells w it = made_ends status result tells w.status w.whole it
  written_ends (Err Write) result tells w it = fault_ends result it.0 (inl (w.write refl))
  written_ends (Err Memory) result tells w it = wanting_ends result it.0

  tried_ends : (result : Result Status Trouble) → IsTrue old.files.tells → TriesAndSnaps start events name old new result → SnapEnds start events name old new (status_of_end result)
  tried_ends result tells (inl ran) = written_ends ran.1.2.written result tells ran.1.2.writes ran.1.2.saves
  tried_ends result tells (inr vain) = fault_ends result vain.1 (inr vain.0.files.faults)

snap_behind : (start : State) (events : List Event) (name : List ℕ) (old : Outside) (read : FilesState) (new : Outside) (answer : Status) → read.save_faults ≡ old.files.save_faults →
    SnapEnds start events name (outside read old.sink old.bench) new answer → SnapEnds start events name old new answer
snap_behind start events name old read new answer same it = record {
  ends = ends_after Status.Done old read new answer same it.ends;
  done = λ fine. let d = it.done fine in record { saved = d.saved; saved_is = d.saved_is; held = d.held; printed = d.printed };
}

reached_ends : (plan : Plan) (start : State) (events : List Event) (name : List ℕ) (old new : Outside) (read : FilesState) (reached : Option Due) (result : Result Status Trouble) →
    AreReadWhole old.files new.files → due_in old.files.held plan ≡ RunFrom start events None → Follows plan old.files read reached →
    AnswersSnapReached name reached (outside read old.sink old.bench) new result → SnapEnds start events name old new (status_of_end result)
reached_ends plan start events name old new read None result whole is follows a = wanting_ends start events name old new result a.0
reached_ends plan start events name old new read (Some due) result whole is follows a =
    let behind : Outside = outside read old.sink old.bench in
    let k : Keeps old.files read = follows_keeps plan old.files read (Some due) follows in
    let count = (reached_changes name (Some due) behind new result a).changes.reads in
    let same : due ≡ RunFrom start events None = sym (comes_to_due plan old.files read due whole.tells (sym count ∙ whole.unfailed) follows) ∙ is in
    let ran : TriesAndSnaps start events name behind new result = subst (λ (d : Due). AnswersSnapReached name (Some d) behind new result) same a in
    let tells = subst (λ (b : Bool). IsTrue b) (sym k.tells) whole.tells in
    snap_behind start events name old read new (status_of_end result) k.saves
    (tried_ends start events name behind new result tells ran)

headline_ends : (words : SnapWords) (start : State) (events : List Event) (old new : Outside) (answer : Status) → due_in old.files.held (snap_plan (Ok words)) ≡ RunFrom start events None →
    AreReadWhole old.files new.files → SnapHeadline (Ok words) old new answer → SnapEnds start events words.out old new answer
headline_ends words start events old new answer is whole h =
    let p : PerformsSnap (Ok words) old new h.result = h.performs in
    subst (λ (s : Status). SnapEnds start events words.out old new s) (sym h.status)
    (reached_ends (snap_plan (Ok words)) start events words.out old new p.read p.reached h.result whole is p.follows p.answers)

pub snap_ends : SnapEndsLaw
snap_ends line start events old new answer undashed accepted whole h =
    let a : SnapAccepted old.files.held line start events = snap_accepted old.files.held line start events undashed accepted in
    subst (λ (name : List ℕ). SnapEnds start events name old new answer) a.out
    (headline_ends a.words start events old new answer a.due whole
    (subst (λ (words : Result SnapWords Refusal). SnapHeadline words old new answer) a.judged_as h))
