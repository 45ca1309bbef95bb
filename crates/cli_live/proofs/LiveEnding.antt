-- How `live` ends where nothing is refused.
use Rattle.std.proofs.Common.{◌≡◌, ◌<◌, ◌⊎◌, ℕ, List, [], Bool, refl, sym, ◌∙◌, ap, subst, inl, inr, Option, Some, None, Result, Ok, Err, IsErrOf}
use Rattle.sv_types.specs.declared.event.Event.{Event}
use Rattle.sv_types.specs.declared.status.Status.{Status}
use Rattle.sv_types.specs.Output.{run_status}
use Rattle.spec_reference.specs.Report.{output}
use Rattle.spec_reference.specs.Run.{run}
use Rattle.spec_reference.specs.States.{State}
use Rattle.host_io.specs.Endings.{status_of_end}
use Rattle.host_io.specs.Outside.{FilesState, SinkState}
use Rattle.host_io.specs.declared.trouble.Trouble.{Trouble}
use Rattle.host_io.specs.declared.trouble.Trouble.TheVariants.{Write, Memory}
use Rattle.secvisor_cli.specs.Answers.{outside, Writes}
use Rattle.secvisor_cli.specs.DueIn.{due_in, AreReadWhole}
use Rattle.secvisor_cli.proofs.DueLemmas.{broke_unread, comes_to_due, ends_after, same_unread, saved_unread}
use Rattle.cli_plans.proofs.PlanLemmas.{follows_keeps}
use Rattle.cli_plans.specs.CommandLine.{LiveWords}
use Rattle.cli_plans.specs.Plans.{Due, Refuse, RunFrom, Make, Exactly, live_plan}
use Rattle.cli_plans.specs.Reading.{Follows}
use Rattle.cli_plans.specs.declared.refusal.Refusal.{Refusal}
use Rattle.cli_live.specs.LiveAnswers.{LiveOutside, live_outside, SavesScript, after_reading, RunsLive, TriesAndRuns, AnswersLive, AnswersLiveReached, LiveHeadline}
use Rattle.cli_live.specs.LiveReady.{out_of}
use Rattle.cli_live.specs.LiveEnds.{EndsLive, LiveEnds, LiveEndsLaw}
use Rattle.cli_live.proofs.ClauseLemmas.{is_done}

-- ---- a write or the save failed

wrote : (failed : Bool) (saved : Result Status Trouble) → Err Write ≡ after_reading failed saved → saved ≡ Err Write
wrote failed (Ok status) is = absurd (cc is)
wrote failed (Err trouble) is = sym is

counted : (due : Status) (bytes : List ℕ) (harts : ℕ) (journal : List Event) (name : List ℕ) (f0 f1 : FilesState) (s0 s1 : SinkState) (written saved : Result Status Trouble) →
    Writes due bytes s0 s1 written → SavesScript harts journal name f0 f1 written saved → saved ≡ Err Write → (s0.faults < s1.faults) ⊎ (f0.save_faults < f1.save_faults)
counted due bytes harts journal name f0 f1 s0 s1 (Err trouble) saved w it is = inl (w.write (cc (it.1, is)))
counted due bytes harts journal name f0 f1 s0 s1 (Ok status) saved w it is = elim it.2 [
  | inl done ↦ absurd (cc (done.1, is))
  | inr broke ↦ inr broke.0.faults
]

run_ends : (start : State) (asked : List Event) (name : List ℕ) (old new : LiveOutside) (result : Result Status Trouble) → (r : RunsLive start asked name old new result) →
    EndsLive (run_status (run start r.journal).journal.verdict) old new (status_of_end result)
run_ends start asked name old new (Ok answer) r = elim (is_done start asked name old new answer r).status [
  | inl is ↦ inl (inl is)
  | inr it ↦ inr it
]
run_ends start asked name old new (Err Write) r =
    inl (inr (inl (
      refl,
      counted (run_status (run start r.journal).journal.verdict) (output (run start r.journal)) start.rules.harts r.journal name old.files new.files old.sink new.sink
          r.written r.saved r.writes r.saves (wrote r.ended.read_failed r.saved r.status),
    )))
run_ends start asked name old new (Err Memory) r = inl (inr (inr refl))

tried_ends : (start : State) (asked : List Event) (name : List ℕ) (old new : LiveOutside) (result : Result Status Trouble) → TriesAndRuns start asked name old new result →
    LiveEnds start old new (status_of_end result)
tried_ends start asked name old new result (inl r) = record { journal = r.1.journal; ends = run_ends start asked name old new result r.1 }
tried_ends start asked name old new result (inr vain) = record { journal = []; ends = inl (inr (inl (ap status_of_end vain.2, inr vain.0.files.faults))) }

-- ---- reading and saving

script_unread : (harts : ℕ) (journal : List Event) (name : List ℕ) (f0 f1 : FilesState) (written saved : Result Status Trouble) → SavesScript harts journal name f0 f1 written saved →
    f1.read_faults ≡ f0.read_faults
script_unread harts journal name f0 f1 (Err trouble) saved it = same_unread f0 f1 it.0
script_unread harts journal name f0 f1 (Ok status) saved it = elim it.2 [
  | inl done ↦ saved_unread (record { name = name; content = Exactly it.0 }) f0 f1 done.0
  | inr broke ↦ broke_unread (record { name = name; content = Exactly it.0 }) f0 f1 broke.0
]

due_unread : (name : List ℕ) (due : Due) (old new : LiveOutside) (result : Result Status Trouble) → AnswersLive name due old new result → new.files.read_faults ≡ old.files.read_faults
due_unread name (Refuse refusal) old new result a = same_unread old.files new.files a.0.saves.0
due_unread name (RunFrom start asked save) old new result (inl a) = script_unread start.rules.harts a.1.journal name old.files new.files a.1.written a.1.saved a.1.saves
due_unread name (RunFrom start asked save) old new result (inr a) = ap (λ (f : FilesState). f.read_faults) a.0.files.leaves
due_unread name (Make out rules line) old new result a = absurd a

-- reading counts no save
ends_before : (due : Status) (old : LiveOutside) (read : FilesState) (new : LiveOutside) (answer : Status) → read.save_faults ≡ old.files.save_faults →
    EndsLive due (live_outside read old.sink old.keys old.bench) new answer → EndsLive due old new answer
ends_before due old read new answer same (inl ends) =
    inl (ends_after due (outside old.files old.sink old.bench) read (outside new.files new.sink new.bench) answer same ends)
ends_before due old read new answer same (inr it) = inr it

-- ---- the answer

wanting_ends : (start : State) (old new : LiveOutside) (result : Result Status Trouble) → IsErrOf result Memory → LiveEnds start old new (status_of_end result)
wanting_ends start old new (Ok answer) wants = absurd (cc wants)
wanting_ends start old new (Err Write) wants = absurd (cc wants)
wanting_ends start old new (Err Memory) wants = record { journal = []; ends = inl (inr (inr refl)) }

reached_ends : (words : Result LiveWords Refusal) (start : State) (events : List Event) (save : Option (List ℕ)) (old new : LiveOutside) (read : FilesState) (reached : Option Due)
    (result : Result Status Trouble) →
    AreReadWhole old.files new.files → due_in old.files.held (live_plan words) ≡ RunFrom start events save → Follows (live_plan words) old.files read reached →
    AnswersLiveReached (out_of words) reached (live_outside read old.sink old.keys old.bench) new result → LiveEnds start old new (status_of_end result)
reached_ends words start events save old new read None result whole is follows a = wanting_ends start old new result a.0
reached_ends words start events save old new read (Some due) result whole is follows a =
    let count = due_unread (out_of words) due (live_outside read old.sink old.keys old.bench) new result a in
    let same : due ≡ RunFrom start events save = sym (comes_to_due (live_plan words) old.files read due whole.tells (sym count ∙ whole.unfailed) follows) ∙ is in
    let before : LiveOutside = live_outside read old.sink old.keys old.bench in
    let r : TriesAndRuns start events (out_of words) before new result = subst (λ (d : Due). AnswersLive (out_of words) d before new result) same a in
    let ended : LiveEnds start before new (status_of_end result) = tried_ends start events (out_of words) before new result r in
    record {
      journal = ended.journal;
      ends = ends_before (run_status (run start ended.journal).journal.verdict) old read new (status_of_end result) (follows_keeps (live_plan words) old.files read (Some due)
          follows).saves ended.ends;
    }

pub live_ends : LiveEndsLaw
live_ends words start events save old new answer whole is h =
    subst (λ (s : Status). LiveEnds start old new s) (sym h.status)
    (reached_ends words start events save old new h.performs.read h.performs.reached h.result whole is h.performs.follows h.performs.answers)
