-- Each run that the plan of `resume` comes to begins in a state that a snapshot says.
use Rattle.std.proofs.Common.{◌≡◌, ℕ, inl, inr, List, true, refl, sym, subst}
use Rattle.std.specs.Prelude.{Option, Some, None, Result, Ok, Err}
use Rattle.sv_types.specs.Policies.{Rules}
use Rattle.sv_types.specs.declared.event.Event.{Event}
use Rattle.spec_reference.specs.Run.{run}
use Rattle.spec_reference.specs.States.{State}
use Rattle.host_io.specs.Outside.{FilesState}
use Rattle.snapshot_format.specs.FormLaw.{IsBytes}
use Rattle.snapshot_format.specs.Snapshots.{Contents, snapshot, snapshot_read}
use Rattle.snapshot_format.specs.declared.refusal.SnapRefusal.{SnapRefusal}
use Rattle.snapshot_format.proofs.SnapshotLaws.{snapshot_law}
use Rattle.snapshot_format.specs.Judgements.{resume_refusal}
use Rattle.snapshot_format.specs.ResumedStates.{resumed_state}
use Rattle.laws_guarantee.specs.Reached.{IsReached}
use Rattle.snapshot_format.specs.declared.resume.refusal.ResumeRefusal.{ResumeRefusal}
use Rattle.laws_resume.specs.ResumedSound.{GoesOnFrom}
use Rattle.laws_resume.proofs.ResumedSoundHolds.{resumed_goes_on_law}
use Rattle.cli_plans.specs.Plans.{Due, Refuse, RunFrom, Plan, End, Read, Found, Faulty, Missing, Longer, Held, found_plan}
use Rattle.cli_plans.specs.Reading.{FoundAs, Follows}
use Rattle.cli_plans.specs.declared.file_fault.Part.{Part}
use Rattle.cli_plans.specs.declared.refusal.Refusal.{Refusal}
use Rattle.cli_snap.specs.ResumePlans.{contents_judged, snapshot_part, events_after, resumed_due, behind_script, after_policy, after_snapshot, words_plan, resume_plan}
use Rattle.cli_plans.specs.CommandLine.{ResumeWords}
use Rattle.laws_program.specs.ResumeLaw.{HoldBytes, IsResumedStart, ResumeLaw}
use Rattle.laws_program.proofs.PolicyWords.{GoodRules}
use Rattle.laws_program.proofs.PlanWalks.{DueRuns, Runs, followed, policy_runs, script_runs}

due_runs : (rules : Rules) (c : Contents) (events : List Event) (save : Option (List ℕ)) (x : Option ResumeRefusal) → GoodRules rules → snapshot.has c ≡ true
    → resume_refusal rules c ≡ x → DueRuns ⊥ IsResumedStart (resumed_due rules c events save x)
due_runs rules c events save None good has none = record {
  rules = rules;
  contents = c;
  within = good.within;
  words = good.words;
  encoded = has;
  accepted = none;
  same = refl;
}
due_runs rules c events save (Some refusal) good has e = tt

snapshot_runs : (words : ResumeWords) (c : Contents) → snapshot.has c ≡ true → Runs ⊥ IsResumedStart (after_snapshot words c)
unfolding after_snapshot after_policy behind_script
snapshot_runs words c has =
    policy_runs ⊥ IsResumedStart words.policy _ (λ rules good. script_runs ⊥ IsResumedStart rules.harts words.script _
    (λ schedule. due_runs rules c (events_after c.events words.events schedule) words.save (resume_refusal rules c) good has refl))

contents_runs : (next : Contents → Plan) (x : Result Contents SnapRefusal) → ((c : Contents) → x ≡ Ok c → Runs ⊥ IsResumedStart (next c))
    → Runs ⊥ IsResumedStart (contents_judged next x)
contents_runs next (Ok c) k = k c refl
contents_runs next (Err refusal) k = tt

-- what is found is what the files hold
found_runs : (old now : FilesState) (name : List ℕ) (limit : ℕ) (found : Found) (next : List ℕ → Plan) → HoldBytes old → FoundAs old now name limit found
    → ((bytes : List ℕ) → IsBytes bytes → Runs ⊥ IsResumedStart (next bytes)) → Runs ⊥ IsResumedStart (found_plan Part.Snapshot next found)
unfolding found_plan
found_runs old now name limit Faulty next holds at k = tt
found_runs old now name limit Missing next holds at k = tt
found_runs old now name limit Longer next holds at k = tt
found_runs old now name limit (Held bytes) next holds at k = k bytes (holds.bytes name bytes (at.1 holds.tells))

read_runs : (name : List ℕ) (limit : ℕ) (next : List ℕ → Plan) (old read : FilesState) (due : Due) → HoldBytes old
    → ((bytes : List ℕ) → IsBytes bytes → Runs ⊥ IsResumedStart (next bytes))
    → Follows (Read name limit (found_plan Part.Snapshot next)) old read (Some due) → DueRuns ⊥ IsResumedStart due
read_runs name limit next old read due holds k (inl none) = absurd (cc none.0)
read_runs name limit next old read due holds k (inr f) =
    followed ⊥ IsResumedStart (found_plan Part.Snapshot next f.0) f.1 read due (found_runs old f.1 name limit f.0 next holds f.2 k) f.3

-- whatever is due, a policy is never made
pub resume_due : (asked : Result ResumeWords Refusal) (old read : FilesState) (due : Due) → HoldBytes old → Follows (resume_plan asked) old read (Some due)
    → DueRuns ⊥ IsResumedStart due
unfolding words_plan snapshot_part
resume_due (Err refusal) old read due holds f = followed ⊥ IsResumedStart (End (Refuse refusal)) old read due tt f
resume_due (Ok words) old read due holds (inl none) = absurd (cc none.0)
resume_due (Ok words) old read due holds (inr f) =
    read_runs words.saved _ _ old read due holds
    (λ bytes are. contents_runs (after_snapshot words) (snapshot_read bytes) (λ c is. snapshot_runs words c (snapshot_law.only bytes c are is).1)) f

resumed_reached : (s : State) (events : List Event) → IsResumedStart s → IsReached s (run s events)
resumed_reached s events k = subst (λ (x : State). IsReached x (run x events)) (sym k.same)
    (from_snapshot (resumed_goes_on_law k.rules k.contents events k.within k.words k.encoded k.accepted))
  where
    from_snapshot : GoesOnFrom k.rules k.contents (run (resumed_state k.rules k.contents) events)
        → IsReached (resumed_state k.rules k.contents) (run (resumed_state k.rules k.contents) events)
    from_snapshot on =
        record { sound = on.goes.sound; origins = on.goes.origins; digests = (k.contents.text, on.digests); load = on.keepable.load }

pub resume_law : ResumeLaw
resume_law = record {
  begins = λ asked old read start events save holds f. resume_due asked old read (RunFrom start events save) holds f;
  goes = λ s events k. subst (λ (x : State). GoesOnFrom k.rules k.contents (run x events)) (sym k.same)
      (resumed_goes_on_law k.rules k.contents events k.within k.words k.encoded k.accepted);
  reached = resumed_reached;
}
