-- A snapshot after any events of a run that began with a measured boot.
use Rattle.std.proofs.Common.{◌≡◌, ℕ, List, [], take, refl, sym, ◌∙◌, subst, true}
use Rattle.std.specs.Prelude.{None}
use Rattle.sv_types.specs.Policies.{Rules}
use Rattle.sv_types.specs.declared.event.Event.{Event}
use Rattle.spec_reference.specs.Run.{run}
use Rattle.spec_reference.specs.Start.{IsStart}
use Rattle.spec_reference.specs.States.{State}
use Rattle.spec_reference.specs.SavedStates.{IsSaved}
use Rattle.snapshot_format.specs.Snapshots.{Contents, contents, snapshot}
use Rattle.snapshot_format.specs.Typed.{IsTyped}
use Rattle.snapshot_format.specs.declared.whole.Snapshot.{Snapshot}
use Rattle.snapshot_format.proofs.SnapshotLaws.{snapshot_law}
use Rattle.snapshot_format.specs.Judgements.{resume_refusal}
use Rattle.snapshot_format.specs.ResumedStates.{resumed_state}
use Rattle.laws_resume.specs.Continues.{Alike}
use Rattle.laws_resume.specs.Resumed.{KeepsDigests}
use Rattle.laws_resume.specs.SavedForm.{HasDevice, IsCounted}
use Rattle.laws_resume.proofs.ContinuesHolds.{continues_law}
use Rattle.laws_resume.proofs.KeepableStarts.{keepable_law}
use Rattle.laws_resume.proofs.ResumedHolds.{resumed_law}
use Rattle.laws_resume.proofs.SavedAccepted.{saved_accepted_law}
use Rattle.laws_resume.proofs.SavedForms.{saved_form_law}
use Rattle.laws_resume.proofs.SavedResumes.{saved_resumes_law}
use Rattle.laws_simulation.proofs.StateLawsHold.{reached_sound}
use Rattle.laws_resume.specs.SnapLaws.{Boot, IsMeasuredBoot, IsSnapAfter, SnapAcceptedLaw, SnapContinuesLaw, SnapReadLaw}
use Rattle.laws_resume.proofs.BootDigests.{IsBoot}

pub nothing_printed : (rules : Rules) (s : Contents) → (resumed_state rules s).journal.printed ≡ []
unfolding resumed_state
nothing_printed rules s = refl

-- what a snapshot after any events of the run is good for
pub record IsGood (start : State) (rules : Rules) (events : List Event) (s : Snapshot) : Type 0 where
  pub alike : Alike (run start events).journal.printed (run start events) (resumed_state rules (contents s))
  pub accepted : resume_refusal rules (contents s) ≡ None
  pub form : IsTyped (contents s) → HasDevice (contents s) → IsCounted (contents s) → snapshot.has (contents s) ≡ true

-- where it keeps the digests that the run keeps
pub good_at : (start : State) (rules : Rules) (events : List Event) (s : Snapshot) → IsStart start → start.rules ≡ rules → KeepsDigests start s.text.items
    → IsSaved (run start events) s.«machine» → IsGood start rules events s
good_at start rules events s is same digests saved =
    let r = run start events in
    let goes = resumed_law start events (reached_sound start [] is) in
    let keepable = keepable_law start events is in
    let right = goes.digests s.text.items digests in
    record {
      alike = subst (λ (x : Rules). Alike r.journal.printed r (resumed_state x (contents s))) (goes.origins.rules ∙ same)
          (saved_resumes_law r s goes.sound keepable saved right);
      accepted = subst (λ (x : Rules). resume_refusal x (contents s) ≡ None) (goes.origins.rules ∙ same)
          (saved_accepted_law r s goes.sound keepable saved right);
      form = saved_form_law r s goes.sound keepable saved right;
    }

snap_is_good : (boot : Boot) → IsBoot boot → (rules : Rules) (file disk : List ℕ) (events : List Event) (k : ℕ) (s : Snapshot) → IsMeasuredBoot rules file
    → IsSnapAfter boot rules file disk events k s → IsGood (boot rules file disk) rules (take k events) s
snap_is_good boot b rules file disk events k s measured snap =
    good_at (boot rules file disk) rules (take k events) s (b.starts rules file disk measured) (b.rules rules file disk)
    (subst (KeepsDigests (boot rules file disk)) (sym snap.text) (b.digests rules file disk measured)) snap.state

pub snap_accepted_law : (boot : Boot) → IsBoot boot → SnapAcceptedLaw boot
snap_accepted_law boot b rules file disk events k s measured snap = (snap_is_good boot b rules file disk events k s measured snap).accepted

pub snap_read_law : (boot : Boot) → IsBoot boot → SnapReadLaw boot
snap_read_law boot b rules file disk events k s measured snap typed device counted =
    snapshot_law.again (contents s) ((snap_is_good boot b rules file disk events k s measured snap).form typed device counted)

pub snap_continues_law : (boot : Boot) → IsBoot boot → SnapContinuesLaw boot
snap_continues_law boot b rules file disk events k s measured snap =
    continues_law (boot rules file disk) k events (resumed_state rules (contents s)) (nothing_printed rules (contents s))
    (snap_is_good boot b rules file disk events k s measured snap).alike
