-- What holds of the state in which a machine goes on from a snapshot that isn't refused, whoever made its bytes.
-- This project's own.
use Rattle.std.specs.Prelude.{◌≡◌, List, true, None, IsTrue}
use Rattle.sv_types.specs.Policies.{Rules, rules_within}
use Rattle.sv_types.specs.declared.event.Event.{Event}
use Rattle.spec_reference.specs.Run.{run}
use Rattle.spec_reference.specs.Soundness.{IsSound}
use Rattle.spec_reference.specs.Start.{AreWords}
use Rattle.spec_reference.specs.States.{State, protections_of}
use Rattle.snapshot_format.specs.Snapshots.{Contents, snapshot}
use Rattle.snapshot_format.specs.Judgements.{resume_refusal}
use Rattle.snapshot_format.specs.ResumedStates.{resumed_state}
use Rattle.laws_resume.specs.Keepable.{IsKeepable}
use Rattle.laws_resume.specs.Resumed.{GoesOn, KeepsDigests}

-- it is sound, can be saved again, has the protections that the snapshot says, and its text has the digests that the policy's
-- kernel digest joins
pub record IsResumable (rules : Rules) (s : Contents) : Type 0 where
  pub sound : IsSound (resumed_state rules s)
  pub keepable : IsKeepable (resumed_state rules s)
  pub protections : protections_of (resumed_state rules s) ≡ s.protection
  pub digests : KeepsDigests (resumed_state rules s) s.text

abbrev pub ResumedSoundLaw : Type 0
ResumedSoundLaw = (rules : Rules) (s : Contents) → IsTrue (rules_within rules) → AreWords rules.entries → snapshot.has s ≡ true
    → resume_refusal rules s ≡ None → IsResumable rules s

-- where it has come from there: each approved page is a page of text as it stood in the snapshot, or a loaded module's; the
-- digests are right still, and it can be saved again
pub record GoesOnFrom (rules : Rules) (s : Contents) (r : State) : Type 0 where
  pub goes : GoesOn (resumed_state rules s) r
  pub keepable : IsKeepable r
  pub digests : KeepsDigests r s.text

abbrev pub ResumedGoesOnLaw : Type 0
ResumedGoesOnLaw = (rules : Rules) (s : Contents) (events : List Event) → IsTrue (rules_within rules) → AreWords rules.entries → snapshot.has s ≡ true
    → resume_refusal rules s ≡ None → GoesOnFrom rules s (run (resumed_state rules s) events)
