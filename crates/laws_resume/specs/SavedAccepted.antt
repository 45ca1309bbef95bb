-- What was saved of a state is never refused under the same policy. This project's own.
use Rattle.std.specs.Prelude.{◌≡◌, None}
use Rattle.spec_reference.specs.Soundness.{IsSound}
use Rattle.spec_reference.specs.States.{State}
use Rattle.spec_reference.specs.SavedStates.{IsSaved}
use Rattle.snapshot_format.specs.Snapshots.{contents}
use Rattle.snapshot_format.specs.declared.whole.Snapshot.{Snapshot}
use Rattle.snapshot_format.specs.Judgements.{resume_refusal}
use Rattle.laws_resume.specs.Keepable.{IsKeepable}
use Rattle.laws_resume.specs.Resumed.{KeepsDigests}

abbrev pub SavedAcceptedLaw : Type 0
SavedAcceptedLaw = (r : State) (s : Snapshot) → IsSound r → IsKeepable r → IsSaved r s.«machine» → KeepsDigests r s.text.items
    → resume_refusal r.rules (contents s) ≡ None
