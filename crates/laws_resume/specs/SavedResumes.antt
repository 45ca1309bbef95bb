-- What was saved of a state leads back to it. This project's own.
use Rattle.spec_reference.specs.Soundness.{IsSound}
use Rattle.spec_reference.specs.States.{State}
use Rattle.spec_reference.specs.SavedStates.{IsSaved}
use Rattle.snapshot_format.specs.Snapshots.{contents}
use Rattle.snapshot_format.specs.declared.whole.Snapshot.{Snapshot}
use Rattle.snapshot_format.specs.ResumedStates.{resumed_state}
use Rattle.laws_resume.specs.Continues.{Alike}
use Rattle.laws_resume.specs.Keepable.{IsKeepable}
use Rattle.laws_resume.specs.Resumed.{KeepsDigests}

-- A machine that goes on from a snapshot of a state, under the same policy, is in that state with nothing printed. Approved
-- pages are listed in another order.
abbrev pub SavedResumesLaw : Type 0
SavedResumesLaw = (r : State) (s : Snapshot) → IsSound r → IsKeepable r → IsSaved r s.«machine» → KeepsDigests r s.text.items
    → Alike r.journal.printed r (resumed_state r.rules (contents s))
