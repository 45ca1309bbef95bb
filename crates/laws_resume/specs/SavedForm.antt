-- When what was saved of a state has an encoding, so that it is read again as it was. This project's own.
use Rattle.std.specs.Prelude.{◌≡◌, ◌≤◌, true}
use Rattle.sv_types.specs.Limits.{max_events}
use Rattle.spec_reference.specs.Counting.{CountsAtMost}
use Rattle.spec_reference.specs.Soundness.{IsSound}
use Rattle.spec_reference.specs.States.{State}
use Rattle.spec_reference.specs.SavedStates.{IsSaved}
use Rattle.snapshot_format.specs.DeviceForms.{disk, kind_of, port}
use Rattle.snapshot_format.specs.Snapshots.{Contents, contents, snapshot}
use Rattle.snapshot_format.specs.Typed.{IsTyped}
use Rattle.snapshot_format.specs.declared.whole.Snapshot.{Snapshot}
use Rattle.laws_resume.specs.Keepable.{IsKeepable}
use Rattle.laws_resume.specs.Resumed.{KeepsDigests}

-- ---- what a device keeps: its numbers go together, and its disk is whole sectors that hold what it has under way

pub record HasDevice (s : Contents) : Type 0 where
  pub port : (port (kind_of s.port)).has s.port ≡ true
  pub disk : (disk s.port).has s.disk ≡ true

-- ---- the law

-- with the number of events that were made, above which no count is
pub record IsCounted (s : Contents) : Type 0 where
  pub few : s.events ≤ max_events
  pub counts : CountsAtMost s.events s.counts

abbrev pub SavedFormLaw : Type 0
SavedFormLaw = (r : State) (s : Snapshot) → IsSound r → IsKeepable r → IsSaved r s.«machine» → KeepsDigests r s.text.items
    → IsTyped (contents s) → HasDevice (contents s) → IsCounted (contents s) → snapshot.has (contents s) ≡ true
