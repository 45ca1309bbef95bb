-- States of a run that are kept, and machines that go on from them. This project's own.
use Rattle.std.specs.Prelude.{◌≡◌, ◌≤◌, ℕ, List, [], length, take, Ok}
use Rattle.sv_types.specs.Policies.{Rules}
use Rattle.sv_types.specs.declared.event.Event.{Event}
use Rattle.spec_reference.specs.Counting.{CountsAtMost}
use Rattle.spec_reference.specs.Run.{run}
use Rattle.spec_reference.specs.Start.{boot_start}
use Rattle.spec_reference.specs.States.{State}
use Rattle.spec_hardware.specs.Machine.{Machine}
use Rattle.spec_hardware.specs.Reaches.{IsNew}
use Rattle.snapshot_format.specs.Snapshots.{Contents, contents, snapshot, snapshot_read}
use Rattle.snapshot_format.specs.ResumedStates.{resumed_state}
use Rattle.snapshot_format.specs.declared.whole.Snapshot.{Snapshot}
use Rattle.laws_resume.specs.SnapLaws.{IsMeasuredBoot, IsSnapshotOf}
use Rattle.cli_snap.specs.SnapFile.{IsDisk}
use Rattle.cli_debug.specs.declared.target.kept.Kept.{Kept}

-- the boot of a kernel whose text has the policy's measure, with a disk within the limit
pub record IsMeasuredStart (start : State) : Type 0 where
  pub rules : Rules
  pub file : List ℕ
  pub disk : List ℕ
  pub same : start ≡ boot_start rules file disk
  pub measured : IsMeasuredBoot rules file
  pub disk_is : IsDisk disk

-- a state of the run that begins so with these events: the bytes are those of a snapshot after some of them, and the console is
-- what was printed until then
pub record IsKept (start : State) (events : List Event) (kept : Kept) : Type 0 where
  pub within : kept.made ≤ length events
  pub it : Snapshot
  pub snapshot_is : IsSnapshotOf start (take kept.made events) it
  pub bytes_are : kept.bytes.items ≡ snapshot.encode (contents it)
  pub console_is : kept.console.items ≡ (run start (take kept.made events)).journal.printed

-- a machine that goes on from the snapshot that bytes are: nothing is printed yet, and no count is above the events that were made
pub record GoesOnFrom (rules : Rules) (made : ℕ) (bytes : List ℕ) (m : Machine) : Type 0 where
  pub new : (s : Contents) → snapshot_read bytes ≡ Ok s → IsNew m (resumed_state rules s)
  pub none : m.journal.printed ≡ []
  pub counts : CountsAtMost made m.journal.counts
