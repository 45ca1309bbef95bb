-- The snapshot of a machine as its code makes it, and its bytes under a name. This project's own.
use Rattle.std.specs.Prelude.{◌≡◌, ◌⊎◌, ℕ, List, Some, Result, IsErrOf}
use Rattle.spec_reference.specs.States.{State}
use Rattle.spec_hardware.specs.Machine.{Machine}
use Rattle.spec_hardware.specs.StandsFor.{StandsFor}
use Rattle.spec_reference.specs.SavedStates.{IsSaved}
use Rattle.hw_devices.specs.Ports.{IsSoundPort}
use Rattle.snapshot_format.specs.Snapshots.{contents, snapshot}
use Rattle.snapshot_format.specs.Typed.{IsTyped}
use Rattle.snapshot_format.specs.declared.whole.Snapshot.{Snapshot}
use Rattle.snapshot_format.specs.declared.whole.TextPage.{TextPage}
use Rattle.laws_resume.specs.EventCounts.{events_counted}
use Rattle.host_io.specs.Outside.{FilesState}
use Rattle.secvisor_cli.specs.Answers.{AfterSave}
use Rattle.host_io.specs.declared.trouble.Trouble.{Trouble}
use Rattle.host_io.specs.declared.trouble.Trouble.TheVariants.{Memory}
use Rattle.cli_snap.specs.SnapAnswers.{saving_of}

-- a snapshot of what a machine is now, with this text
pub record IsMachineSnapshot (m : Machine) (text : List TextPage) (s : Snapshot) : Type 0 where
  pub state : (r : State) → StandsFor m r → IsSaved r s.«machine»
  pub made : s.events ≡ events_counted m.journal.counts
  pub text_is : s.text.items ≡ text
  pub typed : IsTyped (contents s)
  pub port : IsSoundPort s.«machine».port s.«machine».disk.items

pub record EncodesMachine (m : Machine) (text : List TextPage) (bytes : List ℕ) : Type 0 where
  pub it : Snapshot
  pub snapshot_is : IsMachineSnapshot m text it
  pub bytes_are : bytes ≡ snapshot.encode (contents it)

-- memory ran out, or it was saved, or its save failed
abbrev pub SavesMachine : Machine → List TextPage → (name : List ℕ) → FilesState → FilesState → Result (Unit {0}) Trouble → Type 0
SavesMachine m text name old new result =
    (IsErrOf result Memory × (new ≡ old))
    ⊎ ((s : Snapshot) × IsMachineSnapshot m text s × AfterSave (Some (saving_of name s)) old new result)
