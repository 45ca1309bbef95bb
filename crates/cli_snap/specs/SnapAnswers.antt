-- What `snap` owes to what is asked of it: the console's bytes of a run, and the machine after it as a snapshot. This project's
-- own.
use Rattle.std.specs.Prelude.{◌≡◌, ◌<◌, ◌≤◌, ◌⊎◌, ℕ, List, [], ◌++◌, length, IsTrue, IsFalse, Option, Some, None, Result, Ok, Err, OnOk, IsErrOf}
use Rattle.sv_types.specs.declared.event.Event.{Event}
use Rattle.sv_types.specs.declared.status.Status.{Status}
use Rattle.spec_reference.specs.Run.{run}
use Rattle.spec_reference.specs.States.{State}
use Rattle.spec_hardware.specs.Machine.{Machine}
use Rattle.spec_hardware.specs.Reaches.{Reaches}
use Rattle.snapshot_format.specs.Snapshots.{contents, snapshot}
use Rattle.snapshot_format.specs.declared.whole.Snapshot.{Snapshot}
use Rattle.laws_resume.specs.SnapLaws.{IsSnapshotOf}
use Rattle.host_io.specs.Outside.{FilesState, SinkState, after_taking, BreaksOff, TookPrefix}
use Rattle.machine.specs.Standing.{Stands}
use Rattle.machine.specs.Console.{flush_is_due}
use Rattle.sv_types.specs.Limits.{max_printed}
use Rattle.secvisor_cli.specs.Answers.{Outside, outside, IsFree, TriedInVain, Writes, SavedAfter, WritesAndSaves}
use Rattle.host_io.specs.Endings.{status_of_end}
use Rattle.cli_plans.specs.Plans.{Due, Refuse, RunFrom, Make, Saving, Exactly, Plan, snap_plan}
use Rattle.cli_plans.specs.Reading.{CarriesOut}
use Rattle.cli_plans.specs.declared.refusal.Refusal.{Refusal}
use Rattle.host_io.specs.declared.trouble.Trouble.{Trouble}
use Rattle.host_io.specs.declared.trouble.Trouble.TheVariants.{Write, Memory}
use Rattle.cli_plans.specs.CommandLine.{SnapWords}
use Rattle.cli_snap.specs.SnapReady.{out_of}

-- ---- the snapshot

-- exactly its encoding, under a name
abbrev pub saving_of : (name : List ℕ) → Snapshot → Saving
saving_of name s = record { name = name; content = Exactly (snapshot.encode (contents s)) }

-- memory ran out for it, and nothing was saved; or it was saved, or its save failed
abbrev pub SavesMade : State → List Event → (name : List ℕ) → FilesState → FilesState → Status → (saved : Result Status Trouble) → Type 0
SavesMade start events name old new status saved =
    ((saved ≡ Err Memory) × (new ≡ old))
    ⊎ ((s : Snapshot) × IsSnapshotOf start events s × SavedAfter (Some (saving_of name s)) old new (Ok status) saved)

-- It is saved after what was to be written. Nothing is saved after a write that failed, or where memory ran out.
abbrev pub SavesSnapshot : State → List Event → (name : List ℕ) → FilesState → FilesState → (written saved : Result Status Trouble) → Type 0
SavesSnapshot start events name old new (Err trouble) saved = (saved ≡ Err trouble) × (new ≡ old)
SavesSnapshot start events name old new (Ok status) saved = SavesMade start events name old new status saved

-- ---- the machine

-- The machine stands after some of the events, and after all of them where the console's bytes were written, to which it came
-- from one that had just started. Either all events were made, fewer than 4,096 bytes of its console weren't taken before,
-- which don't end with a line feed, and of these the sink took a prefix; or a write of the console failed, of 4,096 bytes or of
-- fewer that end with a line feed; or memory ran out before the first event.
pub record StandsAfter (start : State) (events : List Event) (machine : Machine) (old new : SinkState) (written : Result Status Trouble) : Type 0 where
  pub done : List Event
  pub left : List Event
  pub split : done ++ left ≡ events
  pub all : OnOk written (left ≡ [])
  pub cleared : List ℕ
  pub stands : Stands machine cleared (run start done)
  pub first : Machine
  pub reaches : Reaches first start done machine
  pub rest :
      ((left ≡ []) × (length machine.journal.printed < max_printed) × IsFalse (flush_is_due machine.journal.printed)
      × TookPrefix (after_taking old cleared) new machine.journal.printed)
      ⊎ (((length machine.journal.printed ≤ max_printed) × IsTrue (flush_is_due machine.journal.printed)
      × BreaksOff (after_taking old cleared) new machine.journal.printed)
      ⊎ (IsErrOf written Memory × (done ≡ [])))
  -- nothing is written where memory ran out
  pub quiet : IsErrOf written Memory → new ≡ old

-- ---- the answer

-- the console's bytes and nothing else, and then the snapshot, whatever the verdict
pub record SnapsTo (start : State) (events : List Event) (name : List ℕ) (machine : Machine) (f0 f1 : FilesState) (old new : SinkState)
    (result : Result Status Trouble) : Type 0 where
  -- how writing ended
  pub written : Result Status Trouble
  pub writes : Writes Status.Done (run start events).journal.printed old new written
  pub saves : SavesSnapshot start events name f0 f1 written result
  pub stands : StandsAfter start events machine old new written

-- the machine stands on the bench from then on
abbrev pub RunsSnap : State → List Event → (name : List ℕ) → Outside → Outside → Result Status Trouble → Type 0
RunsSnap start events name old new result =
    (machine : Machine) × (new.bench ≡ Some machine) × SnapsTo start events name machine old.files new.files old.sink new.sink result

-- The name is tried first: where no file can be made there, nothing is written and nothing runs.
abbrev pub TriesAndSnaps : State → List Event → (name : List ℕ) → Outside → Outside → Result Status Trouble → Type 0
TriesAndSnaps start events name old new result =
    (IsFree (Some name) old.files × RunsSnap start events name old new result)
    ⊎ (TriedInVain old new × (result ≡ Err Write))

abbrev pub AnswersSnap : (name : List ℕ) → Due → Outside → Outside → Result Status Trouble → Type 0
AnswersSnap name (Refuse refusal) old new result = WritesAndSaves (Refuse refusal) old new result
AnswersSnap name (RunFrom start events save) old new result = TriesAndSnaps start events name old new result
AnswersSnap name (Make out rules line) old new result = ⊥

-- the same where memory ran out before what is due was ready: nothing happened
abbrev pub AnswersSnapReached : (name : List ℕ) → Option Due → Outside → Outside → Result Status Trouble → Type 0
AnswersSnapReached name None old new result = IsErrOf result Memory × (new ≡ old)
AnswersSnapReached name (Some due) old new result = AnswersSnap name due old new result

-- the files were asked as a plan says, and what is due at its end was answered
abbrev pub PerformsRun : Plan → (name : List ℕ) → Outside → Outside → Result Status Trouble → Type 0
PerformsRun plan name old new result =
    CarriesOut plan old.files (λ read reached. AnswersSnapReached name reached (outside read old.sink old.bench) new result)

abbrev pub PerformsSnap : Result SnapWords Refusal → Outside → Outside → Result Status Trouble → Type 0
PerformsSnap words old new result = PerformsRun (snap_plan words) (out_of words) old new result

-- the same as a status
pub record SnapHeadline (words : Result SnapWords Refusal) (old new : Outside) (answer : Status) : Type 0 where
  -- how the answer ended
  pub result : Result Status Trouble
  pub performs : PerformsSnap words old new result
  pub status : answer ≡ status_of_end result
