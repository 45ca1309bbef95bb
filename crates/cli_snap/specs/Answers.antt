-- How `show` ends: what it wrote, how it asked the files, and its status. This project's own.
use Rattle.std.specs.Prelude.{◌≡◌, ◌<◌, ◌⊎◌, ℕ, List, [], ◌∷◌, IsTrue, Option, Some, None, Result, Ok, Err, IsErrOf, Vec}
use Rattle.std.specs.declared.alloc.Global.{Global}
use Rattle.sv_types.specs.declared.status.Status.{Status}
use Rattle.host_io.specs.declared.FileRefusal.{FileRefusal}
use Rattle.host_io.specs.declared.FileRefusal.TheVariants.{Absent, Failed, TooLong, Memory as ReadMemory}
use Rattle.host_io.specs.Outside.{FilesState, SinkState, ReadTells, ReadLeaves, after_asking, after_taking, BreaksOff}
use Rattle.snapshot_format.specs.Snapshots.{Contents, max_snapshot_bytes, snapshot_read}
use Rattle.snapshot_format.specs.declared.refusal.SnapRefusal.{SnapRefusal}
use Rattle.cli_snap.specs.Showing.{Due, due_with_kernel, bytes_due, status_due}
use Rattle.cli_snap.specs.SnapshotTexts.{snapshot_text}
use Rattle.host_io.specs.declared.trouble.Trouble.{Trouble}
use Rattle.host_io.specs.declared.trouble.Trouble.TheVariants.{Write, Memory}
use Rattle.host_io.specs.Endings.{status_of_end}
use Rattle.cli_plans.specs.Commands.{ShowSplit}
use Rattle.cli_plans.specs.Plans.{max_image_bytes}
use Rattle.cli_plans.specs.declared.file_fault.FileFault.{FileFault}
use Rattle.cli_plans.specs.declared.file_fault.Part.{Part}
use Rattle.cli_plans.specs.declared.refusal.Refusal.{Refusal}
use Rattle.cli_plans.specs.declared.refusal.Refusal.TheVariants.{NoCommand, ReadFault, File}

-- All bytes that are due were written, and the status is theirs; or a write failed before; or memory ran out, and nothing
-- was written.
abbrev pub Ends : Due → SinkState → SinkState → Result Status Trouble → Type 0
Ends due old new (Ok status) = (status ≡ status_due due) × (new ≡ after_taking old (bytes_due due))
Ends due old new (Err Write) = BreaksOff old new (bytes_due due)
Ends due old new (Err Memory) = new ≡ old

-- a refusal, for which no memory is taken
pub record Refuses (refusal : Refusal) (old new : SinkState) (result : Result Status Trouble) : Type 0 where
  pub ends : Ends (Err refusal) old new result
  pub spares : IsErrOf result Memory → ⊥

-- ---- the kernel

-- what is owed to what a read of the kernel found
abbrev pub EndsWithKernel : Contents → Result (Vec ℕ Global) FileRefusal → SinkState → SinkState → Result Status Trouble → Type 0
EndsWithKernel s (Ok file) old new result = Ends (due_with_kernel s file.items) old new result
EndsWithKernel s (Err Absent) old new result = Ends (Err (ReadFault Part.Image)) old new result
EndsWithKernel s (Err Failed) old new result = Ends (Err (ReadFault Part.Image)) old new result
EndsWithKernel s (Err TooLong) old new result = Ends (Err (File (FileFault.Longer Part.Image))) old new result
EndsWithKernel s (Err ReadMemory) old new result = IsErrOf result Memory × (new ≡ old)

-- the kernel's file was read, once and up to the most bytes of an image, and what was found is answered
pub record ShowsKernel (s : Contents) (name : List ℕ) (files read : FilesState) (old new : SinkState) (result : Result Status Trouble) : Type 0 where
  pub found : Result (Vec ℕ Global) FileRefusal
  pub tells : ReadTells files name max_image_bytes found
  pub leaves : ReadLeaves files read name max_image_bytes found
  pub ends : EndsWithKernel s found old new result

-- a snapshot is shown, with the kernel's names where one is given
abbrev pub ShowsRead : Contents → (kernel : Option (List ℕ)) → FilesState → FilesState → SinkState → SinkState → Result Status Trouble → Type 0
ShowsRead s None files read old new result = (read ≡ files) × Ends (Ok (snapshot_text None s)) old new result
ShowsRead s (Some name) files read old new result = ShowsKernel s name files read old new result

-- ---- the snapshot

-- no other file is read
pub record Stays (files read : FilesState) (refusal : Refusal) (old new : SinkState) (result : Result Status Trouble) : Type 0 where
  pub same : read ≡ files
  pub refuses : Refuses refusal old new result

-- memory ran out, and nothing was written
pub record Wants (files read : FilesState) (old new : SinkState) (result : Result Status Trouble) : Type 0 where
  pub same : read ≡ files
  pub wants : IsErrOf result Memory
  pub quiet : new ≡ old

-- what is owed to what the bytes of the snapshot are
abbrev pub EndsJudged : (kernel : Option (List ℕ)) → Result Contents SnapRefusal → FilesState → FilesState → SinkState → SinkState
    → Result Status Trouble → Type 0
EndsJudged kernel (Ok s) files read old new result = ShowsRead s kernel files read old new result
EndsJudged kernel (Err refusal) files read old new result = Stays files read (File (FileFault.Snapshot refusal)) old new result

-- what is owed to the bytes of the snapshot
abbrev pub EndsBytes : (kernel : Option (List ℕ)) → (bytes : List ℕ) → FilesState → FilesState → SinkState → SinkState
    → Result Status Trouble → Type 0
EndsBytes kernel bytes files read old new result =
    Wants files read old new result ⊎ EndsJudged kernel (snapshot_read bytes) files read old new result

-- a snapshot that isn't read
abbrev pub EndsUnread : FileRefusal → SinkState → SinkState → Result Status Trouble → Type 0
EndsUnread Absent old new result = Refuses (ReadFault Part.Snapshot) old new result
EndsUnread Failed old new result = Refuses (ReadFault Part.Snapshot) old new result
EndsUnread TooLong old new result = Refuses (File (FileFault.Snapshot SnapRefusal.TooLong)) old new result
EndsUnread ReadMemory old new result = IsErrOf result Memory × (new ≡ old)

-- what is owed to what a read of the snapshot found
abbrev pub EndsAfter : (kernel : Option (List ℕ)) → Result (Vec ℕ Global) FileRefusal → FilesState → FilesState → SinkState → SinkState
    → Result Status Trouble → Type 0
EndsAfter kernel (Ok bytes) files read old new result = EndsBytes kernel bytes.items files read old new result
EndsAfter kernel (Err refusal) files read old new result = (read ≡ files) × EndsUnread refusal old new result

-- the snapshot's file was read, once and up to the most bytes of a snapshot, and what was found is answered
pub record ShowsFiles (asked : ShowSplit) (files read : FilesState) (old new : SinkState) (result : Result Status Trouble) : Type 0 where
  pub found : Result (Vec ℕ Global) FileRefusal
  -- the files once it was read
  pub between : FilesState
  pub tells : ReadTells files asked.saved max_snapshot_bytes found
  pub leaves : ReadLeaves files between asked.saved max_snapshot_bytes found
  pub ends : EndsAfter asked.kernel found between read old new result

-- words of no command read no file
abbrev pub Shows : Option ShowSplit → FilesState → FilesState → SinkState → SinkState → Result Status Trouble → Type 0
Shows None files read old new result = Stays files read NoCommand old new result
Shows (Some asked) files read old new result = Wants files read old new result ⊎ ShowsFiles asked files read old new result

-- the same by its status
pub record Headline (asked : Option ShowSplit) (files read : FilesState) (old new : SinkState) (answer : Status) : Type 0 where
  -- how it ended
  pub result : Result Status Trouble
  pub shows : Shows asked files read old new result
  pub status : answer ≡ status_of_end result

-- what is due was answered, however it ended
pub record Answers (due : Due) (old new : SinkState) (answer : Status) : Type 0 where
  pub result : Result Status Trouble
  pub ends : Ends due old new result
  pub status : answer ≡ status_of_end result

-- the files may be asked for, the snapshot before the kernel
abbrev pub MayAskKernel : (kernel : Option (List ℕ)) → FilesState → Type 0
MayAskKernel None files = Unit {0}
MayAskKernel (Some name) files = IsTrue (files.permits ((name, max_image_bytes) ∷ []))

abbrev pub MayAsk : Option ShowSplit → FilesState → Type 0
MayAsk None files = Unit {0}
MayAsk (Some asked) files =
    IsTrue (files.permits ((asked.saved, max_snapshot_bytes) ∷ [])) × MayAskKernel asked.kernel (after_asking asked.saved max_snapshot_bytes files)

-- Where a snapshot's text is due, the answer is 0; or a write failed, which is counted; or memory ran out.
abbrev pub ShowEnds : Type 0
ShowEnds = (text : List ℕ) (old new : SinkState) (answer : Status) → Answers (Ok text) old new answer →
    (answer ≡ Status.Done) ⊎ (((answer ≡ Status.WriteFault) × (old.faults < new.faults)) ⊎ (answer ≡ Status.Memory))
