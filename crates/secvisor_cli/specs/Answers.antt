-- What the program owes to what is asked of it.
use Rattle.std.specs.Prelude.{◌≡◌, ◌≢◌, ◌<◌, ◌≤◌, ◌⊎◌, ℕ, List, [], ◌++◌, length, Bool, true, false, IsTrue, IsFalse, Option, Some, None}
use Rattle.std.specs.Prelude.{Result, Ok, Err, OnOk, IfOk, IsErrOf}
use Rattle.sv_types.specs.Limits.{max_printed}
use Rattle.sv_types.specs.declared.event.Event.{Event}
use Rattle.sv_types.specs.declared.status.Status.{Status}
use Rattle.spec_reference.specs.States.{State}
use Rattle.sv_types.specs.Output.{run_status}
use Rattle.spec_reference.specs.Disk.{disk_bytes}
use Rattle.spec_reference.specs.Report.{output}
use Rattle.spec_reference.specs.Run.{run}
use Rattle.spec_hardware.specs.Machine.{Machine}
use Rattle.spec_hardware.specs.Reaches.{Reaches}
use Rattle.host_io.specs.Outside.{FilesState, SinkState, MayTry, TryFails, after_taking, TookPrefix, BreaksOff}
use Rattle.host_io.specs.declared.trouble.Trouble.{Trouble}
use Rattle.host_io.specs.declared.trouble.Trouble.TheVariants.{Write, Memory}
use Rattle.cli_plans.specs.Refusals.{refusal_line, takes_memory}
use Rattle.cli_plans.specs.Plans.{Due, Refuse, RunFrom, Make, Saving, saving_of_bytes, policy_saving, Plan, bytes_due, status_due, saves_due}
use Rattle.machine.specs.Console.{flush_is_due}
use Rattle.cli_plans.specs.Reading.{CarriesOut, Follows, Saved, SaveBroke}
use Rattle.machine.specs.Standing.{Stands, machine_output}

-- what stands outside the program: the files, the sink, and the machine on the bench
pub record Outside : Type 0 where
  pub files : FilesState
  pub sink : SinkState
  pub bench : Option Machine

abbrev pub outside : FilesState → SinkState → Option Machine → Outside
outside files sink bench = record { files = files; sink = sink; bench = bench }

-- ---- the try of a save

-- the name that is tried before a run, where its end is to be saved. A policy that is made is saved at once
abbrev pub tries_due : Due → Option (List ℕ)
tries_due (Refuse refusal) = None
tries_due (RunFrom start events save) = save
tries_due (Make name rules line) = None

abbrev pub MayTryWhere : Option (List ℕ) → FilesState → Type 0
MayTryWhere None files = Unit {0}
MayTryWhere (Some name) files = MayTry name files

-- as far as the files know, a file can be made under the name
abbrev pub IsFree : Option (List ℕ) → FilesState → Type 0
IsFree None files = Unit {0}
IsFree (Some name) files = files.bars name ≡ false

-- a name was tried, where one is given: that changes nothing, or no file can be made there
abbrev pub AfterTry : Option (List ℕ) → FilesState → FilesState → Result (Unit {0}) Trouble → Type 0
AfterTry name old new (Ok _) = IsFree name old × (new ≡ old)
AfterTry None old new (Err trouble) = ⊥
AfterTry (Some name) old new (Err Write) = TryFails old new
AfterTry (Some name) old new (Err Memory) = ⊥

-- no file can be made where one is to be saved, so that nothing is written and nothing runs
pub record TriedInVain (old new : Outside) : Type 0 where
  pub files : TryFails old.files new.files
  pub sink : new.sink ≡ old.sink
  pub bench : new.bench ≡ old.bench

abbrev pub GaveUp : Option (List ℕ) → Outside → Outside → Type 0
GaveUp None old new = ⊥
GaveUp (Some name) old new = TriedInVain old new

-- ---- the run

-- The machine stands after all of the events, fewer than 4,096 bytes of its console weren't taken, which don't end with a
-- line feed, and of these and the report the sink took a prefix; or else a write of the console failed, of 4,096 bytes or of
-- fewer that end with a line feed. By the events that it made it came there from one that had just started.
pub record RunsTo (wanting : Type 0) (start : State) (events : List Event) (machine : Machine) (old new : SinkState) : Type 0 where
  pub done : List Event
  pub left : List Event
  pub split : done ++ left ≡ events
  -- the console bytes that the sink took before
  pub cleared : List ℕ
  pub stands : Stands machine cleared (run start done)
  pub first : Machine
  pub reaches : Reaches first start done machine
  pub rest :
      ((left ≡ []) × (length machine.journal.printed < max_printed) × IsFalse (flush_is_due machine.journal.printed)
      × TookPrefix (after_taking old cleared) new (machine_output machine))
      ⊎ ((length machine.journal.printed ≤ max_printed) × IsTrue (flush_is_due machine.journal.printed)
      × BreaksOff (after_taking old cleared) new machine.journal.printed)
  -- nothing is written where memory ran out
  pub quiet : wanting → new ≡ after_taking old cleared

-- The bench: as it was where nothing is to be booted, and else the machine that the run left.
abbrev pub BenchAfter : (wanting : Type 0) → Due → SinkState → SinkState → Option Machine → Option Machine → Type 0
BenchAfter wanting (Refuse refusal) old new bench_old bench_new = bench_new ≡ bench_old
BenchAfter wanting (RunFrom start events save) old new bench_old bench_new =
    (machine : Machine) × (bench_new ≡ Some machine) × RunsTo wanting start events machine old new
BenchAfter wanting (Make name rules line) old new bench_old bench_new = bench_new ≡ bench_old

-- words are refused without asking for memory, and a policy that is made is saved without
abbrev pub may_want : Due → Bool
may_want (Refuse refusal) = takes_memory refusal
may_want (RunFrom start events save) = true
may_want (Make name rules line) = false

-- Where memory runs out for a refusal's line, nothing of it is written. What a run wrote before stands with its bench.
abbrev pub StaysQuiet : Due → SinkState → SinkState → Type 0
StaysQuiet (Refuse refusal) old new = new ≡ old
StaysQuiet (RunFrom start events save) old new = Unit {0}
StaysQuiet (Make name rules line) old new = new ≡ old

-- ---- the answer

-- a status that is neither a write fault nor out of memory
abbrev pub is_answer : Status → Bool
is_answer Status.Done = true
is_answer Status.Stopped = true
is_answer Status.Usage = true
is_answer Status.Refused = true
is_answer Status.ReadFault = true
is_answer Status.WriteFault = false
is_answer Status.Memory = false
is_answer Status.Ended = true

-- within the program: this status and all of these bytes; else a write failed, or memory ran out
pub record Writes (due : Status) (bytes : List ℕ) (old new : SinkState) (result : Result Status Trouble) : Type 0 where
  pub status : IfOk result (λ s. s ≡ due)
  pub proper : IfOk result (λ s. IsTrue (is_answer s))
  pub whole : OnOk result (new ≡ after_taking old bytes)
  pub prefix : TookPrefix old new bytes
  pub write : IsErrOf result Write → old.faults < new.faults
  pub memory : IsErrOf result Memory → new.faults ≡ old.faults

-- a save that was asked for
abbrev pub AfterSave : Option Saving → FilesState → FilesState → Result (Unit {0}) Trouble → Type 0
AfterSave None old new (Ok _) = new ≡ old
AfterSave None old new (Err trouble) = ⊥
AfterSave (Some saving) old new (Ok _) = Saved saving old new
AfterSave (Some saving) old new (Err Write) = SaveBroke saving old new
AfterSave (Some saving) old new (Err Memory) = ⊥

-- Saving, after what was to be written: nothing is saved after a write that failed, or where memory ran out.
abbrev pub SavedAfter : Option Saving → FilesState → FilesState → (written result : Result Status Trouble) → Type 0
SavedAfter None old new written result = (new ≡ old) × (result ≡ written)
SavedAfter (Some saving) old new (Err trouble) result = (new ≡ old) × (result ≡ Err trouble)
SavedAfter (Some saving) old new (Ok status) result =
    (Saved saving old new × (result ≡ Ok status)) ⊎ (SaveBroke saving old new × (result ≡ Err Write))

-- a run and its report, and then its disk
pub record RunsAndSaves (start : State) (events : List Event) (save : Option (List ℕ)) (machine : Machine) (files_old files_new : FilesState)
    (old new : SinkState) (result : Result Status Trouble) : Type 0 where
  -- how writing ended
  pub written : Result Status Trouble
  pub writes : Writes (run_status (run start events).journal.verdict) (output (run start events)) old new written
  pub saves : SavedAfter (saving_of_bytes (disk_bytes (run start events).devices.disk) save) files_old files_new written result
  pub runs : RunsTo (IsErrOf result Memory) start events machine old new

-- A policy was saved, and then its line written. Where the save failed, nothing was written.
abbrev pub SavesAndWrites : Saving → (line : List ℕ) → FilesState → FilesState → SinkState → SinkState → Result Status Trouble → Type 0
SavesAndWrites saving line files saved old new (Ok status) =
    (status ≡ Status.Done) × Saved saving files saved × (new ≡ after_taking old line)
SavesAndWrites saving line files saved old new (Err Write) =
    (SaveBroke saving files saved × (new ≡ old)) ⊎ (Saved saving files saved × BreaksOff old new line)
SavesAndWrites saving line files saved old new (Err Memory) = ⊥

-- what is due was written, and then saved
pub record WritesAndSaves (due : Due) (old new : Outside) (result : Result Status Trouble) : Type 0 where
  -- how writing ended
  pub written : Result Status Trouble
  pub writes : Writes (status_due due) (bytes_due due) old.sink new.sink written
  pub saves : SavedAfter (saves_due due) old.files new.files written result
  pub wants : IsErrOf result Memory → IsTrue (may_want due)
  pub quiet : IsErrOf result Memory → StaysQuiet due old.sink new.sink
  pub bench : BenchAfter (IsErrOf result Memory) due old.sink new.sink old.bench new.bench

-- A policy is saved before its line is written. A disk is saved after the report, and its name tried before the run.
abbrev pub Answers : Due → Outside → Outside → Result Status Trouble → Type 0
Answers (Refuse refusal) old new result = WritesAndSaves (Refuse refusal) old new result
Answers (RunFrom start events save) old new result =
    (IsFree save old.files × WritesAndSaves (RunFrom start events save) old new result)
    ⊎ (GaveUp save old new × (result ≡ Err Write))
Answers (Make name rules line) old new result =
    SavesAndWrites (policy_saving name rules) line old.files new.files old.sink new.sink result
    × (new.bench ≡ old.bench)

-- the same where memory ran out for a read, or before what is due was ready: nothing happened
abbrev pub AnswersReached : Option Due → Outside → Outside → Result Status Trouble → Type 0
AnswersReached None old new result = IsErrOf result Memory × (new ≡ old)
AnswersReached (Some due) old new result = Answers due old new result

-- the files were asked as the plan says, and what is due at its end was answered
abbrev pub Performs : Plan → Outside → Outside → Result Status Trouble → Type 0
Performs plan old new result = CarriesOut plan old.files (λ read reached. AnswersReached reached (outside read old.sink old.bench) new result)

-- Saved where the status is that of the end; else a write fault is the sink's or that of the save, which comes when all
-- bytes are written; nothing is saved where memory ran out.
pub record MeetsSaving (saving : Saving) (bytes : List ℕ) (old new : Outside) (answer : Status) : Type 0 where
  pub saved : IsTrue (is_answer answer) → Saved saving old.files new.files
  pub broke : answer ≡ Status.WriteFault →
      ((new.files ≡ old.files) × (old.sink.faults < new.sink.faults))
      ⊎ (SaveBroke saving old.files new.files × (new.sink ≡ after_taking old.sink bytes))
  pub wanting : answer ≡ Status.Memory → new.files ≡ old.files

-- where nothing is due to be saved, a write fault is answered exactly where the sink's count rose
abbrev pub MeetsSavesAfter : Option Saving → List ℕ → Outside → Outside → Status → Type 0
MeetsSavesAfter None bytes old new answer =
    (new.files ≡ old.files) × (answer ≡ Status.WriteFault → old.sink.faults < new.sink.faults)
MeetsSavesAfter (Some saving) bytes old new answer = MeetsSaving saving bytes old new answer

-- Saved where the status is that of the end; else a write fault is that of the save, before which nothing is written, or
-- the sink's, after it.
pub record MeetsSavingFirst (saving : Saving) (old new : Outside) (answer : Status) : Type 0 where
  pub saved : IsTrue (is_answer answer) → Saved saving old.files new.files
  pub broke : answer ≡ Status.WriteFault →
      (SaveBroke saving old.files new.files × (new.sink ≡ old.sink))
      ⊎ (Saved saving old.files new.files × (old.sink.faults < new.sink.faults))

abbrev pub MeetsSaves : Due → Outside → Outside → Status → Type 0
MeetsSaves (Refuse refusal) old new answer = MeetsSavesAfter None (refusal_line refusal) old new answer
MeetsSaves (RunFrom start events save) old new answer =
    MeetsSavesAfter (saves_due (RunFrom start events save)) (output (run start events)) old new answer
MeetsSaves (Make name rules line) old new answer = MeetsSavingFirst (policy_saving name rules) old new answer

-- The status and all bytes that are due, unless a write failed or memory ran out.
pub record Meets (due : Due) (old new : Outside) (answer : Status) : Type 0 where
  pub status : IsTrue (is_answer answer) → answer ≡ status_due due
  pub whole : IsTrue (is_answer answer) → new.sink ≡ after_taking old.sink (bytes_due due)
  -- never more than a prefix of these bytes
  pub prefix : TookPrefix old.sink new.sink (bytes_due due)
  pub saves : MeetsSaves due old new answer
  pub no_write : answer ≢ Status.WriteFault → new.sink.faults ≡ old.sink.faults
  -- words that are refused never run out of memory, nor does a policy that is made
  pub wants : answer ≡ Status.Memory → IsTrue (may_want due)
  -- nothing of a refusal's line is written where memory ran out for it
  pub quiet : answer ≡ Status.Memory → StaysQuiet due old.sink new.sink
  pub bench : BenchAfter (answer ≡ Status.Memory) due old.sink new.sink old.bench new.bench

-- or the name that is tried before a run takes no file: a write fault, and nothing else happened
abbrev pub MeetsDue : Due → Outside → Outside → Status → Type 0
MeetsDue due old new answer =
    (IsFree (tries_due due) old.files × Meets due old new answer)
    ⊎ (GaveUp (tries_due due) old new × (answer ≡ Status.WriteFault))

abbrev pub MeetsReached : Option Due → Outside → Outside → Status → Type 0
MeetsReached None old new answer = (answer ≡ Status.Memory) × (new ≡ old)
MeetsReached (Some due) old new answer = MeetsDue due old new answer

-- The report, the status, the machine and the saved disk are those of the reference machine: of its run from the start
-- that the words and the files ask for; or else the first refusal is answered.
pub record Headline (plan : Plan) (old new : Outside) (answer : Status) : Type 0 where
  pub reached : Option Due
  -- the files once they were read
  pub read : FilesState
  pub follows : Follows plan old.files read reached
  pub meets : MeetsReached reached (outside read old.sink old.bench) new answer
