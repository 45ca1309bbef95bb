-- What `live` owes to what is asked of it: that of one list of events, the journal.
use Rattle.std.specs.Prelude.{◌≡◌, ◌≢◌, ◌≤◌, ◌⊎◌, ℕ, List, [], ◌++◌, length, Bool, true, false, Option, Some, None, Result, Ok, Err, IsErrOf}
use Rattle.sv_types.specs.declared.event.Event.{Event}
use Rattle.sv_types.specs.declared.event.Verdict.TheVariants.{Running}
use Rattle.sv_types.specs.declared.status.Status.{Status}
use Rattle.sv_types.specs.Output.{run_status}
use Rattle.spec_reference.specs.States.{State}
use Rattle.spec_reference.specs.Report.{output}
use Rattle.spec_reference.specs.Run.{run}
use Rattle.spec_hardware.specs.Machine.{Machine}
use Rattle.spec_hardware.specs.Reaches.{Reaches}
use Rattle.script.specs.AutoScripts.{events_of_text, first_refused}
use Rattle.host_io.specs.Outside.{FilesState, SinkState, after_taking, BreaksOff, TookPrefix}
use Rattle.live_keys.specs.Keys.{KeysState}
use Rattle.live_keys.specs.Placed.{keys_among, others_among}
use Rattle.machine.specs.Standing.{Stands, machine_output}
use Rattle.cli_live.specs.declared.threads.LiveEnd.{LiveEnd}
use Rattle.cli_live.specs.declared.live_run.LiveRun.{LiveRun}
use Rattle.cli_live.specs.Coming.{CameRunning}
use Rattle.cli_live.specs.Drives.{ComesLast, IsShownEarly}
use Rattle.cli_live.specs.Inputs.{HasKeys}
use Rattle.cli_live.specs.LiveRuns.{harts_of, events_made}
use Rattle.cli_plans.specs.declared.refusal.Refusal.{Refusal}
use Rattle.host_io.specs.declared.trouble.Trouble.{Trouble}
use Rattle.host_io.specs.declared.trouble.Trouble.TheVariants.{Write, Memory}
use Rattle.cli_plans.specs.Plans.{Due, Refuse, RunFrom, Make, Exactly, max_script_bytes, live_plan}
use Rattle.cli_plans.specs.Reading.{CarriesOut}
use Rattle.secvisor_cli.specs.Answers.{outside, IsFree, TriedInVain, Writes, SavedAfter, WritesAndSaves}
use Rattle.host_io.specs.Endings.{status_of_end}
use Rattle.cli_plans.specs.CommandLine.{LiveWords}
use Rattle.cli_live.specs.LiveReady.{out_of}

-- what stands outside the program: the files, the sink, the keys, and the machine on the bench
pub record LiveOutside : Type 0 where
  pub files : FilesState
  pub sink : SinkState
  pub keys : KeysState
  pub bench : Option Machine

abbrev pub live_outside : FilesState → SinkState → KeysState → Option Machine → LiveOutside
live_outside files sink keys bench = record { files = files; sink = sink; keys = keys; bench = bench }

-- ---- the script that is saved

-- a text that `run` accepts as a script, and reads as these events
pub record IsScriptOf (harts : ℕ) (events : List Event) (text : List ℕ) : Type 0 where
  pub reads : events_of_text harts text ≡ events
  pub accepted : first_refused text ≡ None
  pub short : length text ≤ max_script_bytes

-- The script is saved after what was to be written. Nothing is saved after a write that failed, or where memory ran out.
abbrev pub SavesScript : (harts : ℕ) → List Event → (name : List ℕ) → FilesState → FilesState → (written saved : Result Status Trouble) → Type 0
SavesScript harts events name old new (Err trouble) saved = (new ≡ old) × (saved ≡ Err trouble)
SavesScript harts events name old new (Ok status) saved =
    (text : List ℕ) × IsScriptOf harts events text × SavedAfter (Some (record { name = name; content = Exactly text })) old new (Ok status) saved

-- ---- the machine

-- The machine stands after all events of the journal, to which it came from one that had just started. Of its console bytes
-- that weren't taken before and the report the sink took a prefix.
pub record StandsBehind (start : State) (events : List Event) (machine : Machine) (old new : SinkState) : Type 0 where
  pub cleared : List ℕ
  pub stands : Stands machine cleared (run start events)
  pub first : Machine
  pub reaches : Reaches first start events machine
  pub rest : TookPrefix (after_taking old cleared) new (machine_output machine)

-- A write failed, and no event was made after it: of the console's bytes the sink took some before, and broke off in the rest, which
-- came due with the last event of the journal, or was shown early.
pub record BreaksLast (start : State) (journal asked : List Event) (old new : SinkState) : Type 0 where
  pub cleared : List ℕ
  pub rest : List ℕ
  pub printed : cleared ++ rest ≡ (run start journal).journal.printed
  pub broke : BreaksOff (after_taking old cleared) new rest
  pub late :
      ComesLast (IsShownEarly journal (length (others_among journal)) (length asked) (run start journal).journal.verdict) start journal cleared rest

-- ---- the answer

-- where a read of the keys failed, the status says so
abbrev pub read_status : (failed : Bool) → Status → Status
read_status true status = Status.ReadFault
read_status false status = status

abbrev pub after_reading : (failed : Bool) → Result Status Trouble → Result Status Trouble
after_reading failed (Err trouble) = Err trouble
after_reading failed (Ok status) = Ok (read_status failed status)

-- What is written and saved after a run: nothing, where a write failed in it.
pub record Reports (live : LiveRun) (ended : LiveEnd) (name : List ℕ) (f0 f1 : FilesState) (old new : SinkState) (result : Result Status Trouble) : Type 0 where
  -- how writing ended
  pub written : Result Status Trouble
  pub broke : ended.write_failed ≡ true → (written ≡ Err Write) × (new ≡ old)
  pub writes : ended.write_failed ≡ false → Writes (run_status live.machine.journal.verdict) (machine_output live.machine) old new written
  -- and how saving did
  pub saved : Result Status Trouble
  pub saves : SavesScript (harts_of live.script) (events_made live) name f0 f1 written saved
  pub status : result ≡ after_reading ended.read_failed saved

-- There is one list of events, the journal: the report, the status, the machine and the script that is saved are those of the
-- reference machine's run over it. Its keys are the bytes that were read, in order and each once; its other events are the
-- first of those that were asked for, all of them unless the machine has ended.
pub record RunsLive (start : State) (asked : List Event) (name : List ℕ) (old new : LiveOutside) (result : Result Status Trouble) : Type 0 where
  pub journal : List Event
  pub ended : LiveEnd
  pub keys : HasKeys old.keys new.keys (keys_among journal) ended
  pub left : List Event
  pub others : others_among journal ++ left ≡ asked
  pub all : ended.write_failed ≡ false → (left ≡ []) ⊎ ((run start journal).journal.verdict ≢ Running)
  -- once the machine has ended, keys alone are made
  pub came : CameRunning start journal
  -- how writing ended
  pub written : Result Status Trouble
  pub broke : ended.write_failed ≡ true → written ≡ Err Write
  -- the machine's loop ended at the write that failed
  pub late : ended.write_failed ≡ true → BreaksLast start journal asked old.sink new.sink
  pub writes : Writes (run_status (run start journal).journal.verdict) (output (run start journal)) old.sink new.sink written
  -- and how saving did
  pub saved : Result Status Trouble
  pub saves : SavesScript start.rules.harts journal name old.files new.files written saved
  pub status : result ≡ after_reading ended.read_failed saved
  pub bench : (machine : Machine) × (new.bench ≡ Some machine) × StandsBehind start journal machine old.sink new.sink

-- The name for the script is tried first: where no file can be made there, nothing is written, nothing runs and no key is read.
abbrev pub TriesAndRuns : State → List Event → (name : List ℕ) → LiveOutside → LiveOutside → Result Status Trouble → Type 0
TriesAndRuns start asked name old new result =
    (IsFree (Some name) old.files × RunsLive start asked name old new result)
    ⊎ (TriedInVain (outside old.files old.sink old.bench) (outside new.files new.sink new.bench) × (new.keys ≡ old.keys) × (result ≡ Err Write))

-- the status of a refusal, but for a file that isn't read
abbrev pub is_refusal : Status → Bool
is_refusal Status.Usage = true
is_refusal Status.Refused = true
is_refusal Status.Done = false
is_refusal Status.Stopped = false
is_refusal Status.ReadFault = false
is_refusal Status.WriteFault = false
is_refusal Status.Memory = false
is_refusal Status.Ended = false

-- what is due was answered. Where it is a refusal, no key is read
abbrev pub AnswersLive : (name : List ℕ) → Due → LiveOutside → LiveOutside → Result Status Trouble → Type 0
AnswersLive name (Refuse refusal) old new result =
    WritesAndSaves (Refuse refusal) (outside old.files old.sink old.bench) (outside new.files new.sink new.bench) result × (new.keys ≡ old.keys)
AnswersLive name (RunFrom start asked save) old new result = TriesAndRuns start asked name old new result
AnswersLive name (Make out rules line) old new result = ⊥

-- the same where memory ran out before what is due was ready: nothing happened
abbrev pub AnswersLiveReached : (name : List ℕ) → Option Due → LiveOutside → LiveOutside → Result Status Trouble → Type 0
AnswersLiveReached name None old new result = IsErrOf result Memory × (new ≡ old)
AnswersLiveReached name (Some due) old new result = AnswersLive name due old new result

-- the files were asked as the plan says, and what is due at its end was answered
abbrev pub PerformsLive : Result LiveWords Refusal → LiveOutside → LiveOutside → Result Status Trouble → Type 0
PerformsLive words old new result =
    CarriesOut (live_plan words) old.files
    (λ read reached. AnswersLiveReached (out_of words) reached (live_outside read old.sink old.keys old.bench) new result)

-- the same as a status
pub record LiveHeadline (words : Result LiveWords Refusal) (old new : LiveOutside) (answer : Status) : Type 0 where
  -- how the answer ended
  pub result : Result Status Trouble
  pub performs : PerformsLive words old new result
  pub status : answer ≡ status_of_end result
