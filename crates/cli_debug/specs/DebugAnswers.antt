-- What `debug` owes to what is asked of it: the session of the run of its files is served. This project's own.
use Rattle.std.specs.Prelude.{◌≡◌, ◌⊎◌, ℕ, List, Option, Some, None, Result, Ok, Err, IsErrOf, IsTrue}
use Rattle.sv_types.specs.Policies.{Rules}
use Rattle.sv_types.specs.declared.event.Event.{Event}
use Rattle.sv_types.specs.declared.status.Status.{Status}
use Rattle.spec_reference.specs.Start.{boot_start}
use Rattle.spec_reference.specs.States.{State}
use Rattle.host_io.specs.Endings.{status_of_end}
use Rattle.host_io.specs.Outside.{FilesState, SinkState}
use Rattle.host_io.specs.declared.trouble.Trouble.{Trouble}
use Rattle.host_io.specs.declared.trouble.Trouble.TheVariants.{Write, Memory}
use Rattle.live_keys.specs.Keys.{KeysState}
use Rattle.debug_session.specs.Runs.{Run}
use Rattle.debug_session.specs.declared.breakdown.Breakdown.{Breakdown}
use Rattle.debug_session.specs.declared.breakdown.Breakdown.TheVariants as breakdown
use Rattle.cli_plans.specs.declared.refusal.Refusal.{Refusal}
use Rattle.cli_plans.specs.CommandLine.{RunWords}
use Rattle.cli_plans.specs.Plans.{Due, Refuse, RunFrom, Make, run_plan}
use Rattle.cli_plans.specs.Reading.{Follows}
use Rattle.cli_trials.specs.Writing.{Refuses}
use Rattle.cli_debug.specs.Debugged.{run_from}
use Rattle.cli_debug.specs.Debugging.{Debugs}

-- how a session ends
abbrev pub end_of_session : Result (Unit {0}) Breakdown → Result Status Trouble
end_of_session (Ok done) = Ok Status.Done
end_of_session (Err breakdown.Read) = Ok Status.ReadFault
end_of_session (Err breakdown.Write) = Err Write
end_of_session (Err breakdown.Memory) = Err Memory

-- What stands outside: the bytes that a debugger sends, and the sink of the answers
pub record Wire : Type 0 where
  pub keys : KeysState
  pub sink : SinkState

abbrev pub wire : KeysState → SinkState → Wire
wire keys sink = record { keys = keys; sink = sink }

-- the session of a run was served
pub record DebugsRun (run : Run) (old new : Wire) (result : Result Status Trouble) : Type 0 where
  pub served : Result (Unit {0}) Breakdown
  pub debugs : Debugs run old.keys new.keys old.sink new.sink served
  pub result_is : result ≡ end_of_session served

-- a refusal reads no byte
abbrev pub RefusesDebug : Refusal → (old new : Wire) → Result Status Trouble → Type 0
RefusesDebug refusal old new result = (new.keys ≡ old.keys) × Refuses refusal old.sink new.sink result

-- the session of the run that begins with the boot of this kernel's file, which the image's name holds, where the files tell
-- what they hold
pub record DebugsBoot (image : List ℕ) (files : FilesState) (start : State) (events : List Event) (old new : Wire)
    (result : Result Status Trouble) : Type 0 where
  pub rules : Rules
  pub file : List ℕ
  pub disk : List ℕ
  pub same : start ≡ boot_start rules file disk
  pub held : IsTrue files.tells → files.held image ≡ Some file
  pub debugs : DebugsRun (run_from file start events) old new result

abbrev pub AnswersDue : (image : List ℕ) → FilesState → Due → (old new : Wire) → Result Status Trouble → Type 0
AnswersDue image files (Refuse refusal) old new result = RefusesDebug refusal old new result
AnswersDue image files (RunFrom start events save) old new result = DebugsBoot image files start events old new result
AnswersDue image files (Make name rules line) old new result = ⊥

-- the same where memory ran out before the end of the plan
abbrev pub AnswersReached : (image : List ℕ) → FilesState → Option Due → (old new : Wire) → Result Status Trouble → Type 0
AnswersReached image files None old new result = IsErrOf result Memory × (new ≡ old)
AnswersReached image files (Some due) old new result = AnswersDue image files due old new result

-- the files were asked as `run` asks, and what is due was answered
pub record DebugsFiles (words : RunWords) (files read : FilesState) (old new : Wire) (result : Result Status Trouble) : Type 0 where
  pub reached : Option Due
  pub follows : Follows (run_plan words) files read reached
  pub answers : AnswersReached words.image files reached old new result

-- memory ran out before a file was read
abbrev pub Wants : (files read : FilesState) (old new : Wire) → Result Status Trouble → Type 0
Wants files read old new result = IsErrOf result Memory × (read ≡ files) × (new ≡ old)

-- words that are refused read no file
abbrev pub AnswersDebug : Result RunWords Refusal → (files read : FilesState) (old new : Wire) → Result Status Trouble → Type 0
AnswersDebug (Err refusal) files read old new result = (read ≡ files) × RefusesDebug refusal old new result
AnswersDebug (Ok words) files read old new result = Wants files read old new result ⊎ DebugsFiles words files read old new result

-- the same by its status
pub record DebugHeadline (words : Result RunWords Refusal) (files read : FilesState) (old new : Wire) (answer : Status) : Type 0 where
  -- how it ended
  pub result : Result Status Trouble
  pub answers : AnswersDebug words files read old new result
  pub status : answer ≡ status_of_end result
