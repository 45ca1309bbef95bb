-- What `shrink` owes to what is asked of it: a small script under which the run stops as it does under its own. This project's own.
use Rattle.std.specs.Prelude.{◌≡◌, ◌⊎◌, ℕ, List, [], Option, Some, None, Result, Ok, Err, IsErrOf, string_bytes}
use Rattle.sv_types.specs.declared.event.Event.{Event}
use Rattle.sv_types.specs.declared.status.Status.{Status}
use Rattle.spec_reference.specs.Run.{run}
use Rattle.spec_reference.specs.States.{State}
use Rattle.host_io.specs.Endings.{status_of_end}
use Rattle.host_io.specs.Outside.{FilesState, SinkState, MaySaveUnder}
use Rattle.host_io.specs.declared.trouble.Trouble.{Trouble}
use Rattle.host_io.specs.declared.trouble.Trouble.TheVariants.{Memory}
use Rattle.cli_plans.specs.declared.refusal.Refusal.{Refusal}
use Rattle.cli_plans.specs.CommandLine.{SnapWords}
use Rattle.cli_plans.specs.Plans.{Due, Refuse, RunFrom, Make, Exactly, Saving, run_plan}
use Rattle.cli_plans.specs.Reading.{CarriesOut, MayFollow}
use Rattle.secvisor_cli.specs.Answers.{SavesAndWrites}
use Rattle.script_lines.specs.declared.tally.outcome.Outcome.{Outcome}
use Rattle.script_lines.specs.Tallies.{outcome_of}
use Rattle.cli_trials.specs.Trials.{end_from, text_schedule}
use Rattle.cli_trials.specs.Writing.{WritesAll, Refuses}
use Rattle.cli_trials.specs.declared.shrink.shrinking.Script.{Script}
use Rattle.cli_trials.specs.declared.shrink.shrinking.Shrunk.{Shrunk}
use Rattle.cli_trials.specs.declared.shrink.shrinking.Shrunk.TheVariants.{NothingStopped, Made}
use Rattle.cli_trials.specs.Lines.{shrunk_line, shrunk_status}
use Rattle.cli_trials.specs.Shrinking.{IsShrunkAs}

-- how the reference machine's run from a start ends under the text of a script, none where that isn't one
abbrev pub end_of_text : State → (events : ℕ) → (text : List ℕ) → Option Outcome
end_of_text start events text = end_from start events (text_schedule text start.rules.harts)

-- ---- what is saved and written

-- exactly its text
abbrev pub script_saving : (name : List ℕ) → Script → Saving
script_saving name script = record { name = name; content = Exactly (string_bytes script.text) }

-- a script is saved before its line is written; where there is none, nothing is saved
abbrev pub AnswersShrunk : (name : List ℕ) → Shrunk → FilesState → FilesState → SinkState → SinkState → Result Status Trouble → Type 0
AnswersShrunk name NothingStopped files saved old new result =
    (saved ≡ files) × WritesAll (shrunk_status NothingStopped) (shrunk_line NothingStopped) old new result
AnswersShrunk name (Made script) files saved old new result =
    SavesAndWrites (script_saving name script) (shrunk_line (Made script)) files saved old new result

-- memory ran out, and nothing happened
abbrev pub Wants : FilesState → FilesState → SinkState → SinkState → Result Status Trouble → Type 0
Wants files saved old new result = IsErrOf result Memory × (saved ≡ files) × (new ≡ old)

-- the reference machine's run over these events was made small, by runs of at most so many events, and answered
pub record AnswersRun (start : State) (events : List Event) (most : ℕ) (name : List ℕ) (files saved : FilesState) (old new : SinkState)
    (result : Result Status Trouble) : Type 0 where
  pub shrunk : Shrunk
  pub small : IsShrunkAs (outcome_of (run start events).journal.verdict) (end_of_text start most) shrunk
  pub answers : AnswersShrunk name shrunk files saved old new result

abbrev pub AnswersDue : SnapWords → Due → FilesState → FilesState → SinkState → SinkState → Result Status Trouble → Type 0
AnswersDue words (Refuse refusal) files saved old new result = (saved ≡ files) × Refuses refusal old new result
AnswersDue words (RunFrom start events save) files saved old new result =
    Wants files saved old new result ⊎ AnswersRun start events words.run.events words.out files saved old new result
AnswersDue words (Make name rules line) files saved old new result = ⊥

-- the same where memory ran out before the end of the plan
abbrev pub AnswersReached : SnapWords → Option Due → FilesState → FilesState → SinkState → SinkState → Result Status Trouble → Type 0
AnswersReached words None files saved old new result = Wants files saved old new result
AnswersReached words (Some due) files saved old new result = AnswersDue words due files saved old new result

-- ---- the answer

-- the files were asked as `run` asks, and what is due was answered
abbrev pub ShrinksFiles : SnapWords → FilesState → FilesState → SinkState → SinkState → Result Status Trouble → Type 0
ShrinksFiles words files saved old new result = CarriesOut (run_plan words.run) files (λ read reached. AnswersReached words reached read saved old new result)

-- words that are refused read no file
abbrev pub Shrinks : Result SnapWords Refusal → FilesState → FilesState → SinkState → SinkState → Result Status Trouble → Type 0
Shrinks (Err refusal) files saved old new result = (saved ≡ files) × Refuses refusal old new result
Shrinks (Ok words) files saved old new result = Wants files saved old new result ⊎ ShrinksFiles words files saved old new result

-- the same by its status
pub record ShrinkHeadline (words : Result SnapWords Refusal) (files saved : FilesState) (old new : SinkState) (answer : Status) : Type 0 where
  -- how it ended
  pub result : Result Status Trouble
  pub shrinks : Shrinks words files saved old new result
  pub status : answer ≡ status_of_end result

-- ---- what may be asked for

-- the name that the script is saved under
abbrev pub out_of : Result SnapWords Refusal → List ℕ
out_of (Ok words) = words.out
out_of (Err refusal) = []

-- what `run` reads may be read, and bytes may be saved once under the last word
abbrev pub MayAsk : Result SnapWords Refusal → FilesState → Type 0
MayAsk (Err refusal) files = Unit {0}
MayAsk (Ok words) files = MayFollow (run_plan words.run) files × MaySaveUnder words.out files
