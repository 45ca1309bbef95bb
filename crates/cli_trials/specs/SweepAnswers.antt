-- What `sweep` owes to what is asked of it: how the runs of all numbers end, counted. This project's own.
use Rattle.std.specs.Prelude.{◌≡◌, ◌⊎◌, List, map, Option, Some, None, Result, Ok, Err, IsErrOf}
use Rattle.sv_types.specs.ApprovedPages.{numbers_from}
use Rattle.sv_types.specs.declared.status.Status.{Status}
use Rattle.spec_reference.specs.States.{State}
use Rattle.host_io.specs.Endings.{status_of_end}
use Rattle.host_io.specs.Outside.{FilesState, SinkState}
use Rattle.host_io.specs.declared.trouble.Trouble.{Trouble}
use Rattle.host_io.specs.declared.trouble.Trouble.TheVariants.{Memory}
use Rattle.cli_plans.specs.declared.refusal.Refusal.{Refusal}
use Rattle.cli_plans.specs.CommandLine.{SweepWords, first_run}
use Rattle.cli_plans.specs.Plans.{Plan, Due, Refuse, RunFrom, Make, run_plan, asked_plan}
use Rattle.cli_plans.specs.Reading.{Follows, MayFollow}
use Rattle.script_lines.specs.declared.tally.outcome.Outcome.{Outcome}
use Rattle.script_lines.specs.declared.tally.tally.Tally.{Tally}
use Rattle.script_lines.specs.Tallies.{tallies_of}
use Rattle.script_lines.specs.TallyLines.{sweep_text, sweep_status}
use Rattle.cli_trials.specs.Writing.{WritesAll, Refuses}
use Rattle.cli_trials.specs.Sweeps.{end_at}

-- ---- the runs

-- the tallies of all numbers' runs
abbrev pub entries_due : SweepWords → State → List (Outcome × Tally)
entries_due words start = tallies_of words.first (map (end_at words.events words.order start) (numbers_from words.first words.count))

-- ---- what is answered

-- the lines of the runs of all numbers where the first number's run begins somewhere
abbrev pub AnswersDue : SweepWords → Due → SinkState → SinkState → Result Status Trouble → Type 0
AnswersDue words (Refuse refusal) old new result = Refuses refusal old new result
AnswersDue words (RunFrom start events save) old new result =
    WritesAll (sweep_status (entries_due words start)) (sweep_text (entries_due words start)) old new result
AnswersDue words (Make name rules line) old new result = ⊥

-- the same where memory ran out before the end of the plan
abbrev pub AnswersReached : SweepWords → Option Due → SinkState → SinkState → Result Status Trouble → Type 0
AnswersReached words None old new result = IsErrOf result Memory × (new ≡ old)
AnswersReached words (Some due) old new result = AnswersDue words due old new result

-- the files were asked as `run` asks for the first number's run, and what is due was answered
pub record SweepsFiles (words : SweepWords) (files read : FilesState) (old new : SinkState) (result : Result Status Trouble) : Type 0 where
  pub reached : Option Due
  pub follows : Follows (run_plan (first_run words)) files read reached
  pub answers : AnswersReached words reached old new result

-- memory ran out before a file was read
abbrev pub Wants : FilesState → FilesState → SinkState → SinkState → Result Status Trouble → Type 0
Wants files read old new result = IsErrOf result Memory × (read ≡ files) × (new ≡ old)

-- words that are refused read no file
abbrev pub Sweeps : Result SweepWords Refusal → FilesState → FilesState → SinkState → SinkState → Result Status Trouble → Type 0
Sweeps (Err refusal) files read old new result = (read ≡ files) × Refuses refusal old new result
Sweeps (Ok words) files read old new result = Wants files read old new result ⊎ SweepsFiles words files read old new result

-- the same by its status
pub record SweepHeadline (words : Result SweepWords Refusal) (files read : FilesState) (old new : SinkState) (answer : Status) : Type 0 where
  -- how it ended
  pub result : Result Status Trouble
  pub sweeps : Sweeps words files read old new result
  pub status : answer ≡ status_of_end result

-- what `run` reads for the first number may be asked for
abbrev pub MayAsk : Result SweepWords Refusal → FilesState → Type 0
MayAsk (Err refusal) files = Unit {0}
MayAsk (Ok words) files = MayFollow (run_plan (first_run words)) files

-- the first number's run, or a refusal
abbrev pub sweep_plan : Result SweepWords Refusal → Plan
sweep_plan words = asked_plan (λ w. run_plan (first_run w)) words
