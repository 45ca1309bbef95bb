-- What `survey` owes to what is asked of it: the console's bytes of a survey, the lines of what it found, and its report. This
-- project's own.
use Rattle.std.specs.Prelude.{◌≡◌, ℕ, List, [], ◌∷◌, ◌++◌, IsTrue, Option, Some, None, Result, Ok, Err, OnOk, IsErrOf}
use Rattle.sv_types.specs.Kernel.{kernel_segments}
use Rattle.sv_types.specs.Output.{run_status}
use Rattle.sv_types.specs.Policies.{ModuleRule, Rules}
use Rattle.sv_types.specs.Schedule.{first_events, line_feed}
use Rattle.sv_types.specs.declared.event.Event.{Event}
use Rattle.sv_types.specs.declared.event.Note.{Note}
use Rattle.sv_types.specs.declared.event.Verdict.{Verdict}
use Rattle.sv_types.specs.declared.status.Status.{Status}
use Rattle.spec_reference.specs.Report.{report}
use Rattle.spec_reference.specs.Start.{IsBootable, IsStart, boot_start}
use Rattle.spec_reference.specs.States.{State}
use Rattle.spec_hardware.specs.Machine.{Machine}
use Rattle.spec_hardware.specs.Reaches.{IsNew}
use Rattle.laws_simulation.specs.Passing.{survey}
use Rattle.elf64_load.specs.Names.{names_in}
use Rattle.report.specs.Findings.{PassedWrites, RefusedLoads}
use Rattle.report.specs.Lines.{found_lines, survey_lines}
use Rattle.report.specs.Views.{loads_view, notes_view, writes_view}
use Rattle.report.specs.declared.findings.found.Found.{Found}
use Rattle.host_io.specs.Endings.{status_of_end}
use Rattle.host_io.specs.Outside.{FilesState, SinkState}
use Rattle.host_io.specs.declared.trouble.Trouble.{Trouble}
use Rattle.host_io.specs.declared.trouble.Trouble.TheVariants.{Memory}
use Rattle.cli_plans.specs.CommandLine.{RunWords}
use Rattle.cli_plans.specs.Plans.{Due, Refuse, RunFrom, Make, run_plan, survey_plan}
use Rattle.cli_plans.specs.Reading.{CarriesOut, Follows}
use Rattle.cli_plans.specs.declared.refusal.Refusal.{Refusal}
use Rattle.secvisor_cli.specs.Answers.{Outside, outside, Writes, WritesAndSaves}
use Rattle.secvisor_cli.specs.Ready.{IsFresh, Prepares}
use Rattle.secvisor_cli.specs.declared.ready.Stop.{Stop}
use Rattle.cli_survey.specs.Noted.{noted}
use Rattle.cli_survey.specs.Refusals.{loads_in}
use Rattle.cli_survey.specs.Surveys.{StandsAmong, writes_in}
use Rattle.cli_survey.specs.declared.ready.ReadySurvey.{ReadySurvey}

-- ---- what is written

-- lines are set apart from the console before them, where there are any
abbrev pub set_apart : (lines : List ℕ) → List ℕ
set_apart [] = []
set_apart (byte ∷ lines) = line_feed ∷ byte ∷ lines

-- the lines of what was found, with the names of the kernel's file and of the policy's modules
abbrev pub lines_of : (file : List ℕ) → List ModuleRule → PassedWrites → RefusedLoads → List Note → List ℕ
lines_of file modules writes loads notes = set_apart (survey_lines (names_in file (kernel_segments file)) modules writes loads notes)

-- the same of what was found so far
abbrev pub lines_found : (file : List ℕ) → Machine → Found → List ℕ
lines_found file machine found =
    set_apart (found_lines (names_in file (kernel_segments file)) machine.rules.modules
    (writes_view found.writes) (loads_view found.loads) (notes_view found.noted machine.journal.notes))

-- what stands after the console
abbrev pub ending_of : (file : List ℕ) → PassedWrites → RefusedLoads → List Note → State → List ℕ
ending_of file writes loads notes last = lines_of file last.rules.modules writes loads notes ++ report last.journal

-- the machine stopped where a line says so
abbrev pub survey_status : (lines : List ℕ) → Verdict → Status
survey_status [] verdict = run_status verdict
survey_status (byte ∷ lines) verdict = Status.Stopped

abbrev pub lines_due : (file : List ℕ) → State → List Event → List ℕ
lines_due file start events =
    lines_of file (survey start events).rules.modules (writes_in start events) (loads_in start events) (noted start events)

-- all bytes that are due: the console of the survey, the lines of its findings, and the report
abbrev pub bytes_due : (file : List ℕ) → State → List Event → List ℕ
bytes_due file start events =
    (survey start events).journal.printed ++ ending_of file (writes_in start events) (loads_in start events) (noted start events) (survey start events)

abbrev pub status_due : (file : List ℕ) → State → List Event → Status
status_due file start events = survey_status (lines_due file start events) (survey start events).journal.verdict

-- ---- the survey

-- What is due was written, or a write failed, or memory ran out. The machine stands after some of the events, and after all of
-- them where nothing failed.
pub record SurveysTo (file : List ℕ) (start : State) (events : List Event) (machine : Machine) (old new : SinkState)
    (result : Result Status Trouble) : Type 0 where
  pub writes : Writes (status_due file start events) (bytes_due file start events) old new result
  pub among : StandsAmong start events machine
  pub all : OnOk result (among.left ≡ [])

-- the machine stands on the bench from then on, and no file changes
pub record RunsSurvey (file : List ℕ) (start : State) (events : List Event) (old new : Outside) (result : Result Status Trouble) : Type 0 where
  pub machine : Machine
  pub bench : new.bench ≡ Some machine
  pub files : new.files ≡ old.files
  pub surveys : SurveysTo file start events machine old.sink new.sink result

-- the start is the boot of this kernel's file, which the image's name holds, where the files tell what they hold
pub record StartsFrom (image : List ℕ) (files : FilesState) (start : State) (file : List ℕ) : Type 0 where
  pub rules : Rules
  pub disk : List ℕ
  pub bootable : IsBootable rules file
  pub same : start ≡ boot_start rules file disk
  pub held : IsTrue files.tells → files.held image ≡ Some file

-- ---- the answer

pub record SurveysFile (image : List ℕ) (files : FilesState) (start : State) (events : List Event) (old new : Outside)
    (result : Result Status Trouble) : Type 0 where
  pub file : List ℕ
  pub starts : StartsFrom image files start file
  pub runs : RunsSurvey file start events old new result

abbrev pub AnswersSurvey : (image : List ℕ) → FilesState → Due → Outside → Outside → Result Status Trouble → Type 0
AnswersSurvey image files (Refuse refusal) old new result = WritesAndSaves (Refuse refusal) old new result
AnswersSurvey image files (RunFrom start events save) old new result = SurveysFile image files start events old new result
AnswersSurvey image files (Make name rules line) old new result = ⊥

-- the same where memory ran out before what is due was ready: nothing happened
abbrev pub AnswersReached : (image : List ℕ) → FilesState → Option Due → Outside → Outside → Result Status Trouble → Type 0
AnswersReached image files None old new result = IsErrOf result Memory × (new ≡ old)
AnswersReached image files (Some due) old new result = AnswersSurvey image files due old new result

abbrev pub image_of : Result RunWords Refusal → List ℕ
image_of (Ok words) = words.image
image_of (Err refusal) = []

-- the files were asked as `run` asks, and what is due was answered
abbrev pub PerformsSurvey : Result RunWords Refusal → Outside → Outside → Result Status Trouble → Type 0
PerformsSurvey words old new result =
    CarriesOut (survey_plan words) old.files (λ read reached. AnswersReached (image_of words) old.files reached (outside read old.sink old.bench) new result)

-- the same from the words on that aren't refused
abbrev pub PerformsRun : RunWords → Outside → Outside → Result Status Trouble → Type 0
PerformsRun words old new result =
    CarriesOut (run_plan words) old.files (λ read reached. AnswersReached words.image old.files reached (outside read old.sink old.bench) new result)

-- the same by its status
pub record SurveyHeadline (words : Result RunWords Refusal) (old new : Outside) (answer : Status) : Type 0 where
  -- how the answer ended
  pub result : Result Status Trouble
  pub performs : PerformsSurvey words old new result
  pub status : answer ≡ status_of_end result

-- ---- what is made ready

-- a machine that was booted from this kernel's file
pub record BeginsSurvey (words : RunWords) (old new : FilesState) (ready : ReadySurvey) : Type 0 where
  pub start : State
  pub save : Option (List ℕ)
  pub follows : Follows (run_plan words) old new (Some (RunFrom start (first_events ready.booted.events ready.booted.script) save))
  pub is_new : IsNew ready.booted.machine start
  pub fresh : IsFresh ready.booted
  pub starts : StartsFrom words.image old start ready.kernel.bytes.items

abbrev pub PreparesSurvey : RunWords → FilesState → FilesState → Result ReadySurvey Stop → Type 0
PreparesSurvey words old new (Ok ready) = BeginsSurvey words old new ready
PreparesSurvey words old new (Err stop) = Prepares (run_plan words) old new (Err stop)

-- a machine that was booted a moment ago
pub record IsAtStart (machine : Machine) : Type 0 where
  pub start : State
  pub is_new : IsNew machine start
  pub is_start : IsStart start
