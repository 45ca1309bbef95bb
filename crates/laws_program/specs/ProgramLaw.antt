-- The guarantee of the program: where it was asked for a run and answered as the run ended, what it printed and saved is that of a
-- run of the reference machine which is guarded, event by event. This project's own.
use Rattle.std.specs.Prelude.{◌≡◌, ℕ, List, Option, Some, None, Result, Ok, Err}
use Rattle.sv_types.specs.Output.{run_status}
use Rattle.sv_types.specs.declared.event.Event.{Event}
use Rattle.sv_types.specs.declared.status.Status.{Status}
use Rattle.spec_reference.specs.Disk.{disk_bytes}
use Rattle.spec_reference.specs.Report.{output}
use Rattle.spec_reference.specs.Run.{run}
use Rattle.spec_reference.specs.States.{State}
use Rattle.snapshot_format.specs.declared.whole.Snapshot.{Snapshot}
use Rattle.laws_resume.specs.SnapLaws.{IsSnapshotOf}
use Rattle.host_io.specs.Outside.{FilesState, after_taking}
use Rattle.cli_plans.specs.CommandLine.{Command, Flat, Generated, Run, MakePolicy, Convert, LiveWords, SnapWords, ResumeWords}
use Rattle.cli_plans.specs.Plans.{RunFrom, Plan, Saving, Exactly, saving_of_bytes, plan_of, live_plan, snap_plan}
use Rattle.cli_plans.specs.Reading.{Follows, Saved}
use Rattle.cli_plans.specs.declared.refusal.Refusal.{Refusal}
use Rattle.secvisor_cli.specs.Answers.{Headline, Outside}
use Rattle.cli_live.specs.LiveAnswers.{LiveHeadline, LiveOutside, IsScriptOf}
use Rattle.cli_live.specs.LiveReady.{out_of}
use Rattle.cli_snap.specs.SnapAnswers.{SnapHeadline, saving_of}
use Rattle.cli_snap.specs.SnapReady.{out_of as snap_out}
use Rattle.cli_snap.specs.ResumePlans.{resume_plan}
use Rattle.laws_guarantee.specs.Guarded.{IsGuarded}
use Rattle.laws_program.specs.Starts.{IsMeasuredStart}
use Rattle.laws_program.specs.ResumeLaw.{HoldBytes, IsResumedStart}

-- ---- what is asked, and what is answered

-- a run is asked for, and no policy
abbrev pub AsksRun : Result Command Refusal → Type 0
AsksRun (Ok (Flat file wanted events)) = Unit {0}
AsksRun (Ok (Generated calls)) = Unit {0}
AsksRun (Ok (Run words)) = Unit {0}
AsksRun (Ok (MakePolicy words)) = ⊥
AsksRun (Ok (Convert words)) = ⊥
AsksRun (Err refusal) = ⊥

-- 0 for a shutdown, 1 for a broken rule, 7 where the events ran out
abbrev pub IsRunStatus : Status → Type 0
IsRunStatus Status.Done = Unit {0}
IsRunStatus Status.Stopped = Unit {0}
IsRunStatus Status.Usage = ⊥
IsRunStatus Status.Refused = ⊥
IsRunStatus Status.ReadFault = ⊥
IsRunStatus Status.WriteFault = ⊥
IsRunStatus Status.Memory = ⊥
IsRunStatus Status.Ended = Unit {0}

abbrev pub SavedIfAsked : Option Saving → FilesState → FilesState → Type 0
SavedIfAsked None old new = new ≡ old
SavedIfAsked (Some saving) old new = Saved saving old new

-- ---- runs

-- The words and the files ask for a run from this start, which `begins` tells of, over these events.
pub record AsksFor (begins : State → Type 0) (plan : Plan) (old : FilesState) (start : State) (events : List Event) : Type 0 where
  pub save : Option (List ℕ)
  -- the files once they were read
  pub read : FilesState
  pub asked : Follows plan old read (Some (RunFrom start events save))
  pub begun : begins start
  -- each state that events lead to from there, these or any others, is guarded, whatever event is next
  pub guarded : (done : List Event) → IsGuarded start (run start done)

-- console, report, status and saved disk are those of the run
pub record GuardedRun (begins : State → Type 0) (plan : Plan) (old new : Outside) (answer : Status) : Type 0 where
  pub start : State
  pub events : List Event
  pub ran : AsksFor begins plan old.files start events
  pub printed : new.sink ≡ after_taking old.sink (output (run start events))
  pub status : answer ≡ run_status (run start events).journal.verdict
  pub saved : SavedIfAsked (saving_of_bytes (disk_bytes (run start events).devices.disk) ran.save) ran.read new.files

-- those of `live` are those of the run over its journal, and the script that is saved reads as the journal
pub record GuardedLive (words : Result LiveWords Refusal) (old new : LiveOutside) (answer : Status) : Type 0 where
  pub start : State
  pub events : List Event
  pub ran : AsksFor IsMeasuredStart (live_plan words) old.files start events
  pub journal : List Event
  pub printed : new.sink ≡ after_taking old.sink (output (run start journal))
  pub status : answer ≡ run_status (run start journal).journal.verdict
  pub text : List ℕ
  pub script : IsScriptOf start.rules.harts journal text
  pub saved : Saved (record { name = out_of words; content = Exactly text }) ran.read new.files

-- the console of `snap` is that of the run, and the snapshot that is saved is of its last state
pub record GuardedSnap (words : Result SnapWords Refusal) (old new : Outside) : Type 0 where
  pub start : State
  pub events : List Event
  pub ran : AsksFor IsMeasuredStart (snap_plan words) old.files start events
  pub printed : new.sink ≡ after_taking old.sink (run start events).journal.printed
  pub snapshot : Snapshot
  pub its : IsSnapshotOf start events snapshot
  pub saved : Saved (saving_of (snap_out words) snapshot) ran.read new.files

-- ---- the law, over what each top call owes

pub record ProgramLaw : Type 0 where
  -- flat, gen, run and vrun
  pub runs : (asked : Result Command Refusal) (old new : Outside) (answer : Status) → AsksRun asked → IsRunStatus answer →
      Headline (plan_of asked) old new answer → GuardedRun IsMeasuredStart (plan_of asked) old new answer
  pub resumes : (asked : Result ResumeWords Refusal) (old new : Outside) (answer : Status) → HoldBytes old.files → IsRunStatus answer →
      Headline (resume_plan asked) old new answer → GuardedRun IsResumedStart (resume_plan asked) old new answer
  pub lives : (asked : Result LiveWords Refusal) (old new : LiveOutside) (answer : Status) → IsRunStatus answer →
      LiveHeadline asked old new answer → GuardedLive asked old new answer
  -- `snap` answers 0, whatever the run's verdict
  pub snaps : (asked : Result SnapWords Refusal) (old new : Outside) → SnapHeadline asked old new Status.Done → GuardedSnap asked old new
