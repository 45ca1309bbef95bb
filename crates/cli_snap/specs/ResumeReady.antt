-- What is made ready of `resume`, before anything is written.
use Rattle.std.specs.Prelude.{◌≡◌, Some, None, Result, Ok, Err}
use Rattle.std.specs.Option.{option_copied}
use Rattle.sv_types.specs.Policies.{Rules}
use Rattle.sv_types.specs.Schedule.{first_events}
use Rattle.spec_reference.specs.States.{State}
use Rattle.spec_hardware.specs.Machine.{Machine}
use Rattle.spec_hardware.specs.Reaches.{IsNew}
use Rattle.host_io.specs.Outside.{FilesState}
use Rattle.snapshot_format.specs.Snapshots.{Contents, contents}
use Rattle.snapshot_format.specs.declared.refusal.SnapRefusal.{SnapRefusal}
use Rattle.snapshot_format.specs.declared.whole.Snapshot.{Snapshot}
use Rattle.snapshot_format.specs.Judgements.{resume_refusal}
use Rattle.snapshot_format.specs.ResumedStates.{resumed_state}
use Rattle.snapshot_format.specs.declared.resume.refusal.ResumeRefusal.{ResumeRefusal}
use Rattle.cli_plans.specs.Plans.{Due, Refuse, RunFrom, Make, Plan}
use Rattle.cli_plans.specs.Reading.{Follows}
use Rattle.secvisor_cli.specs.Ready.{IsRunnable, Prepares}
use Rattle.cli_plans.specs.declared.file_fault.FileFault.{FileFault}
use Rattle.secvisor_cli.specs.declared.ready.PreparedRun.{PreparedRun}
use Rattle.secvisor_cli.specs.declared.ready.Stop.{Stop}
use Rattle.secvisor_cli.specs.declared.ready.Stop.TheVariants.{Refused, Memory}
use Rattle.cli_plans.specs.declared.refusal.Refusal.TheVariants.{File}

-- what is due is ready, or refused
abbrev pub IsResumed : Due → Result PreparedRun Stop → Type 0
IsResumed (RunFrom start events save) (Ok booted) =
    IsNew booted.machine start × (first_events booted.events booted.script ≡ events) × (option_copied booted.save ≡ save) × IsRunnable booted
IsResumed (RunFrom start events save) (Err (Refused given)) = ⊥
IsResumed (Make name rules line) (Ok booted) = ⊥
IsResumed (Make name rules line) (Err (Refused given)) = ⊥
IsResumed (Refuse refusal) (Ok booted) = ⊥
IsResumed (Refuse refusal) (Err (Refused given)) = given ≡ refusal
IsResumed due (Err Memory) = Unit {0}

-- a machine that goes on, and its run, which is due
pub record GoesOn (plan : Plan) (old new : FilesState) (booted : PreparedRun) : Type 0 where
  pub start : State
  pub follows : Follows plan old new (Some (RunFrom start (first_events booted.events booted.script) (option_copied booted.save)))
  pub is_new : IsNew booted.machine start
  pub runnable : IsRunnable booted

abbrev pub Resumes : Plan → FilesState → FilesState → Result PreparedRun Stop → Type 0
Resumes plan old new (Ok booted) = GoesOn plan old new booted
Resumes plan old new (Err stop) = Prepares plan old new (Err stop)

-- ---- the parts, judged

-- the snapshot that bytes are, or why they are none
abbrev pub IsSnapshot : Result Contents SnapRefusal → Result Snapshot Stop → Type 0
IsSnapshot judged (Ok s) = judged ≡ Ok (contents s)
IsSnapshot judged (Err (Refused refusal)) = (why : SnapRefusal) × (judged ≡ Err why) × (refusal ≡ File (FileFault.Snapshot why))
IsSnapshot judged (Err Memory) = Unit {0}

-- the machine that goes on from a snapshot, or why none does
abbrev pub IsMachine : Rules → Contents → Result Machine Stop → Type 0
IsMachine rules s (Ok machine) =
    (resume_refusal rules s ≡ None) × IsNew machine (resumed_state rules s) × (machine.journal ≡ (resumed_state rules s).journal)
IsMachine rules s (Err (Refused refusal)) = (why : ResumeRefusal) × (resume_refusal rules s ≡ Some why) × (refusal ≡ File (FileFault.Resume why))
IsMachine rules s (Err Memory) = Unit {0}
