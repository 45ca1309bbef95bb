-- `snap` and `resume` together: a run that is broken off and goes on is the whole run. This project's own.
use Rattle.std.specs.Prelude.{◌≡◌, ◌≤◌, ℕ, List, ◌++◌}
use Rattle.sv_types.specs.Policies.{Rules}
use Rattle.sv_types.specs.Schedule.{Schedule, first_events}
use Rattle.spec_reference.specs.Disk.{disk_bytes}
use Rattle.spec_reference.specs.Report.{output}
use Rattle.spec_reference.specs.Run.{run}
use Rattle.spec_reference.specs.States.{State}
use Rattle.snapshot_format.specs.Snapshots.{contents}
use Rattle.snapshot_format.specs.declared.whole.Snapshot.{Snapshot}
use Rattle.snapshot_format.specs.ResumedStates.{resumed_state}
use Rattle.laws_resume.specs.SnapLaws.{Boot, IsMeasuredBoot, IsSnapshotOf}
use Rattle.cli_snap.specs.ResumePlans.{events_after}

-- the state in which `resume` ends that goes on with a script's first events, of which so many were made before
abbrev pub resumed_end : State → (made events : ℕ) → Schedule → State
resumed_end resumed made events script = run resumed (events_after made events script)

-- What `snap` printed with k events, and what `resume` prints with more of them, is what `run` prints with these; verdict and
-- disk are the same.
pub record IsOneRun (start : State) (script : Schedule) (k made events : ℕ) (resumed : State) : Type 0 where
  pub output : (run start (first_events k script)).journal.printed ++ output (resumed_end resumed made events script) ≡
      output (run start (first_events events script))
  pub verdict : (resumed_end resumed made events script).journal.verdict ≡ (run start (first_events events script)).journal.verdict
  pub disk : disk_bytes (resumed_end resumed made events script).devices.disk ≡ disk_bytes (run start (first_events events script)).devices.disk

abbrev pub SnapAndResumeLaw : Boot → Type 0
SnapAndResumeLaw boot = (rules : Rules) (file disk : List ℕ) (script : Schedule) (k events : ℕ) (s : Snapshot) → IsMeasuredBoot rules file → k ≤ events
    → IsSnapshotOf (boot rules file disk) (first_events k script) s
    → IsOneRun (boot rules file disk) script k s.events events (resumed_state rules (contents s))
