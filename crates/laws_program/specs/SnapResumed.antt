-- What `snap` saves is what `resume` reads: with it the run goes on as the whole one. This project's own.
use Rattle.std.specs.Prelude.{◌≡◌, ◌≤◌, ℕ, List, Option, Some, Ok}
use Rattle.sv_types.specs.Limits.{max_events}
use Rattle.sv_types.specs.Policies.{Rules}
use Rattle.sv_types.specs.Schedule.{Schedule, first_events}
use Rattle.snapshot_format.specs.Snapshots.{contents, snapshot}
use Rattle.snapshot_format.specs.declared.whole.Snapshot.{Snapshot}
use Rattle.snapshot_format.specs.ResumedStates.{resumed_state}
use Rattle.laws_resume.specs.SnapLaws.{Boot, IsMeasuredBoot, IsSnapshotOf}
use Rattle.cli_plans.specs.CommandLine.{ResumeWords}
use Rattle.cli_plans.specs.Plans.{RunFrom}
use Rattle.secvisor_cli.specs.DueIn.{due_in}
use Rattle.cli_snap.specs.SnapFile.{IsDisk}
use Rattle.cli_snap.specs.ResumeEnds.{HoldPolicy, HoldScript}
use Rattle.cli_snap.specs.ResumePlans.{events_after, resume_plan}
use Rattle.cli_snap.specs.SnapAndResume.{IsOneRun}

-- the names of the words hold the bytes of a snapshot, the policy of its run, and its script
pub record HoldSaved (held : List ℕ → Option (List ℕ)) (words : ResumeWords) (rules : Rules) (script : Schedule) (s : Snapshot) : Type 0 where
  pub saved : held words.saved ≡ Some (snapshot.encode (contents s))
  pub policy : HoldPolicy held words.policy rules
  pub events : HoldScript held words.script rules.harts script

-- `resume` is due the run from the snapshot's state with the events that are left, and the two together are the whole run
pub record GoesOn (boot : Boot) (held : List ℕ →
    Option (List ℕ)) (words : ResumeWords) (rules : Rules) (file disk : List ℕ) (script : Schedule) (k : ℕ) (s : Snapshot) : Type 0 where
  pub due : due_in held (resume_plan (Ok words)) ≡ RunFrom (resumed_state rules (contents s)) (events_after s.events words.events script) words.save
  pub one : IsOneRun (boot rules file disk) script k s.events words.events (resumed_state rules (contents s))

-- from a measured boot, with the snapshot that `snap` saves of its first k events
abbrev pub SnapResumedLaw : Boot → Type 0
SnapResumedLaw boot = (held : List ℕ → Option (List ℕ)) (words : ResumeWords) (rules : Rules) (file disk : List ℕ) (script : Schedule) (k : ℕ) (s : Snapshot) →
    IsMeasuredBoot rules file → IsDisk disk → k ≤ max_events → k ≤ words.events → IsSnapshotOf (boot rules file disk) (first_events k script) s →
    HoldSaved held words rules script s → GoesOn boot held words rules file disk script k s
