-- That `snap` refuses nothing that `run` accepts, nor `vsnap` what `vrun` does, and how it ends then. This project's own.
use Rattle.std.specs.Prelude.{◌≡◌, false, ℕ, List, [], ◌∷◌, Option, Some}
use Rattle.sv_types.specs.declared.event.Event.{Event}
use Rattle.sv_types.specs.declared.status.Status.{Status}
use Rattle.spec_reference.specs.Run.{run}
use Rattle.spec_reference.specs.States.{State}
use Rattle.snapshot_format.specs.Snapshots.{contents, snapshot}
use Rattle.snapshot_format.specs.declared.whole.Snapshot.{Snapshot}
use Rattle.cli_plans.specs.Commands.{has_dash, run_name, snap_name}
use Rattle.cli_plans.specs.declared.command_words.command.DiskKind.{DiskKind}
use Rattle.host_io.specs.Outside.{after_taking}
use Rattle.secvisor_cli.specs.Answers.{Outside}
use Rattle.cli_plans.specs.CommandLine.{judgement_of_words, snap_judged}
use Rattle.secvisor_cli.specs.DueIn.{due_in, AreReadWhole, EndsAs}
use Rattle.cli_plans.specs.Plans.{RunFrom, plan_of}
use Rattle.laws_resume.specs.SnapLaws.{IsSnapshotOf}
use Rattle.cli_snap.specs.SnapAnswers.{SnapHeadline}

-- ---- the words

-- IMAGE POLICY DISK SCRIPT EVENTS OUT of `snap`, or of `vsnap`
pub record SnapLine : Type 0 where
  -- which block device the machine has
  pub kind : DiskKind
  pub image : List ℕ
  pub policy : List ℕ
  pub disk : List ℕ
  pub script : List ℕ
  pub events : List ℕ
  pub out : List ℕ

abbrev pub snap_line : SnapLine → List (List ℕ)
snap_line line = snap_name line.kind ∷ line.image ∷ line.policy ∷ line.disk ∷ line.script ∷ line.events ∷ line.out ∷ []

-- run IMAGE POLICY DISK SCRIPT EVENTS SAVE, or vrun, over the same device, where all words but the last are those of `snap`
abbrev pub run_line : SnapLine → (save : List ℕ) → List (List ℕ)
run_line line save = run_name line.kind ∷ line.image ∷ line.policy ∷ line.disk ∷ line.script ∷ line.events ∷ save ∷ []

-- with some word for SAVE, `run` or `vrun` accepts these words and what names hold, and makes this run
pub record IsAccepted (held : List ℕ → Option (List ℕ)) (line : SnapLine) (start : State) (events : List Event) : Type 0 where
  pub save : List ℕ
  -- where the disk would be saved
  pub kept : Option (List ℕ)
  pub due : due_in held (plan_of (judgement_of_words (run_line line save))) ≡ RunFrom start events kept

-- ---- how it ends

-- the console's bytes were written, and a snapshot of the run stands under the name
pub record SnapDone (start : State) (events : List Event) (name : List ℕ) (old new : Outside) : Type 0 where
  pub saved : Snapshot
  pub saved_is : IsSnapshotOf start events saved
  pub held : new.files.held name ≡ Some (snapshot.encode (contents saved))
  pub printed : new.sink ≡ after_taking old.sink (run start events).journal.printed

-- status 0, whatever the verdict; or a write or the save failed; or memory ran out
pub record SnapEnds (start : State) (events : List Event) (name : List ℕ) (old new : Outside) (answer : Status) : Type 0 where
  pub ends : EndsAs Status.Done old new answer
  pub done : answer ≡ Status.Done → SnapDone start events name old new

abbrev pub SnapEndsLaw : Type 0
SnapEndsLaw = (line : SnapLine) (start : State) (events : List Event) (old new : Outside) (answer : Status) → has_dash line.out ≡ false →
    IsAccepted old.files.held line start events → AreReadWhole old.files new.files → SnapHeadline (snap_judged (snap_line line)) old new answer →
    SnapEnds start events line.out old new answer
