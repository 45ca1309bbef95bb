-- What `snap` saves is what `resume` reads.
use Rattle.std.proofs.Common.{ℕ, List, length, refl, subst, sym, arith, Option, Ok}
use Rattle.std.proofs.lemmas.List.{take_all}
use Rattle.sv_types.specs.Policies.{Rules}
use Rattle.sv_types.specs.Schedule.{Schedule, first_events}
use Rattle.sv_types.specs.declared.event.Event.{Event}
use Rattle.spec_reference.specs.Run.{run}
use Rattle.spec_reference.specs.SavedStates.{IsSaved}
use Rattle.snapshot_format.specs.Snapshots.{contents}
use Rattle.snapshot_format.specs.declared.whole.Snapshot.{Snapshot}
use Rattle.laws_resume.specs.SnapLaws.{Boot, IsSnapAfter, IsSnapshotOf}
use Rattle.laws_resume.proofs.BootDigests.{IsBoot}
use Rattle.laws_resume.proofs.SnapHolds.{snap_accepted_law}
use Rattle.cli_snap.proofs.FileHolds.{BeginsAnew, snap_file_law}
use Rattle.cli_snap.proofs.ResumeEndLemmas.{plan_due}
use Rattle.cli_snap.proofs.OneRun.{snap_and_resume_law}
use Rattle.laws_program.specs.SnapResumed.{SnapResumedLaw}

snap_after : (boot : Boot) (rules : Rules) (file disk : List ℕ) (events : List Event) (s : Snapshot) → IsSnapshotOf (boot rules file disk) events s
    → IsSnapAfter boot rules file disk events (length events) s
snap_after boot rules file disk events s snap = record {
  state =
      subst (λ (made : List Event). IsSaved (run (boot rules file disk) made) s.«machine»)
      (sym (take_all (length events) events (omega arith))) snap.state;
  text = snap.text;
}

pub snap_resumed_law : (boot : Boot) → IsBoot boot → BeginsAnew boot → SnapResumedLaw boot
snap_resumed_law boot b begins held words rules file disk script k s measured is few most snap holds =
    let events = first_events k script in
    record {
      due = plan_due held (Ok words) words (contents s) rules script refl (record {
        bytes = _;
        held_is = holds.saved;
        reads = snap_file_law boot b begins rules file disk script k s measured is few snap;
        policy = holds.policy;
        events = holds.events;
        accepted = snap_accepted_law boot b rules file disk events (length events) s measured (snap_after boot rules file disk events s snap);
      });
      one = snap_and_resume_law boot b rules file disk script k words.events s measured most snap;
    }
