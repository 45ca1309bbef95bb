-- Where the runs of `resume` begin, and what holds of them. This project's own.
use Rattle.std.specs.Prelude.{◌≡◌, ℕ, List, true, Option, Some, None, Result, IsTrue}
use Rattle.sv_types.specs.Policies.{Rules, rules_within}
use Rattle.sv_types.specs.declared.event.Event.{Event}
use Rattle.spec_reference.specs.Run.{run}
use Rattle.spec_reference.specs.Start.{AreWords}
use Rattle.spec_reference.specs.States.{State}
use Rattle.host_io.specs.Outside.{FilesState}
use Rattle.snapshot_format.specs.FormLaw.{IsBytes}
use Rattle.snapshot_format.specs.Snapshots.{Contents, snapshot}
use Rattle.snapshot_format.specs.Judgements.{resume_refusal}
use Rattle.snapshot_format.specs.ResumedStates.{resumed_state}
use Rattle.laws_resume.specs.ResumedSound.{GoesOnFrom}
use Rattle.cli_plans.specs.Plans.{RunFrom}
use Rattle.cli_plans.specs.Reading.{Follows}
use Rattle.cli_plans.specs.declared.refusal.Refusal.{Refusal}
use Rattle.cli_snap.specs.ResumePlans.{resume_plan}
use Rattle.cli_plans.specs.CommandLine.{ResumeWords}
use Rattle.laws_guarantee.specs.Reached.{IsReached}

-- the files tell what they hold, and that is bytes
pub record HoldBytes (files : FilesState) : Type 0 where
  pub tells : IsTrue files.tells
  pub bytes : (name held : List ℕ) → files.held name ≡ Some held → IsBytes held

-- the state that a snapshot says, which isn't refused under a policy within its limits
pub record IsResumedStart (s : State) : Type 0 where
  pub rules : Rules
  pub contents : Contents
  pub within : IsTrue (rules_within rules)
  pub words : AreWords rules.entries
  pub encoded : snapshot.has contents ≡ true
  pub accepted : resume_refusal rules contents ≡ None
  pub same : s ≡ resumed_state rules contents

pub record ResumeLaw : Type 0 where
  -- whatever is asked and the files hold, a run begins there
  pub begins : (asked : Result ResumeWords Refusal) (old read : FilesState) (start : State) (events : List Event) (save : Option (List ℕ)) →
      HoldBytes old → Follows (resume_plan asked) old read (Some (RunFrom start events save)) → IsResumedStart start
  -- and in each state that it reaches from there, soundness, origins and the digests of the text are kept
  pub goes : (s : State) (events : List Event) → (k : IsResumedStart s) → GoesOnFrom k.rules k.contents (run s events)
  -- so it is one of those that the guarantee is about
  pub reached : (s : State) (events : List Event) → IsResumedStart s → IsReached s (run s events)
