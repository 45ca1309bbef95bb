-- What the guarantee is about is each state that a run of the program comes through. This project's own.
use Rattle.std.specs.Prelude.{◌≡◌, ℕ, true, List, Option, Some, Result}
use Rattle.spec_processor.specs.Bytes.{page_bytes}
use Rattle.sv_types.specs.declared.event.Event.{Event}
use Rattle.sv_types.specs.declared.status.Status.{Status}
use Rattle.spec_reference.specs.Origins.{is_kernel_text, ownership}
use Rattle.spec_reference.specs.Run.{run}
use Rattle.spec_reference.specs.States.{State}
use Rattle.host_io.specs.Outside.{FilesState}
use Rattle.cli_plans.specs.CommandLine.{Command, ResumeWords}
use Rattle.cli_plans.specs.Plans.{RunFrom, plan_of}
use Rattle.cli_plans.specs.Reading.{Follows}
use Rattle.cli_plans.specs.declared.refusal.Refusal.{Refusal}
use Rattle.secvisor_cli.specs.Answers.{Headline, Outside}
use Rattle.cli_snap.specs.ResumePlans.{resume_plan}
use Rattle.laws_guarantee.specs.Reached.{IsReached}
use Rattle.laws_program.specs.ResumeLaw.{HoldBytes}

-- Where the files lead to a run, each state that events make of its start is reached: the premise of each law of `laws_guarantee`.
-- `RunsTo` says for which of them the machine stands.
pub record GuaranteedLaw : Type 0 where
  pub runs : (asked : Result Command Refusal) (old read : FilesState) (start : State) (events : List Event) (save : Option (List ℕ)) →
      Follows (plan_of asked) old read (Some (RunFrom start events save)) → (done : List Event) → IsReached start (run start done)
  pub resumes : (asked : Result ResumeWords Refusal) (old read : FilesState) (start : State) (events : List Event) (save : Option (List ℕ)) →
      HoldBytes old → Follows (resume_plan asked) old read (Some (RunFrom start events save)) → (done : List Event) → IsReached start (run start done)
  -- the same in the program's headline
  pub headline : (asked : Result Command Refusal) (old new : Outside) (answer : Status) (start : State) (events : List Event) (save : Option (List ℕ)) →
      (k : Headline (plan_of asked) old new answer) → k.reached ≡ Some (RunFrom start events save) → (done : List Event) → IsReached start (run start done)
  -- and the kernel's text that isn't retired has the bytes that it had at the start, where it was measured (`HasMeasuredText`)
  pub text : (s r : State) (page : ℕ) → IsReached s r → is_kernel_text (ownership r) page ≡ true → page_bytes r.ram page ≡ page_bytes s.ram page
