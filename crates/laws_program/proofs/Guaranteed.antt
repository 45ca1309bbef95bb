-- Each state that a run of the program comes through is reached.
use Rattle.std.proofs.Common.{◌≡◌, ℕ, inl, inr, List, true, subst}
use Rattle.spec_processor.specs.Bytes.{page_bytes}
use Rattle.sv_types.specs.declared.event.Event.{Event}
use Rattle.spec_reference.specs.Origins.{is_kernel_text, ownership}
use Rattle.spec_reference.specs.Run.{run}
use Rattle.spec_reference.specs.States.{State}
use Rattle.laws_simulation.specs.StateLaws.{HasOrigin}
use Rattle.laws_simulation.proofs.Lookups.{both}
use Rattle.cli_plans.specs.Plans.{plan_of}
use Rattle.cli_plans.specs.Reading.{Follows}
use Rattle.laws_guarantee.specs.Reached.{IsReached}
use Rattle.laws_guarantee.proofs.ReachedHolds.{reached_law}
use Rattle.laws_program.specs.GuaranteedLaw.{GuaranteedLaw}
use Rattle.laws_program.specs.Starts.{IsMeasuredStart}
use Rattle.laws_program.proofs.PlansRun.{starts_law}
use Rattle.laws_program.proofs.ResumesRun.{resume_law}
use Rattle.laws_program.proofs.TextMeasured.{measured_law}

pub measured_reached : (s : State) (events : List Event) → IsMeasuredStart s → IsReached s (run s events)
measured_reached s events k = reached_law s events (measured_law.starts s k) (measured_law.text s k)

text_by : (s r : State) (page : ℕ) → IsReached s r → is_kernel_text (ownership r) page ≡ true → HasOrigin s r page → page_bytes r.ram page ≡ page_bytes s.ram page
text_by s r page reached e (inl text) = reached.sound.text.same page (page_bytes s.ram page) text.bytes
text_by s r page reached e (inr of) =
    absurd (both (is_kernel_text (ownership r) page) e (reached.origins.text_and_module of.0 page of.1.its_page))

pub guaranteed_law : GuaranteedLaw
guaranteed_law = record {
  runs = λ asked old read start events save f done.
      measured_reached start done (starts_law asked old read start events save f);
  headline = λ asked old new answer start events save k is done.
      measured_reached start done (starts_law asked old.files k.read start events save
      (subst (Follows (plan_of asked) old.files k.read) is k.follows));
  resumes = λ asked old read start events save holds f done.
      resume_law.reached start done (resume_law.begins asked old read start events save holds f);
  text = λ s r page reached e. text_by s r page reached e (reached.origins.origin page (reached.sound.pages.text page e));
}
