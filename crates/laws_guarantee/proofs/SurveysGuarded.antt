-- Each state of a survey is what the guarantee is about.
use Rattle.std.proofs.Common.{◌≡◌, ℕ, List, [], sym, ◌∙◌, ap, true}
use Rattle.std.proofs.lemmas.Option.{same_Some}
use Rattle.spec_processor.specs.Bytes.{page_bytes}
use Rattle.sv_types.specs.Measure.{page_digest}
use Rattle.spec_reference.specs.Origins.{is_kernel_text, ownership}
use Rattle.spec_reference.specs.Run.{step}
use Rattle.spec_reference.specs.Soundness.{IsSound}
use Rattle.spec_reference.specs.States.{State}
use Rattle.snapshot_format.specs.declared.whole.TextPage.{TextPage}
use Rattle.laws_simulation.proofs.Sounds.{Goes}
use Rattle.laws_simulation.proofs.StateLawsHold.{text_bytes, has_origins}
use Rattle.laws_resume.specs.Resumed.{KeepsDigests}
use Rattle.laws_resume.proofs.KeepableStarts.{keepable_law}
use Rattle.laws_simulation.specs.Passing.{passed_over, survey}
use Rattle.laws_simulation.proofs.PassesHold.{pass_law}
use Rattle.laws_simulation.proofs.SurveysHold.{survey_goes}
use Rattle.laws_guarantee.proofs.GuardedHolds.{guarded_law}
use Rattle.laws_guarantee.proofs.ReachedHolds.{reached_law}
use Rattle.laws_guarantee.specs.SurveyGuarantee.{SurveyReachedLaw, SurveyGuardedLaw, SurveyBytesLaw}
use Rattle.laws_guarantee.proofs.SurveysKeep.{survey_keeps}

-- ---- digests

same_bytes : (s r : State) (page : ℕ) → IsSound s → Goes s r → is_kernel_text (ownership r) page ≡ true → page_bytes r.ram page ≡ page_bytes s.ram page
same_bytes s r page sound goes e =
    same_Some (page_bytes r.ram page) (page_bytes s.ram page)
    (sym (text_bytes r page goes.sound e) ∙ goes.text.bytes page e ∙ text_bytes s page sound (goes.text.was page e))

digests : (s r : State) (kept : List TextPage) → IsSound s → Goes s r → KeepsDigests s kept → KeepsDigests r kept
digests s r kept sound goes k = record {
  pages = k.pages ∙ sym goes.text.text;
  each = λ i t at e. ap page_digest (same_bytes s r t.page sound goes e) ∙ k.each i t at (goes.text.was t.page e);
  joined = k.joined ∙ ap (λ rules. rules.kernel) (sym goes.text.rules);
}

-- ---- the laws

pub survey_reached_law : SurveyReachedLaw
survey_reached_law s events is_start measured =
    let start = reached_law s [] is_start measured in
    let goes = survey_goes s events start.sound in
    record {
      sound = goes.sound;
      origins = has_origins s (survey s events) start.sound goes;
      digests = (start.digests.0, digests s (survey s events) start.digests.0 start.sound goes start.digests.1);
      load = (survey_keeps s events (keepable_law s [] is_start) start.sound).load;
    }

pub survey_guarded_law : SurveyGuardedLaw
survey_guarded_law s events is_start measured = guarded_law s (survey s events) (survey_reached_law s events is_start measured)

-- RAM stays as it is over a pass
same_ram : (r : State) → (passed_over r).ram ≡ r.ram
same_ram r = ap (λ (x : State). x.ram) (pass_law r).rest

pub survey_bytes_law : SurveyBytesLaw
survey_bytes_law s events e is_start measured page protected =
    let r : State = survey s events in
    ap (λ (ram : List ℕ). page_bytes ram page) (same_ram (step r e))
    ∙ ((survey_guarded_law s events is_start measured).protected_bytes e).bytes page protected
