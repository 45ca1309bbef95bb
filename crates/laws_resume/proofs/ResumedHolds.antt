-- What a run keeps from a sound state on.
use Rattle.std.proofs.Common.{◌≡◌, ℕ, List, sym, ap, ◌∙◌, true}
use Rattle.std.proofs.lemmas.Option.{same_Some}
use Rattle.spec_processor.specs.Bytes.{page_bytes}
use Rattle.laws_simulation.proofs.StateLawsHold.{text_bytes, has_origins}
use Rattle.sv_types.specs.Measure.{page_digest}
use Rattle.spec_reference.specs.Origins.{is_kernel_text, ownership}
use Rattle.spec_reference.specs.States.{State}
use Rattle.spec_reference.specs.Run.{run}
use Rattle.spec_reference.specs.Soundness.{IsSound}
use Rattle.laws_simulation.proofs.Sounds.{Goes}
use Rattle.laws_simulation.proofs.StepsSound.{run_goes}
use Rattle.snapshot_format.specs.declared.whole.TextPage.{TextPage}
use Rattle.laws_resume.specs.Resumed.{KeepsDigests, ResumedLaw}

-- ---- digests

same_bytes : (s r : State) (page : ℕ) → IsSound s → Goes s r → is_kernel_text (ownership r) page ≡ true → page_bytes r.ram page ≡ page_bytes s.ram page
same_bytes s r page sound goes e =
    same_Some (page_bytes r.ram page) (page_bytes s.ram page)
    (sym (text_bytes r page goes.sound e) ∙ goes.text.bytes page e ∙ text_bytes s page sound (goes.text.was page e))

digests : (s r : State) (kept : List TextPage) → IsSound s → Goes s r → KeepsDigests s kept → KeepsDigests r kept
digests s r kept sound goes k = record {
  pages = k.pages ∙ sym goes.text.text;
  each = λ i t at e. ap page_digest (same_bytes s r t.page sound goes e) ∙ k.each i t at (goes.text.was t.page e);
  joined = k.joined ∙ ap (λ rules. rules.kernel) (sym goes.text.rules);
}

pub resumed_law : ResumedLaw
resumed_law s events sound =
    let goes = run_goes s events sound in
    record {
      sound = goes.sound;
      text = goes.sound.text;
      origins = has_origins s (run s events) sound goes;
      digests = λ kept k. digests s (run s events) kept sound goes k;
    }
