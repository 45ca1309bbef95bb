-- What holds of a run that begins in any sound state, as one that was saved. This project's own.
use Rattle.std.specs.Prelude.{◌≡◌, ℕ, List, map, true, Some, slice_get}
use Rattle.spec_processor.specs.Bytes.{page_bytes}
use Rattle.sv_types.specs.Measure.{page_digest, joined_digests}
use Rattle.sv_types.specs.declared.event.Event.{Event}
use Rattle.spec_reference.specs.Origins.{is_kernel_text, ownership}
use Rattle.spec_reference.specs.States.{State}
use Rattle.spec_reference.specs.Run.{run}
use Rattle.spec_reference.specs.Soundness.{IsSound, KeepsText}
use Rattle.snapshot_format.specs.declared.whole.TextPage.{TextPage}
use Rattle.laws_simulation.specs.StateLaws.{HasOrigins}

-- The digests are kept of all pages that were approved at boot. Of each that isn't retired the digest is that of its bytes
-- in RAM, and all of them join to the policy's.
pub record KeepsDigests (r : State) (kept : List TextPage) : Type 0 where
  pub pages : map (λ (t : TextPage). t.page) kept ≡ r.text
  pub each : (i : ℕ) (t : TextPage) → slice_get kept i ≡ Some t → is_kernel_text (ownership r) t.page ≡ true → page_digest (page_bytes r.ram t.page) ≡ t.digest
  pub joined : joined_digests (map (λ (t : TextPage). t.digest) kept) ≡ r.rules.kernel

-- what a run keeps from a sound state on. The start's own law is this one, since a start is sound
pub record GoesOn (s r : State) : Type 0 where
  pub sound : IsSound r
  pub text : KeepsText r.approved r.ram
  pub origins : HasOrigins s r
  pub digests : (kept : List TextPage) → KeepsDigests s kept → KeepsDigests r kept

abbrev pub ResumedLaw : Type 0
ResumedLaw = (s : State) (events : List Event) → IsSound s → GoesOn s (run s events)
