-- Which states the guarantee is about: each that a run reaches whose text was measured. This project's own.
use Rattle.std.specs.Prelude.{◌≡◌, ℕ, List, map}
use Rattle.spec_processor.specs.Bytes.{page_bytes}
use Rattle.sv_types.specs.Measure.{page_digest, joined_digests}
use Rattle.sv_types.specs.declared.event.Event.{Event}
use Rattle.spec_reference.specs.Run.{run}
use Rattle.spec_reference.specs.Soundness.{IsSound}
use Rattle.spec_reference.specs.Start.{IsStart}
use Rattle.spec_reference.specs.States.{State}
use Rattle.laws_simulation.specs.StateLaws.{HasOrigins}
use Rattle.snapshot_format.specs.declared.whole.TextPage.{TextPage}
use Rattle.laws_resume.specs.Keepable.{IsKeepableLoad}
use Rattle.laws_resume.specs.Resumed.{KeepsDigests}

-- the text has digests that join to the policy's, and each page that isn't retired has its own
abbrev pub HasDigests : State → Type 0
HasDigests r = (kept : List TextPage) × KeepsDigests r kept

-- the state is sound, its approved pages come from s, its text was measured, and a load under way is that of a started hart in
-- kernel mode
pub record IsReached (s r : State) : Type 0 where
  pub sound : IsSound r
  pub origins : HasOrigins s r
  pub digests : HasDigests r
  pub load : IsKeepableLoad r.harts r.loading

-- the digests of the pages that are approved at the start join to the digest that the rules have
abbrev pub HasMeasuredText : State → Type 0
HasMeasuredText s = joined_digests (map (λ (page : ℕ). page_digest (page_bytes s.ram page)) s.text) ≡ s.rules.kernel

abbrev pub ReachedLaw : Type 0
ReachedLaw = (s : State) (events : List Event) → IsStart s → HasMeasuredText s → IsReached s (run s events)
