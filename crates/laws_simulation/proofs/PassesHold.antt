-- What a pass changes, and that a sound state stays sound over it.
use Rattle.std.proofs.Common.{◌≡◌, ℕ, zero, suc, List, [], ◌∷◌, refl, sym, ◌∙◌, ap, subst, slice_get, slice_set}
use Rattle.std.specs.Prelude.{Option, Some, None}
use Rattle.spec_processor.specs.Effects.{next_pc}
use Rattle.sv_types.specs.declared.event.Rule.TheVariants.{Entry, Write}
use Rattle.sv_types.specs.declared.event.Verdict.{Verdict}
use Rattle.sv_types.specs.declared.event.Verdict.TheVariants.{Running, Shutdown, Stopped}
use Rattle.spec_reference.specs.Counting.{machine_ended}
use Rattle.spec_reference.specs.Origins.{ownership}
use Rattle.spec_reference.specs.Requests.{at_next_instruction}
use Rattle.spec_reference.specs.Soundness.{IsSound}
use Rattle.spec_reference.specs.States.{State, Hart}
use Rattle.laws_simulation.proofs.HartsSound.{goes_after}
use Rattle.laws_simulation.proofs.Sounds.{Goes, goes_set, text_stays}
use Rattle.laws_simulation.specs.Passing.{moved_on, passed_under, passed_over}
use Rattle.laws_simulation.specs.SurveyLaws.{ChangesOnlyPcs, PassLaw, MovesOn, MovesOnLaw, PassSoundLaw}

-- ---- soundness

stays_goes : (r : State) → IsSound r → Goes r r
stays_goes r s = record { sound = s; text = text_stays (ownership r) }

moved_goes : (r : State) (h : ℕ) (x : Option Hart) → IsSound r → slice_get r.harts h ≡ x → Goes r (moved_on r h x)
unfolding moved_on
moved_goes r h None s there = stays_goes r s
moved_goes r h (Some hart) s there =
    goes_set r h (at_next_instruction hart) r.devices (machine_ended Running r.journal) s (goes_after hart hart.registers hart.reservation (s.harts h hart there)) s.disk

under_goes : (v : Verdict) (r : State) → IsSound r → Goes r (passed_under v r)
unfolding passed_under
under_goes Running r s = stays_goes r s
under_goes Shutdown r s = stays_goes r s
under_goes (Stopped (Entry target) h turn) r s = stays_goes r s
under_goes (Stopped (Write pc gpa) h turn) r s = moved_goes r h (slice_get r.harts h) s refl

pub pass_goes : (r : State) → IsSound r → Goes r (passed_over r)
unfolding passed_over
pass_goes r s = under_goes r.journal.verdict r s

pub pass_sound_law : PassSoundLaw
pass_sound_law r s = (pass_goes r s).sound

-- ---- what changes

same_pc : (before after : Hart) → before ≡ after → after ≡ record before { pc = after.pc }
same_pc before after same = subst (λ (x : Hart). x ≡ record before { pc = x.pc }) same refl

next_moved : (hart before after : Hart) → hart ≡ before → at_next_instruction hart ≡ after → after ≡ record before { pc = after.pc }
next_moved hart before after there moved =
    subst (λ (x : Hart). x ≡ record before { pc = x.pc }) moved (subst (λ (y : Hart). at_next_instruction hart ≡ record y { pc = next_pc hart.pc }) there refl)

moved_at : (harts : List Hart) (at k : ℕ) (hart before after : Hart) → slice_get harts at ≡ Some hart → slice_get harts k ≡ Some before
    → slice_get (slice_set harts at (at_next_instruction hart)) k ≡ Some after → after ≡ record before { pc = after.pc }
moved_at [] at k hart before after there was is = absurd (cc)
moved_at (x ∷ harts) zero zero hart before after there was is = next_moved hart before after (cc) (cc)
moved_at (x ∷ harts) zero (suc k) hart before after there was is = same_pc before after (cc)
moved_at (x ∷ harts) (suc at) zero hart before after there was is = same_pc before after (cc)
moved_at (x ∷ harts) (suc at) (suc k) hart before after there was is = moved_at harts at k hart before after there was is

stays_same : (r : State) → ChangesOnlyPcs r r
stays_same r = record { harts = λ h before after was is. same_pc before after (cc); rest = refl }

moved_changes : (r : State) (h : ℕ) (x : Option Hart) → slice_get r.harts h ≡ x → ChangesOnlyPcs r (moved_on r h x)
unfolding moved_on
moved_changes r h None there = stays_same r
moved_changes r h (Some hart) there = record { harts = λ k before after was is. moved_at r.harts h k hart before after there was is; rest = refl }

under_changes : (v : Verdict) (r : State) → ChangesOnlyPcs r (passed_under v r)
unfolding passed_under
under_changes Running r = stays_same r
under_changes Shutdown r = stays_same r
under_changes (Stopped (Entry target) h turn) r = stays_same r
under_changes (Stopped (Write pc gpa) h turn) r = moved_changes r h (slice_get r.harts h) refl

pub pass_law : PassLaw
unfolding passed_over
pass_law r = under_changes r.journal.verdict r

-- ---- where it goes on

pub set_there : (harts : List Hart) (at : ℕ) (hart next : Hart) → slice_get harts at ≡ Some hart → slice_get (slice_set harts at next) at ≡ Some next
set_there [] at hart next there = absurd (cc)
set_there (x ∷ harts) zero hart next there = refl
set_there (x ∷ harts) (suc at) hart next there = set_there harts at hart next there

passed_is : (r : State) (pc gpa h turn : ℕ) (hart : Hart) → r.journal.verdict ≡ Stopped (Write pc gpa) h turn → slice_get r.harts h ≡ Some hart
    → passed_over r ≡ moved_on r h (Some hart)
unfolding passed_over passed_under
passed_is r pc gpa h turn hart stopped there = ap (λ (v : Verdict). passed_under v r) stopped ∙ ap (λ (x : Option Hart). moved_on r h x) there

moved_runs : (r : State) (h : ℕ) (hart : Hart) → slice_get r.harts h ≡ Some hart → MovesOn r (moved_on r h (Some hart)) h hart
unfolding moved_on
moved_runs r h hart there = record { running = refl; moved = set_there r.harts h hart (at_next_instruction hart) there }

pub moves_on_law : MovesOnLaw
moves_on_law r pc gpa h turn hart stopped there =
    subst (λ (next : State). MovesOn r next h hart) (sym (passed_is r pc gpa h turn hart stopped there)) (moved_runs r h hart there)
