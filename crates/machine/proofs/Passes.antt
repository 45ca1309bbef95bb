-- What a pass keeps of a machine.
use Rattle.std.proofs.Common.{◌≡◌, ℕ, zero, suc, List, [], ◌∷◌, refl, ◌∙◌, subst, slice_get, slice_set, Bool, true, false}
use Rattle.std.specs.Prelude.{Option, Some, None}
use Rattle.sv_types.specs.declared.event.Rule.TheVariants.{Entry, Write}
use Rattle.sv_types.specs.declared.event.Verdict.{Verdict}
use Rattle.sv_types.specs.declared.event.Verdict.TheVariants.{Running, Shutdown, Stopped}
use Rattle.spec_reference.specs.Requests.{at_next_instruction}
use Rattle.spec_reference.specs.States.{State, Hart}
use Rattle.spec_hardware.specs.Machine.{Machine, HwHart, update}
use Rattle.hw_platform.specs.Attempts.{hart_in}
use Rattle.hw_platform.specs.Batches.{AreFree}
use Rattle.machine.specs.Batches.{AreFreeWhere}
use Rattle.machine.specs.Machines.{HaveAddresses}
use Rattle.laws_simulation.specs.HwPassing.{hw_at_next, hw_moved_on, hw_passed_under, hw_passed_over}
use Rattle.laws_simulation.specs.Passing.{moved_on, passed_under, passed_over}

-- ---- counts, the console, and reservations

pub record KeepsRest (before after : Machine) : Type 0 where
  pub attempts : after.attempts ≡ before.attempts
  pub turns : after.journal.counts.turns ≡ before.journal.counts.turns
  pub cleared : after.cleared ≡ before.cleared
  pub printed : after.journal.printed ≡ before.journal.printed
  pub free : AreFree before.harts → AreFree after.harts

same_reservation : (harts : List HwHart) (at h : ℕ) → (hart_in (update harts at hw_at_next) h).core.reservation ≡ (hart_in harts h).core.reservation
unfolding update
same_reservation [] at h = refl
same_reservation (x ∷ harts) zero zero = refl
same_reservation (x ∷ harts) zero (suc h) = refl
same_reservation (x ∷ harts) (suc at) zero = refl
same_reservation (x ∷ harts) (suc at) (suc h) = same_reservation harts at h

stays_rest : (m : Machine) → KeepsRest m m
stays_rest m = record { attempts = refl; turns = refl; cleared = refl; printed = refl; free = λ all. all }

moved_rest : (m : Machine) (h : ℕ) (x : Option HwHart) → KeepsRest m (hw_moved_on m h x)
unfolding hw_moved_on
moved_rest m h None = stays_rest m
moved_rest m h (Some hw) = record { attempts = refl; turns = refl; cleared = refl; printed = refl; free = λ all k. same_reservation m.harts h k ∙ all k }

under_rest : (v : Verdict) (m : Machine) → KeepsRest m (hw_passed_under v m)
unfolding hw_passed_under
under_rest Running m = stays_rest m
under_rest Shutdown m = stays_rest m
under_rest (Stopped (Entry target) h turn) m = stays_rest m
under_rest (Stopped (Write pc gpa) h turn) m = moved_rest m h (slice_get m.harts h)

pub pass_rest : (m : Machine) → KeepsRest m (hw_passed_over m)
unfolding hw_passed_over
pass_rest m = under_rest m.journal.verdict m

pub free_after : (known : Bool) (m : Machine) → AreFreeWhere known m.harts → AreFreeWhere known (hw_passed_over m).harts
free_after true m all = (pass_rest m).free all
free_after false m all = tt

-- ---- the addresses of reservations

addresses_moved : (harts : List Hart) (h : ℕ) (hart : Hart) → slice_get harts h ≡ Some hart → HaveAddresses harts → HaveAddresses (slice_set harts h (at_next_instruction hart))
addresses_moved [] h hart there all = tt
addresses_moved (x ∷ harts) zero hart there all = let same : x ≡ hart = cc in subst (λ (y : Hart). HaveAddresses (at_next_instruction y ∷ harts)) same all
addresses_moved (x ∷ harts) (suc h) hart there all = (all.0, addresses_moved harts h hart there all.1)

moved_addresses : (r : State) (h : ℕ) (x : Option Hart) → slice_get r.harts h ≡ x → HaveAddresses r.harts → HaveAddresses (moved_on r h x).harts
unfolding moved_on
moved_addresses r h None there all = all
moved_addresses r h (Some hart) there all = addresses_moved r.harts h hart there all

under_addresses : (v : Verdict) (r : State) → HaveAddresses r.harts → HaveAddresses (passed_under v r).harts
unfolding passed_under
under_addresses Running r all = all
under_addresses Shutdown r all = all
under_addresses (Stopped (Entry target) h turn) r all = all
under_addresses (Stopped (Write pc gpa) h turn) r all = moved_addresses r h (slice_get r.harts h) refl all

pub pass_addresses : (r : State) → HaveAddresses r.harts → HaveAddresses (passed_over r).harts
unfolding passed_over
pass_addresses r all = under_addresses r.journal.verdict r all
