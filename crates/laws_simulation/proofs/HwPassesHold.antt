-- A pass on the machine is the reference machine's.
use Rattle.std.proofs.Common.{◌≡◌, ℕ, zero, suc, List, [], ◌∷◌, length, refl, sym, ◌∙◌, ap, subst, slice_get, slice_set, arith}
use Rattle.std.specs.Prelude.{Option, Some, None}
use Rattle.spec_processor.specs.HypervisorRegisters.{HypervisorRegisters}
use Rattle.sv_types.specs.declared.event.Rule.TheVariants.{Entry, Write}
use Rattle.sv_types.specs.declared.event.Verdict.{Verdict}
use Rattle.sv_types.specs.declared.event.Verdict.TheVariants.{Running, Shutdown, Stopped}
use Rattle.spec_reference.specs.Requests.{at_next_instruction}
use Rattle.spec_reference.specs.States.{State, Hart}
use Rattle.spec_hardware.specs.Machine.{HwHart, update}
use Rattle.spec_hardware.specs.StandsFor.{Unseen, IsRightFor, machine_of, hw_harts, hw_hart}
use Rattle.laws_simulation.proofs.Stays.{length_set}
use Rattle.laws_simulation.specs.Passing.{moved_on, passed_under, passed_over}
use Rattle.laws_simulation.specs.HwPassing.{HwPassLaw, hw_at_next, hw_moved_on, hw_passed_under, hw_passed_over}
use Rattle.laws_simulation.proofs.PassesHold.{pass_sound_law}

-- ---- harts

hart_there : (t : ℕ) (exits : List HypervisorRegisters) (harts : List Hart) (h : ℕ) (hart : Hart) → length exits ≡ length harts → slice_get harts h ≡ Some hart
    → (hw : HwHart) × (slice_get (hw_harts t exits harts) h ≡ Some hw)
unfolding hw_harts
hart_there t [] [] h hart same e = absurd (cc)
hart_there t [] (x ∷ harts) h hart same e = absurd (omega (arith, same))
hart_there t (exit ∷ exits) [] h hart same e = absurd (cc)
hart_there t (exit ∷ exits) (x ∷ harts) zero hart same e = (hw_hart t exit x, refl)
hart_there t (exit ∷ exits) (x ∷ harts) (suc h) hart same e = hart_there t exits harts h hart (omega (arith, same)) e

none_there : (t : ℕ) (exits : List HypervisorRegisters) (harts : List Hart) (h : ℕ) → length exits ≡ length harts → slice_get harts h ≡ None
    → slice_get (hw_harts t exits harts) h ≡ None
unfolding hw_harts
none_there t [] [] h same e = refl
none_there t [] (x ∷ harts) h same e = absurd (omega (arith, same))
none_there t (exit ∷ exits) [] h same e = absurd (omega (arith, same))
none_there t (exit ∷ exits) (x ∷ harts) zero same e = absurd (cc)
none_there t (exit ∷ exits) (x ∷ harts) (suc h) same e = none_there t exits harts h (omega (arith, same)) e

next_hart : (t : ℕ) (exit : HypervisorRegisters) (x hart : Hart) → ◌≡◌ {A = Option Hart} (Some x) (Some hart) → hw_hart t exit (at_next_instruction hart) ≡ hw_at_next (hw_hart t exit x)
next_hart t exit x hart e = let same : x ≡ hart = cc in subst (λ (y : Hart). hw_hart t exit (at_next_instruction y) ≡ hw_at_next (hw_hart t exit x)) same refl

harts_moved : (t : ℕ) (exits : List HypervisorRegisters) (harts : List Hart) (h : ℕ) (hart : Hart) → length exits ≡ length harts → slice_get harts h ≡ Some hart
    → hw_harts t exits (slice_set harts h (at_next_instruction hart)) ≡ update (hw_harts t exits harts) h hw_at_next
unfolding hw_harts update
harts_moved t [] [] h hart same e = absurd (cc)
harts_moved t [] (x ∷ harts) h hart same e = absurd (omega (arith, same))
harts_moved t (exit ∷ exits) [] h hart same e = absurd (cc)
harts_moved t (exit ∷ exits) (x ∷ harts) zero hart same e = ap (λ (hw : HwHart). hw ∷ hw_harts t exits harts) (next_hart t exit x hart e)
harts_moved t (exit ∷ exits) (x ∷ harts) (suc h) hart same e =
    ap (λ (hws : List HwHart). hw_hart t exit x ∷ hws) (harts_moved t exits harts h hart (omega (arith, same)) e)

-- ---- the machine

moved_same : (o : Unseen) (r : State) (h : ℕ) (x : Option Hart) → length o.exits ≡ length r.harts → slice_get r.harts h ≡ x
    → machine_of o (moved_on r h x) ≡ hw_moved_on (machine_of o r) h (slice_get (machine_of o r).harts h)
unfolding moved_on hw_moved_on machine_of
moved_same o r h None same there =
    ap (λ (found : Option HwHart). hw_moved_on (machine_of o r) h found) (sym (none_there (length o.tables) o.exits r.harts h same there))
moved_same o r h (Some hart) same there =
    let found = hart_there (length o.tables) o.exits r.harts h hart same there in
    ap (λ (hws : List HwHart). record (machine_of o (moved_on r h (Some hart))) { harts = hws }) (harts_moved (length o.tables) o.exits r.harts h hart same there)
    ∙ ap (λ (x : Option HwHart). hw_moved_on (machine_of o r) h x) (sym found.1)

under_same : (v : Verdict) (o : Unseen) (r : State) → length o.exits ≡ length r.harts → machine_of o (passed_under v r) ≡ hw_passed_under v (machine_of o r)
unfolding passed_under hw_passed_under
under_same Running o r same = refl
under_same Shutdown o r same = refl
under_same (Stopped (Entry target) h turn) o r same = refl
under_same (Stopped (Write pc gpa) h turn) o r same = moved_same o r h (slice_get r.harts h) same refl

pass_same : (o : Unseen) (r : State) → length o.exits ≡ length r.harts → machine_of o (passed_over r) ≡ hw_passed_over (machine_of o r)
unfolding passed_over hw_passed_over machine_of
pass_same o r same = under_same r.journal.verdict o r same

-- ---- the unseen parts go with the state after it

moved_right : (o : Unseen) (r : State) (h : ℕ) (x : Option Hart) → IsRightFor o r → IsRightFor o (moved_on r h x)
unfolding moved_on
moved_right o r h None k = k
moved_right o r h (Some hart) k = record {
  views = k.views;
  region = k.region;
  exits = k.exits ∙ sym (length_set r.harts h (at_next_instruction hart));
  cleared = k.cleared;
}

under_right : (v : Verdict) (o : Unseen) (r : State) → IsRightFor o r → IsRightFor o (passed_under v r)
unfolding passed_under
under_right Running o r k = k
under_right Shutdown o r k = k
under_right (Stopped (Entry target) h turn) o r k = k
under_right (Stopped (Write pc gpa) h turn) o r k = moved_right o r h (slice_get r.harts h) k

pass_right : (o : Unseen) (r : State) → IsRightFor o r → IsRightFor o (passed_over r)
unfolding passed_over
pass_right o r k = under_right r.journal.verdict o r k

pub hw_pass_law : HwPassLaw
hw_pass_law m r s = record {
  unseen = s.unseen;
  same = ap hw_passed_over s.same ∙ sym (pass_same s.unseen r s.unseen_is_right.exits);
  unseen_is_right = pass_right s.unseen r s.unseen_is_right;
  sound = pass_sound_law r s.sound;
}
