-- The frame of an answer.
use Rattle.std.proofs.Common.{◌≡◌, ℕ, zero, suc, ◌+◌, ◌⊎◌, inl, inr, List, [], ◌∷◌, length, refl, sym, ◌∙◌, ap, subst, Bool, true, false, ◌==◌, not, slice_get}
use Rattle.std.specs.Prelude.{Option, Some, if◌then◌else◌}
use Rattle.std.proofs.lemmas.Bool.{eqb-true, eqb-false, cases_Bool, not-true}
use Rattle.spec_reference.specs.Calls.{mask_names}
use Rattle.spec_hardware.specs.Machine.{Machine, HwHart, update}
use Rattle.spec_hardware.specs.HardwareEvent.{Answer, Others, Nobody, Starts, Interrupts, MayChange, is_stopped, hart_answered}
use Rattle.spec_hardware.specs.HardwareEvent.{software_set, interrupted_hw_harts, others_changed, machine_after_answer}
use Rattle.spec_hardware.specs.Frame.{FrameLaw, OtherStays, OwnStays}
use Rattle.sv_types.proofs.SetElements.{set_other}

-- ---- lists of harts

get_updated : (harts : List HwHart) (h k : ℕ) (change : HwHart → HwHart) → (k ≡ h → ⊥) → slice_get (update harts h change) k ≡ slice_get harts k
unfolding update
get_updated [] h k change other = refl
get_updated (x ∷ harts) zero zero change other = absurd (other refl)
get_updated (x ∷ harts) zero (suc k) change other = refl
get_updated (x ∷ harts) (suc h) zero change other = refl
get_updated (x ∷ harts) (suc h) (suc k) change other = get_updated harts h k change (λ e. other (ap suc e))

pub get_own : (harts : List HwHart) (h : ℕ) (change : HwHart → HwHart) (hw : HwHart) → slice_get harts h ≡ Some hw
    → slice_get (update harts h change) h ≡ Some (change hw)
unfolding update
get_own [] h change hw found = cc
get_own (x ∷ harts) zero change hw found = let same : x ≡ hw = cc in rw same refl
get_own (x ∷ harts) (suc h) change hw found = get_own harts h change hw found

abbrev interrupted_by : Bool → HwHart → HwHart
interrupted_by true hw = software_set hw
interrupted_by false hw = hw

chosen : (b : Bool) (hw : HwHart) → Some (if b then software_set hw else hw) ≡ Some (interrupted_by b hw)
chosen true hw = refl
chosen false hw = refl

get_interrupted : (named : ℕ → Bool) (first : ℕ) (harts : List HwHart) (k : ℕ) (hw : HwHart) → slice_get harts k ≡ Some hw
    → (b : Bool) × (slice_get (interrupted_hw_harts named first harts) k ≡ Some (interrupted_by b hw))
unfolding interrupted_hw_harts
get_interrupted named first [] k hw found = cc
get_interrupted named first (x ∷ harts) zero hw found = let same : x ≡ hw = cc in (named first, rw same (chosen (named first) hw))
get_interrupted named first (x ∷ harts) (suc k) hw found = get_interrupted named (first + 1) harts k hw found

-- ---- what is done to other harts

-- either what became of the hart is left, but for its software interrupt, or the hart was stopped
abbrev Left : (hw now : HwHart) → (found : Option HwHart) → Type 0
Left hw now found = ((b : Bool) × (found ≡ Some (interrupted_by b now))) ⊎ (hw.started ≡ false)

stopped_is : (harts : List HwHart) (k o : ℕ) (hw : HwHart) → (k == o) ≡ true → slice_get harts k ≡ Some hw → is_stopped (slice_get harts o) ≡ true
    → hw.started ≡ false
stopped_is harts k o hw same found stopped =
    let at : slice_get harts o ≡ Some hw = subst (λ n. slice_get harts n ≡ Some hw) (eqb-true k o same) found in
    let k : not hw.started ≡ true = subst (λ x. is_stopped x ≡ true) at stopped in not-true hw.started k

get_others : (o : Others) (harts next : List HwHart) (k : ℕ) (hw now : HwHart) → MayChange harts o → slice_get harts k ≡ Some hw
    → slice_get next k ≡ Some now → Left hw now (slice_get (others_changed o next) k)
unfolding others_changed
get_others Nobody harts next k hw now may found there = inl (false, there)
get_others (Starts o hart) harts next k hw now may found there = elim (cases_Bool (k == o)) [
  | inl same ↦ inr (stopped_is harts k o hw same found may)
  | inr other ↦ inl (false, set_other next o k hart (eqb-false k o other) ∙ there)
]
get_others (Interrupts mask base) harts next k hw now may found there = inl (get_interrupted (mask_names mask base) 0 next k now there)

other_stays : (hw : HwHart) (found : Option HwHart) → Left hw hw found → OtherStays hw found
other_stays hw found (inl (true, e)) = inr (inl e)
other_stays hw found (inl (false, e)) = inl e
other_stays hw found (inr stopped) = inr (inr stopped)

own_stays : (hw new : HwHart) (found : Option HwHart) → Left hw (hart_answered new hw) found → OwnStays hw found
own_stays hw new found (inl (true, e)) = inl (record { next = software_set (hart_answered new hw); there = e; same = refl })
own_stays hw new found (inl (false, e)) = inl (record { next = hart_answered new hw; there = e; same = refl })
own_stays hw new found (inr stopped) = inr stopped

others_kept : (before : Machine) (h : ℕ) (a : Answer) (k : ℕ) (hw : HwHart) → MayChange before.harts a.others → (k == h) ≡ false
    → slice_get before.harts k ≡ Some hw → OtherStays hw (slice_get (machine_after_answer before h a).harts k)
others_kept before h a k hw may other found = other_stays hw _
    (get_others a.others before.harts (update before.harts h (hart_answered a.hart)) k hw hw may found
    (get_updated before.harts h k (hart_answered a.hart) (eqb-false k h other) ∙ found))

own_kept : (before : Machine) (h : ℕ) (a : Answer) (hw : HwHart) → MayChange before.harts a.others → slice_get before.harts h ≡ Some hw
    → OwnStays hw (slice_get (machine_after_answer before h a).harts h)
own_kept before h a hw may found = own_stays hw a.hart _
    (get_others a.others before.harts (update before.harts h (hart_answered a.hart)) h hw (hart_answered a.hart hw) may found
    (get_own before.harts h (hart_answered a.hart) hw found))

-- ---- the law

pub frame_law : FrameLaw
frame_law before after h k = record {
  ram = ap (λ (m : Machine). m.region.ram) k.same;
  table_size = ap (λ (m : Machine). length m.region.tables) k.same ∙ k.size;
  rules = ap (λ (m : Machine). m.rules) k.same;
  time = ap (λ (m : Machine). m.devices.clock.time) k.same;
  more = k.answer.printed;
  printed = ap (λ (m : Machine). m.journal.printed) k.same;
  cleared = ap (λ (m : Machine). m.cleared) k.same;
  attempts = ap (λ (m : Machine). m.attempts) k.same;
  others = λ i hw other found. subst (λ (m : Machine). OtherStays hw (slice_get m.harts i)) (sym k.same)
      (others_kept before h k.answer i hw k.may other found);
  own = λ hw found. subst (λ (m : Machine). OwnStays hw (slice_get m.harts h)) (sym k.same) (own_kept before h k.answer hw k.may found);
}
