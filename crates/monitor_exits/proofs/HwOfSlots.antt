-- The hosts of a list of slots, of which one is read or changed.
use Rattle.std.proofs.Common.{◌≡◌, ℕ, zero, suc, List, [], ◌∷◌, length, refl, ap, slice_set}
use Rattle.std.specs.Prelude.{slice_index_or}
use Rattle.spec_hardware.specs.Machine.{HwHart, update}
use Rattle.monitor_exits.specs.HwOfSlots.{hw_at, hw_harts_of}
use Rattle.monitor_exits.specs.declared.slots.HartSlot.{HartSlot}

pub hw_harts_length : (slots : List HartSlot) → length (hw_harts_of slots) ≡ length slots
hw_harts_length [] = refl
hw_harts_length (x ∷ slots) = ap (λ n. suc n) (hw_harts_length slots)

pub hw_harts_set : (slots : List HartSlot) (h : ℕ) (slot : HartSlot) → slice_set (hw_harts_of slots) h (hw_at slot) ≡ hw_harts_of (slice_set slots h slot)
hw_harts_set [] h slot = refl
hw_harts_set (x ∷ slots) zero slot = refl
hw_harts_set (x ∷ slots) (suc h) slot = ap (◌∷◌ (hw_at x)) (hw_harts_set slots h slot)

-- a hart that is put back where it was
pub hw_harts_same : (slots : List HartSlot) (h : ℕ) (d : HartSlot) → slice_set (hw_harts_of slots) h (hw_at (slice_index_or slots h d)) ≡ hw_harts_of slots
hw_harts_same [] h d = refl
hw_harts_same (x ∷ slots) zero d = refl
hw_harts_same (x ∷ slots) (suc h) d = ap (◌∷◌ (hw_at x)) (hw_harts_same slots h d)

-- a hart that is changed in place
pub hw_harts_updated : (slots : List HartSlot) (h : ℕ) (d : HartSlot) (change : HwHart → HwHart)
    → update (hw_harts_of slots) h change ≡ slice_set (hw_harts_of slots) h (change (hw_at (slice_index_or slots h d)))
unfolding update
hw_harts_updated [] h d change = refl
hw_harts_updated (x ∷ slots) zero d change = refl
hw_harts_updated (x ∷ slots) (suc h) d change = ap (◌∷◌ (hw_at x)) (hw_harts_updated slots h d change)
