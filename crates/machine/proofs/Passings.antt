-- A hart that goes on at its next instruction.
use Rattle.std.proofs.Common.{◌≡◌, ℕ, zero, suc, ◌<◌, ◌≤◌, List, [], ◌∷◌, length, refl, sym, ◌∙◌, ap, subst, slice_get, slice_set, arith}
use Rattle.std.specs.Prelude.{Option, Some, None, slice_index_or}
use Rattle.sv_types.specs.declared.event.Verdict.TheVariants.{Running}
use Rattle.spec_reference.specs.Counting.{machine_ended}
use Rattle.spec_hardware.specs.Machine.{Machine, HwHart, update}
use Rattle.monitor_exits.proofs.HwOfSlots.{hw_harts_length, hw_harts_set, hw_harts_updated}
use Rattle.monitor_exits.specs.HwOfSlots.{hw_at, hw_harts_of}
use Rattle.monitor_exits.specs.declared.slots.HartSlot.{HartSlot}
use Rattle.laws_simulation.specs.HwPassing.{hw_at_next, hw_moved_on}

-- in its slot
pub slot_moved : (slots : List HartSlot) (h : ℕ) (old new : HartSlot) → old ≡ slice_index_or slots h old → hw_at new ≡ hw_at_next (hw_at old)
    → hw_harts_of (slice_set slots h new) ≡ update (hw_harts_of slots) h hw_at_next
slot_moved slots h old new is next =
    sym (hw_harts_set slots h new)
    ∙ ap (λ (hw : HwHart). slice_set (hw_harts_of slots) h hw) (next ∙ ap (λ (s : HartSlot). hw_at_next (hw_at s)) is)
    ∙ sym (hw_harts_updated slots h old hw_at_next)

there : (hws : List HwHart) (h : ℕ) → h < length hws → (hw : HwHart) × (slice_get hws h ≡ Some hw)
there [] h below = absurd (omega arith)
there (x ∷ hws) zero below = (x, refl)
there (x ∷ hws) (suc h) below = there hws h (omega arith)

not_there : (hws : List HwHart) (h : ℕ) → length hws ≤ h → slice_get hws h ≡ None
not_there [] h above = refl
not_there (x ∷ hws) zero above = absurd (omega arith)
not_there (x ∷ hws) (suc h) above = not_there hws h (omega arith)

-- in the machine
pub machine_moved : (m : Machine) (h : ℕ) (hws : List HwHart) → hws ≡ update m.harts h hw_at_next → h < length m.harts
    → record m { harts = hws; journal = machine_ended Running m.journal } ≡ hw_moved_on m h (slice_get m.harts h)
unfolding hw_moved_on
machine_moved m h hws same below =
    let found = there m.harts h below in
    ap (λ (harts : List HwHart). record m { harts = harts; journal = machine_ended Running m.journal }) same
    ∙ ap (λ (x : Option HwHart). hw_moved_on m h x) (sym found.1)

-- a hart that isn't there
pub machine_stays : (m : Machine) (h : ℕ) → length m.harts ≤ h → m ≡ hw_moved_on m h (slice_get m.harts h)
unfolding hw_moved_on
machine_stays m h above = ap (λ (x : Option HwHart). hw_moved_on m h x) (sym (not_there m.harts h above))

pub slots_below : (slots : List HartSlot) (h : ℕ) → h < length slots → h < length (hw_harts_of slots)
slots_below slots h below = subst (λ (n : ℕ). h < n) (sym (hw_harts_length slots)) below

pub slots_above : (slots : List HartSlot) (h : ℕ) → length slots ≤ h → length (hw_harts_of slots) ≤ h
slots_above slots h above = subst (λ (n : ℕ). n ≤ h) (sym (hw_harts_length slots)) above
