-- The loops over all slots.
use Rattle.std.proofs.Common.{◌≡◌, ℕ, zero, suc, ◌+◌, ◌<◌, ◌≤◌, Bool, true, false, List, [], ◌∷◌, length, map, refl, ap, slice_set, arith, add-one}
use Rattle.std.specs.Prelude.{slice_index_or, if◌then◌else◌}
use Rattle.spec_hardware.specs.Machine.{forgets}
use Rattle.spec_hardware.specs.HardwareEvent.{interrupted_hw_harts, software_set}
use Rattle.monitor_exits.specs.HwOfSlots.{hw_at, hw_harts_of}
use Rattle.monitor_exits.specs.Slots.{slot_after_write, slot_with_software, notified_by, first_changed}
use Rattle.monitor_exits.specs.declared.slots.HartSlot.{HartSlot}

pub none_changed : (change : ℕ → HartSlot → HartSlot) (slots : List HartSlot) → first_changed change 0 0 slots ≡ slots
unfolding first_changed
none_changed change slots = refl

next_from : (change : ℕ → HartSlot → HartSlot) (at n : ℕ) (slots : List HartSlot) (d : HartSlot) → n < length slots
    → slice_set (first_changed change at n slots) n (change (at + n) (slice_index_or (first_changed change at n slots) n d))
    ≡ first_changed change at (suc n) slots
unfolding first_changed
next_from change at zero [] d below = absurd (omega arith)
next_from change at zero (x ∷ slots) d below = let same : at + 0 ≡ at = omega arith in rw same refl
next_from change at (suc n) [] d below = absurd (omega arith)
next_from change at (suc n) (x ∷ slots) d below =
    let same : at + suc n ≡ (at + 1) + n = omega arith in
    rw same (ap (◌∷◌ (change at x)) (next_from change (at + 1) n slots d (omega arith)))

pub next_changed : (change : ℕ → HartSlot → HartSlot) (n : ℕ) (slots : List HartSlot) (d : HartSlot) → n < length slots
    → slice_set (first_changed change 0 n slots) n (change n (slice_index_or (first_changed change 0 n slots) n d))
    ≡ first_changed change 0 (n + 1) slots
next_changed change n slots d below =
    let start : 0 + n ≡ n = omega arith in
    let next = next_from change 0 n slots d below in
    rw (add-one n) (rw start at next)

pub length_changed : (change : ℕ → HartSlot → HartSlot) (at n : ℕ) (slots : List HartSlot) → length (first_changed change at n slots) ≡ length slots
unfolding first_changed
length_changed change at zero slots = refl
length_changed change at (suc n) [] = refl
length_changed change at (suc n) (x ∷ slots) = ap (λ k. suc k) (length_changed change (at + 1) n slots)

-- all hosts after a write
pub all_forgotten : (hpa width at n : ℕ) (slots : List HartSlot) → length slots ≤ n
    → hw_harts_of (first_changed (λ h. slot_after_write hpa width) at n slots) ≡ map (forgets hpa width) (hw_harts_of slots)
unfolding first_changed
all_forgotten hpa width at zero [] below = refl
all_forgotten hpa width at zero (x ∷ slots) below = absurd (omega arith)
all_forgotten hpa width at (suc n) [] below = refl
all_forgotten hpa width at (suc n) (x ∷ slots) below =
    ap (◌∷◌ (forgets hpa width (hw_at x))) (all_forgotten hpa width (at + 1) n slots (omega arith))

notified_one : (b : Bool) (x : HartSlot) → hw_at (if b then slot_with_software x else x) ≡ (if b then software_set (hw_at x) else hw_at x)
notified_one true x = refl
notified_one false x = refl

-- all hosts after an interrupt
pub all_notified : (named : ℕ → Bool) (at n : ℕ) (slots : List HartSlot) → length slots ≤ n
    → hw_harts_of (first_changed (notified_by named) at n slots) ≡ interrupted_hw_harts named at (hw_harts_of slots)
unfolding first_changed interrupted_hw_harts
all_notified named at zero [] below = refl
all_notified named at zero (x ∷ slots) below = absurd (omega arith)
all_notified named at (suc n) [] below = refl
all_notified named at (suc n) (x ∷ slots) below =
    rw (notified_one (named at) x)
    (ap (◌∷◌ (if named at then software_set (hw_at x) else hw_at x)) (all_notified named (at + 1) n slots (omega arith)))

pub ruleset changed_one_by_one = (none_changed, next_changed, length_changed)
