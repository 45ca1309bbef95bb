-- Which harts are started, one slot after another.
use Rattle.std.proofs.Common.{◌≡◌, ℕ, zero, suc, ◌<◌, List, [], ◌∷◌, length, refl, ◌∙◌, ap, arith, get_or, slice_get}
use Rattle.std.specs.Prelude.{Some, option_map}
use Rattle.monitor_exits.specs.Known.{started_of}
use Rattle.monitor_exits.specs.declared.slots.HartSlot.{HartSlot}

pub started_at : (slots : List HartSlot) (i : ℕ) → slice_get (started_of slots) i ≡ option_map (λ (slot : HartSlot). slot.hart.started) (slice_get slots i)
started_at [] i = refl
started_at (slot ∷ slots) zero = refl
started_at (slot ∷ slots) (suc i) = started_at slots i

at_place : (slots : List HartSlot) (i : ℕ) (d : HartSlot) → i < length slots → Some (get_or slots i d).hart.started ≡ slice_get (started_of slots) i
at_place [] i d below = absurd (omega arith)
at_place (slot ∷ slots) zero d below = refl
at_place (slot ∷ slots) (suc i) d below = at_place slots i d (omega arith)

pub started_there : (slots : List HartSlot) (i : ℕ) (slot : HartSlot) → i < length slots → slot ≡ get_or slots i slot
    → Some slot.hart.started ≡ slice_get (started_of slots) i
started_there slots i slot below same = ap (λ (s : HartSlot). Some s.hart.started) same ∙ at_place slots i slot below

pub started_number : (slots : List HartSlot) → length (started_of slots) ≡ length slots
started_number [] = refl
started_number (slot ∷ slots) = ap suc (started_number slots)
