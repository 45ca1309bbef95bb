-- The first notes stay.
use Rattle.std.proofs.Common.{◌≡◌, ℕ, zero, suc, ◌<◌, ◌≤◌, List, [], ◌∷◌, ◌++◌, length, take, refl, ap, arith}
use Rattle.sv_types.specs.Limits.{max_notes}
use Rattle.sv_types.specs.declared.event.Note.{Note}

full : (n : ℕ) (notes rest : List Note) → length notes ≡ n → take n (notes ++ rest) ≡ notes
full zero [] rest e = refl
full (suc n) [] rest e = cc
full zero (x ∷ notes) rest e = cc
full (suc n) (x ∷ notes) rest e = ap (◌∷◌ x) (full n notes rest (cc))

room : (n : ℕ) (notes : List Note) → length notes ≤ n → take n notes ≡ notes
room zero [] e = refl
room (suc n) [] e = refl
room zero (x ∷ notes) e = absurd (omega arith)
room (suc n) (x ∷ notes) e = ap (◌∷◌ x) (room n notes (omega arith))

length-one : (notes : List Note) (note : Note) → length (notes ++ note ∷ []) ≡ suc (length notes)
length-one [] note = refl
length-one (x ∷ notes) note = ap suc (length-one notes note)

pub notes_full : (notes : List Note) (note : Note) → length notes ≤ max_notes → max_notes ≤ length notes → take max_notes (notes ++ note ∷ []) ≡ notes
notes_full notes note few many = full max_notes notes (note ∷ []) (omega arith)

pub notes_room : (notes : List Note) (note : Note) → length notes < max_notes → take max_notes (notes ++ note ∷ []) ≡ notes ++ note ∷ []
notes_room notes note few = room max_notes (notes ++ note ∷ []) (omega (arith, length-one notes note))
