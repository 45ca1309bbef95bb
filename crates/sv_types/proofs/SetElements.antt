-- What is found in a list after a change of one of its elements.
use Rattle.std.proofs.Common.{◌≡◌, ℕ, zero, suc, ◌⊎◌, inl, inr, List, [], ◌∷◌, refl, ap, slice_get, slice_set}
use Rattle.std.specs.Prelude.{Some}

pub set_other : {A : Type 0} (xs : List A) (at k : ℕ) (x : A) → (k ≡ at → ⊥) → slice_get (slice_set xs at x) k ≡ slice_get xs k
set_other [] at k x other = refl
set_other (y ∷ xs) zero zero x other = absurd (other refl)
set_other (y ∷ xs) zero (suc k) x other = refl
set_other (y ∷ xs) (suc at) zero x other = refl
set_other (y ∷ xs) (suc at) (suc k) x other = set_other xs at k x (λ e. other (ap suc e))

-- the new one, or one that was there
pub set_or_there : {A : Type 0} (xs : List A) (at k : ℕ) (x y : A) → slice_get (slice_set xs at x) k ≡ Some y → (x ≡ y) ⊎ (slice_get xs k ≡ Some y)
set_or_there [] at k x y e = inr e
set_or_there (z ∷ xs) zero zero x y e = inl (cc)
set_or_there (z ∷ xs) zero (suc k) x y e = inr e
set_or_there (z ∷ xs) (suc at) zero x y e = inr e
set_or_there (z ∷ xs) (suc at) (suc k) x y e = set_or_there xs at k x y e
