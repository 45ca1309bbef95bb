-- Numbers of pages, one after the other.
use Rattle.std.proofs.Common.{◌≡◌, ℕ, zero, suc, ◌+◌, List, [], ◌∷◌, ◌++◌, length, refl, ◌∙◌, ap, arith}
use Rattle.sv_types.specs.ApprovedPages.{numbers_from}

pub numbers_length : (first count : ℕ) → length (numbers_from first count) ≡ count
numbers_length first zero = refl
numbers_length first (suc count) = ap suc (numbers_length (first + 1) count)

-- those of one page more
pub numbers_more : (first count : ℕ) → numbers_from first (suc count) ≡ numbers_from first count ++ (first + count) ∷ []
numbers_more first zero = let same : first ≡ first + 0 = omega arith in ap (λ (n : ℕ). n ∷ []) same
numbers_more first (suc count) =
    let last : first + 1 + count ≡ first + suc count = omega arith in
    ap (λ (ns : List ℕ). first ∷ ns) (numbers_more (first + 1) count)
    ∙ ap (λ (n : ℕ). first ∷ (numbers_from (first + 1) count ++ n ∷ [])) last
