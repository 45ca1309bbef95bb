-- Numbers in a row, and the headers of sections, one after the other.
use Rattle.std.proofs.Common.{◌≡◌, ℕ, zero, suc, ◌+◌, ◌*◌, List, [], ◌∷◌, ◌++◌, map, ap, sym, ◌∙◌, arith}
use Rattle.std.proofs.lemmas.List.{map-append}
use Rattle.sv_types.specs.ApprovedPages.{numbers_from}
use Rattle.elf64_load.specs.Sections.{section_at, sections_among, sections_place}

-- one more
numbers_from-suc : (first n : ℕ) → numbers_from first (n + 1) ≡ numbers_from first n ++ (first + n) ∷ []
numbers_from-suc first zero = let same : first ≡ first + 0 = omega arith in ap (λ (m : ℕ). m ∷ []) same
numbers_from-suc first (suc n) =
    let next : suc n + 1 ≡ suc (n + 1) = omega arith in
    let place : first + 1 + n ≡ first + suc n = omega arith in
    ap (numbers_from first) next ∙ ap (λ (ms : List ℕ). first ∷ ms) (numbers_from-suc (first + 1) n ∙ ap (λ (m : ℕ). numbers_from (first + 1) n ++ m ∷ []) place)

pub numbers-suc : (n : ℕ) → numbers_from 0 (n + 1) ≡ numbers_from 0 n ++ n ∷ []
numbers-suc n = let same : 0 + n ≡ n = omega arith in numbers_from-suc 0 n ∙ ap (λ (m : ℕ). numbers_from 0 n ++ m ∷ []) same

pub map-suc : {X : Type 0} (f : ℕ → X) (n : ℕ) → map f (numbers_from 0 (n + 1)) ≡ map f (numbers_from 0 n) ++ f n ∷ []
map-suc f n = ap (λ (ns : List ℕ). map f ns) (numbers-suc n) ∙ map-append f (numbers_from 0 n) (n ∷ [])

pub one_section_more : (file : List ℕ) (i table : ℕ) → table ≡ sections_place file
    → sections_among file (i + 1) ≡ sections_among file i ++ section_at file (table + 64 * i) ∷ []
unfolding sections_among
one_section_more file i table place =
    map-suc (λ k. section_at file (sections_place file + 64 * k)) i
    ∙ ap (λ (t : ℕ). map (λ k. section_at file (sections_place file + 64 * k)) (numbers_from 0 i) ++ section_at file (t + 64 * i) ∷ []) (sym place)
