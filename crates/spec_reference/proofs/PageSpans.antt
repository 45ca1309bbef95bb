-- Numbers of pages in a span.
use Rattle.std.proofs.Common.{◌≡◌, ℕ, zero, suc, ◌+◌, ◌-◌, refl, ◌∙◌, ap, Bool, true, false, ◌&&◌, ◌||◌, arith}
use Rattle.std.specs.Prelude.{◌==◌, nat_le, nat_lt}
use Rattle.std.proofs.lemmas.Bool.{eqb-true, eq-eqb}
use Rattle.std.proofs.lemmas.Bool.Decides.{nat_tests}
use Rattle.sv_types.specs.ApprovedPages.{numbers_from}
use Rattle.spec_reference.specs.States.{has_number}

-- a number of a span is between its ends
pub in_numbers : (first count page : ℕ) → has_number (numbers_from first count) page ≡ (nat_le first page && nat_lt (page - first) count)
in_numbers first zero page = by (nat_le first page) (nat_lt (page - first) 0) refl
  where
    by : (a b : Bool) → nat_lt (page - first) 0 ≡ b → false ≡ (a && b)
    by true true e = absurd (grind (arith, nat_tests))
    by true false e = refl
    by false b e = refl
in_numbers first (suc count) page =
    ap (λ (b : Bool). first == page || b) (in_numbers (first + 1) count page)
    ∙ by (first == page) (nat_le (first + 1) page) (nat_lt (page - (first + 1)) count) (nat_le first page) (nat_lt (page - first) (suc count)) refl refl refl refl refl
  where
    by : (s a b c d : Bool) → (first == page) ≡ s → nat_le (first + 1) page ≡ a → nat_lt (page - (first + 1)) count ≡ b → nat_le first page ≡ c → nat_lt (page - first) (suc count) ≡ d
        → (s || (a && b)) ≡ (c && d)
    by true a b true true e f g h i = refl
    by true a b false d e f g h i = let same : first ≡ page = eqb-true first page e in absurd (grind (arith, nat_tests))
    by true a b true false e f g h i = let same : first ≡ page = eqb-true first page e in absurd (grind (arith, nat_tests))
    by false true true true true e f g h i = refl
    by false true true false d e f g h i = absurd (grind (arith, nat_tests))
    by false true true true false e f g h i = absurd (grind (arith, nat_tests))
    by false true false true true e f g h i = absurd (grind (arith, nat_tests))
    by false true false true false e f g h i = refl
    by false true false false d e f g h i = refl
    by false false b true true e f g h i = let apart : first ≡ page → ⊥ = λ same. let there : (first == page) ≡ true = eq-eqb first page same in cc in absurd (grind (arith, nat_tests, apart))
    by false false b true false e f g h i = refl
    by false false b false d e f g h i = refl
