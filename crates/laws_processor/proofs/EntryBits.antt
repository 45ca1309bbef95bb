-- A flag of an entry, as a mask tests it and as a bit.
use Rattle.std.proofs.Common.{◌≡◌, ℕ, ◌*◌, ◌/◌, ◌%◌, ◌^◌, ◌<◌, ◌≤◌, ◌⊎◌, inl, inr, zero, suc, refl, ◌∙◌, ap, arith, lit<}
use Rattle.std.specs.Prelude.{◌==◌}
use Rattle.std.proofs.Math.Nat.{mod-lt, one-le-pow}
use Rattle.std.proofs.lemmas.Bool.Decides.{nat_tests}
use Rattle.std.proofs.lemmas.Nat.Bits.{and_pow}
use Rattle.std.specs.Int.Bits.{bit_and}
use Rattle.spec_processor.specs.Bits.{bit}

by_cases : (b m : ℕ) → 0 < m → (b ≡ 0) ⊎ (b ≡ 1) → (b * m == m) ≡ (b == 1)
by_cases b m some (inl e) = rw e (grind (arith, nat_tests))
by_cases b m some (inr e) = rw e (grind (arith, nat_tests))

zero_or_one : (b : ℕ) → b < 2 → (b ≡ 0) ⊎ (b ≡ 1)
zero_or_one zero h = inl refl
zero_or_one (suc zero) h = inr refl
zero_or_one (suc (suc b)) h = absurd (omega arith)

pub tests_bit : (e k : ℕ) → (bit_and e (2 ^ k) == 2 ^ k) ≡ bit e k
tests_bit e k =
    let some : 1 ≤ 2 ^ k = one-le-pow k 2 (lit< tt) in
    let small : e / 2 ^ k % 2 < 2 = mod-lt (e / 2 ^ k) (lit< tt) in
    ap (λ (x : ℕ). x == 2 ^ k) (and_pow e k) ∙ by_cases (e / 2 ^ k % 2) (2 ^ k) (omega arith) (zero_or_one (e / 2 ^ k % 2) small)
