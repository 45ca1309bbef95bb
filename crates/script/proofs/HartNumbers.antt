-- The rest of a number by a power of two.
use Rattle.std.proofs.Common.{◌≡◌, ℕ, zero, suc, ◌-◌, ◌%◌, ◌<◌, ◌≤◌, arith}
use Rattle.std.specs.Int.Bits.{bit_and}
use Rattle.std.proofs.lemmas.Nat.{and_mask}

-- of one, two or four harts
pub rest_among : (harts n : ℕ) → 0 < harts → harts ≤ 4 → bit_and harts (harts - 1) ≡ 0 → bit_and n (harts - 1) ≡ n % harts
rest_among zero n some few power = absurd (omega (arith, some))
rest_among (suc zero) n some few power = and_mask n 0
rest_among (suc (suc zero)) n some few power = and_mask n 1
rest_among (suc (suc (suc zero))) n some few power = absurd (omega (arith, power))
rest_among (suc (suc (suc (suc zero)))) n some few power = and_mask n 2
rest_among (suc (suc (suc (suc (suc k))))) n some few power = absurd (omega (arith, few))
