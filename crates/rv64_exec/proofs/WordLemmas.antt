-- Machine words: which operations stay below 2 ^ 64, and quotients of the low 32 bits.
use Rattle.std.proofs.Common.{◌≡◌, ℕ, suc, ◌/◌, ◌%◌, ◌^◌, ◌<◌, ◌≤◌, ℤ, pos, negsuc, arith, ap, sym, zero, refl}
use Rattle.std.specs.Prelude.{bit_or, bit_xor, int_div, unsigned_abs, FitsSigned, neg_ℤ, ◌*ℤ◌}
use Rattle.std.specs.Int.{w32, w64, w128, cast_signed, cast_unsigned, int_wrapping_div}
use Rattle.std.proofs.lemmas.Int.{fits_signed_mul, to_z-of_z, of_z-to_z}
use Rattle.std.proofs.lemmas.Nat.{or_lt, xor_lt}
use Rattle.std.proofs.Math.Nat.{mod-eq_of_lt, div-le_self}

pub or_whole : (a b : ℕ) → a < 2 ^ 64 → b < 2 ^ 64 → bit_or a b % 2 ^ 64 ≡ bit_or a b
or_whole a b h k = mod-eq_of_lt (or_lt 64 a b h k)

pub xor_whole : (a b : ℕ) → a < 2 ^ 64 → b < 2 ^ 64 → bit_xor a b % 2 ^ 64 ≡ bit_xor a b
xor_whole a b h k = mod-eq_of_lt (xor_lt 64 a b h k)

-- ---- products of 64-bit numbers fit 128 bits

abs_most : (x : ℤ) → FitsSigned w64 x → unsigned_abs x ≤ 2 ^ 63
abs_most (pos n) f = omega (arith, f.sfits)
abs_most (negsuc n) f = omega (arith, f.sfits)

wider : (x : ℤ) → FitsSigned w64 x → FitsSigned w128 x
wider x f = record { sfits = omega (arith, f.sfits) }

pub wide_product : (x y : ℤ) → FitsSigned w64 x → FitsSigned w64 y → cast_unsigned w128 (cast_signed w128 (cast_unsigned w128 (
    cast_signed w128 (cast_unsigned w128 (cast_signed w64 (cast_unsigned w64 x))) *ℤ cast_signed w128 (cast_unsigned w128 (cast_signed w64 (cast_unsigned w64 y))))))
    ≡ cast_unsigned w128 (x *ℤ y)
wide_product x y f g =
    let product : FitsSigned w128 (x *ℤ y) = fits_signed_mul w128 x y (2 ^ 63) (2 ^ 63) (abs_most x f) (abs_most y g) (omega arith) in
    simp (to_z-of_z w64 x f, to_z-of_z w64 y g, to_z-of_z w128 x (wider x f), to_z-of_z w128 y (wider y g), to_z-of_z w128 (x *ℤ y) product) refl

-- ---- quotients of 32-bit numbers

abs_neg : (n : ℕ) → unsigned_abs (neg_ℤ (pos n)) ≡ n
abs_neg zero = refl
abs_neg (suc n) = refl

abs_quotient : (x y : ℤ) → unsigned_abs (int_div x y) ≤ unsigned_abs x
abs_quotient (pos a) (pos b) = div-le_self a b
abs_quotient (pos a) (negsuc b) = omega (arith, abs_neg (a / suc b), div-le_self a (suc b))
abs_quotient (negsuc a) (pos b) = omega (arith, abs_neg (suc a / b), div-le_self (suc a) b)
abs_quotient (negsuc a) (negsuc b) = div-le_self (suc a) (suc b)

abs_low : (x : ℤ) → FitsSigned w32 x → unsigned_abs x ≤ 2 ^ 31
abs_low (pos n) f = omega (arith, f.sfits)
abs_low (negsuc n) f = omega (arith, f.sfits)

low_bits : (z : ℤ) → unsigned_abs z ≤ 2 ^ 31 → cast_unsigned w64 z % 2 ^ 32 ≡ cast_unsigned w32 z
low_bits (pos n) h = omega arith
low_bits (negsuc n) h = omega arith

low_below : (z : ℤ) → unsigned_abs z ≤ 2 ^ 31 → cast_unsigned w32 z < 2 ^ 32
low_below (pos n) h = omega arith
low_below (negsuc n) h = omega arith

-- the quotient that wraps at 32 bits is the low 32 bits of the one that doesn't
pub low_quotient : (x y : ℤ) → FitsSigned w32 x → FitsSigned w32 y
    → cast_signed w32 (cast_unsigned w32 (int_wrapping_div w32 (cast_signed w32 (cast_unsigned w32 x)) (cast_signed w32 (cast_unsigned w32 y))))
    ≡ cast_signed w32 (cast_unsigned w64 (int_div x y) % 2 ^ 32)
low_quotient x y f g =
    let most : unsigned_abs (int_div x y) ≤ 2 ^ 31 = omega (arith, abs_quotient x y, abs_low x f) in
    simp (to_z-of_z w32 x f, to_z-of_z w32 y g, of_z-to_z w32 (cast_unsigned w32 (int_div x y)) (low_below (int_div x y) most)) (ap (cast_signed w32) (sym (low_bits (int_div x y) most)))
