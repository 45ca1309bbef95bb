-- Digits of bytes, as the kit's `hex` prints them.
use Rattle.std.proofs.Common.{◌≡◌, ℕ, zero, suc, ◌/◌, ◌%◌, ◌<◌, Bool, true, ◌&&◌, ◌==◌, List, [], ◌∷◌, slice_index, refl, arith}
use Rattle.std.proofs.lemmas.Bool.Decides.{Decides-eqb, Decides-below_and}
use Rattle.std.specs.Char.{digit_char}
use Rattle.hex.specs.Hex.{IsBytes, encode_lower, encode_with, lower_digits}
use Rattle.sv_types.specs.Output.{hexadecimal_bytes}

abbrev same_below : ℕ → Bool
same_below zero = true
same_below (suc n) = slice_index lower_digits n == digit_char n && same_below n

digit_is : (d : ℕ) → d < 16 → slice_index lower_digits d ≡ digit_char d
digit_is d small =
    (Decides-below_and (λ n. slice_index lower_digits n == digit_char n) (λ n. slice_index lower_digits n ≡ digit_char n) same_below
    (λ n. Decides-eqb (slice_index lower_digits n) (digit_char n)) refl (λ n. refl) 16).0 refl d small

pub encoded : (bytes : List ℕ) → IsBytes bytes → encode_lower bytes ≡ hexadecimal_bytes bytes
unfolding encode_with
encoded [] is = refl
encoded (b ∷ bytes) is =
    let small : b < 256 = is 0 in
    rw (digit_is (b / 16) (omega arith), digit_is (b % 16) (omega arith), encoded bytes (λ i. is (suc i))) refl
