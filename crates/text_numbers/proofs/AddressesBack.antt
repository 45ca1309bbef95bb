-- Printed addresses are read back.
use Rattle.std.proofs.Common.{◌≡◌, ℕ, zero, suc, ◌*◌, ◌/◌, ◌%◌, ◌^◌, ◌<◌, true, [], ◌∷◌, length, Some, refl, ◌∙◌, ap, arith, pow-suc}
use Rattle.std.proofs.lemmas.Bool.Decides.{nat_tests}
use Rattle.std.proofs.lemmas.Int.Digits.{digits_value_push}
use Rattle.std.proofs.lemmas.List.{length-append}
use Rattle.std.proofs.lemmas.List.Folds.{list_all-append}
use Rattle.std.proofs.lemmas.Str.{digit_value-digit_char}
use Rattle.std.specs.List.{list_all}
use Rattle.std.specs.Char.{digit_char, digit_value, is_ascii_hexdigit}
use Rattle.std.specs.Str.Parse.{digits_value}
use Rattle.sv_types.specs.Output.{hexadecimal, address_text}
use Rattle.sv_types.specs.Addresses.{address_of}

length-hexadecimal : (n v : ℕ) → length (hexadecimal n v) ≡ n
unfolding hexadecimal
length-hexadecimal zero v = refl
length-hexadecimal (suc n) v = omega (arith, length-append (hexadecimal n (v / 16)) (digit_char (v % 16) ∷ []), length-hexadecimal n (v / 16))

is_digit_of : (d : ℕ) → d < 16 → is_ascii_hexdigit (digit_char d) ≡ true
is_digit_of d small = grind (arith, nat_tests)

only_digits : (n v : ℕ) → list_all is_ascii_hexdigit (hexadecimal n v) ≡ true
unfolding hexadecimal
only_digits zero v = refl
only_digits (suc n) v =
    list_all-append is_ascii_hexdigit (hexadecimal n (v / 16)) (digit_char (v % 16) ∷ [])
    ∙ rw (only_digits n (v / 16), is_digit_of (v % 16) (omega arith)) refl

-- the digits write the number again
digits_back : (n v : ℕ) → v < 16 ^ n → digits_value 16 (hexadecimal n v) ≡ v
unfolding hexadecimal
digits_back zero v small = omega arith
digits_back (suc n) v small =
    let power : v < 16 ^ n * 16 = rw pow-suc at small in
    let front : digits_value 16 (hexadecimal n (v / 16)) ≡ v / 16 = digits_back n (v / 16) (omega arith) in
    let last : digit_value (digit_char (v % 16)) ≡ v % 16 = digit_value-digit_char (v % 16) (omega arith) in
    digits_value_push 16 (hexadecimal n (v / 16)) (digit_char (v % 16)) ∙ rw (front, last) (omega arith)

pub printed_is_read : (a : ℕ) → a < 2 ^ 64 → address_of (address_text a) ≡ Some a
unfolding address_of address_text
printed_is_read a small = rw (length-hexadecimal 16 a, only_digits 16 a) (ap (λ (n : ℕ). Some n) (digits_back 16 a small))
