-- Hexadecimal digits, as the standard library reads them.
use Rattle.std.proofs.Common.{◌≡◌, ℕ, ◌<◌, ◌≤◌, ◌^◌, true, false, ◌&&◌, ◌==◌, nat_le, leb-true, List, [], ◌∷◌, length, Result, Ok, refl, subst, arith}
use Rattle.std.proofs.lemmas.Bool.Decides.{nat_tests}
use Rattle.std.proofs.lemmas.Int.Digits.{digits_value-lt}
use Rattle.std.proofs.lemmas.Result.{Ok-from_Ok_iff}
use Rattle.std.proofs.Math.Nat.{pow-le-pow_right}
use Rattle.std.specs.List.{list_all}
use Rattle.std.specs.Char.{is_ascii_hexdigit, digit_value}
use Rattle.std.specs.Result.{OkIff}
use Rattle.std.specs.Str.Parse.{AllDigits, IsNumeral, digits_value, without_leading_plus, ParsesUnsigned}
use Rattle.std.proofs.lemmas.Bool.{and_parts}
use Rattle.sv_types.specs.Addresses.{is_hexadecimal}

below : (c : ℕ) → is_ascii_hexdigit c ≡ true → digit_value c < 16
below c is = grind (arith, nat_tests, is)

no_plus : (c : ℕ) → is_ascii_hexdigit c ≡ true → (c == 43) ≡ false
no_plus c is = grind (arith, nat_tests, is)

all_below : (ds : List ℕ) → list_all is_ascii_hexdigit ds ≡ true → AllDigits 16 ds
all_below [] is = tt
all_below (c ∷ cs) is = let parts = and_parts (is_ascii_hexdigit c) (list_all is_ascii_hexdigit cs) is in (below c parts.0, all_below cs parts.1)

plain : (ds : List ℕ) → list_all is_ascii_hexdigit ds ≡ true → without_leading_plus ds ≡ ds
plain [] is = refl
plain (c ∷ cs) is = rw (no_plus c (and_parts (is_ascii_hexdigit c) (list_all is_ascii_hexdigit cs) is).0) refl

-- 1 to 16 of them are read as the number that they write
pub hexadecimal_read : {E : Type 0} (ds : List ℕ) (r : Result ℕ E) → is_hexadecimal ds ≡ true → ParsesUnsigned 64 16 ds r → r ≡ Ok (digits_value 16 ds)
hexadecimal_read ds r is parses =
    let sized = and_parts (nat_le 1 (length ds)) (nat_le (length ds) 16) (and_parts (nat_le 1 (length ds) && nat_le (length ds) 16) (list_all is_ascii_hexdigit ds) is).0 in
    let alone = (and_parts (nat_le 1 (length ds) && nat_le (length ds) 16) (list_all is_ascii_hexdigit ds) is).1 in
    let short : length ds ≤ 16 = leb-true _ _ sized.1 in
    let power : 16 ^ length ds ≤ 16 ^ 16 = pow-le-pow_right {n = 16} (omega arith) {i = length ds} {j = 16} short in
    let fits : digits_value 16 ds < 2 ^ 64 = omega (arith, digits_value-lt 16 ds (all_below ds alone)) in
    let reads : OkIff r (IsNumeral 16 ds × (digits_value 16 ds < 2 ^ 64)) (digits_value 16 ds) =
    subst (λ (l : List ℕ). OkIff r (IsNumeral 16 l × (digits_value 16 l < 2 ^ 64)) (digits_value 16 l)) (plain ds alone) parses in
    Ok-from_Ok_iff r _ _ reads ((leb-true _ _ sized.0, all_below ds alone), fits)
