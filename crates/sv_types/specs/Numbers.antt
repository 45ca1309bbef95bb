-- Numbers and digests as text. This project's own; digits are those of ISO/IEC 646 (ASCII).
use Rattle.std.specs.Prelude.{ℕ, ◌+◌, ◌-◌, ◌*◌, Bool, ◌&&◌, List, [], ◌∷◌, length, if◌then◌else◌, nat_le, Option, Some, None}
use Rattle.std.specs.List.{list_all}
use Rattle.std.specs.Char.{is_ascii_digit}
use Rattle.std.specs.Result.{result_ok}
use Rattle.hex.specs.Hex.{decode_sized}
use Rattle.sv_types.specs.Measure.{digest_size}

-- the code of the digit 0; those of 1 to 9 follow
abbrev pub digit_zero : ℕ
digit_zero = 48

-- the number that decimal digits write, onto the digits before them
abbrev pub decimal_value : ℕ → List ℕ → ℕ
decimal_value before [] = before
decimal_value before (digit ∷ digits) = decimal_value (10 * before + (digit - digit_zero)) digits

abbrev pub max_digits : ℕ
max_digits = 20

-- decimal digits, one at least
abbrev pub is_number : List ℕ → Bool
is_number text = nat_le 1 (length text) && nat_le (length text) max_digits && list_all is_ascii_digit text

-- a number from low to high, none where the text is no number or another one
unfoldable pub number_within : ℕ → ℕ → List ℕ → Option ℕ
number_within low high text =
    if is_number text && nat_le low (decimal_value 0 text) && nat_le (decimal_value 0 text) high
    then Some (decimal_value 0 text) else None

-- the bytes of a digest, from two hexadecimal digits of either case each
unfoldable pub digest_of : List ℕ → Option (List ℕ)
digest_of text = result_ok (decode_sized text digest_size)
