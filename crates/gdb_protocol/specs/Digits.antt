-- Bytes and numbers by hexadecimal digits. GDB manual, "gdb Remote Serial Protocol", "Overview"; digits are those of ISO/IEC 646
-- (ASCII).
use Rattle.std.specs.Prelude.{ℕ, ◌+◌, ◌-◌, ◌*◌, ◌/◌, ◌%◌, ◌^◌, ◌&&◌, nat_lt, nat_le, if◌then◌else◌, List, [], ◌∷◌, Option, Some, None, option_and_then}

-- ---- as they are written

-- the lower case digit of a number below 16: `0` is 48, and `a` is 97
abbrev pub digit : ℕ → ℕ
digit n = if nat_lt n 10 then n + 48 else n + 87

-- two digits a byte, the high four bits first
unfoldable pub byte_digits : List ℕ → List ℕ
byte_digits [] = []
byte_digits (byte ∷ bytes) = digit (byte / 16) ∷ digit (byte % 16) ∷ byte_digits bytes

-- ---- as they are read

-- what a digit of either case stands for: `A` is 65
abbrev pub digit_value : ℕ → Option ℕ
digit_value c =
    if nat_le 48 c && nat_le c 57 then Some (c - 48)
    else if nat_le 97 c && nat_le c 102 then Some (c - 87)
    else if nat_le 65 c && nat_le c 70 then Some (c - 55)
    else None

-- a number with a digit more. None where the byte is no digit, or the number gets more than 64 bits
abbrev pub with_digit : ℕ → ℕ → Option ℕ
with_digit number c = if nat_lt number (2 ^ 60) then option_and_then (λ value. Some (16 * number + value)) (digit_value c) else None

-- the number that digits write after those of another one
unfoldable pub number_onto : ℕ → List ℕ → Option ℕ
number_onto before [] = Some before
number_onto before (c ∷ cs) = option_and_then (λ number. number_onto number cs) (with_digit before c)

-- of one digit at least
unfoldable pub number_of : List ℕ → Option ℕ
number_of [] = None
number_of (c ∷ cs) = number_onto 0 (c ∷ cs)

-- the byte of two digits
abbrev pub pair_value : ℕ → ℕ → Option ℕ
pair_value high low = option_and_then (λ h. option_and_then (λ l. Some (16 * h + l)) (digit_value low)) (digit_value high)
