-- Addresses as text. This project's own; digits are those of ISO/IEC 646 (ASCII).
use Rattle.std.specs.Prelude.{ℕ, Bool, ◌&&◌, List, length, take, drop, codes, if◌then◌else◌, nat_le, Option, Some, None}
use Rattle.std.specs.List.{list_all}
use Rattle.std.specs.Str.{bytes_eq}
use Rattle.std.specs.Str.Parse.{digits_value}
use Rattle.std.specs.Char.{is_ascii_hexdigit}

abbrev pub address_digits : ℕ
address_digits = 16

-- 1 to 16 hexadecimal digits of either case
abbrev pub is_hexadecimal : List ℕ → Bool
is_hexadecimal digits = nat_le 1 (length digits) && nat_le (length digits) address_digits && list_all is_ascii_hexdigit digits

-- the number that such digits write
abbrev pub hexadecimal_number : List ℕ → Option ℕ
hexadecimal_number digits = if is_hexadecimal digits then Some (digits_value 16 digits) else None

-- the digits of an address stand after `0x`
unfoldable pub address_of : List ℕ → Option ℕ
address_of text = if bytes_eq (take 2 text) (codes "0x") then hexadecimal_number (drop 2 text) else None
