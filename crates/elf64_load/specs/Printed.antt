-- How the name of an address is printed: `NAME+0x18`. This project's own.
use Rattle.std.specs.Prelude.{ℕ, ◌/◌, ◌%◌, Bool, false, not, ◌&&◌, List, [], ◌∷◌, ◌++◌, flat_map, ◌==◌, if◌then◌else◌, nat_lt, codes}
use Rattle.std.specs.Char.{digit_char}
use Rattle.std.specs.Fmt.{digits}
use Rattle.elf64_load.specs.Symbols.{Location}

-- a character of ASCII that is seen, other than the backslash
abbrev pub is_plain : ℕ → Bool
is_plain byte = nat_lt 32 byte && nat_lt byte 127 && not (byte == 92)

-- every other byte as \x and its two hexadecimal digits
abbrev pub escaped : ℕ → List ℕ
escaped byte = if is_plain byte then byte ∷ [] else 92 ∷ 120 ∷ digit_char (byte / 16) ∷ digit_char (byte % 16) ∷ []

unfoldable pub location_text : Location → List ℕ
location_text l = flat_map escaped l.name ++ (codes "+0x" ++ digits 16 false l.offset)
