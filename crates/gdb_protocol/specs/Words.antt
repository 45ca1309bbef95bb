-- The parts of a packet's payload.
use Rattle.std.specs.Prelude.{ℕ, Bool, ◌||◌, ◌==◌, if◌then◌else◌, List, [], ◌∷◌, get_or, codes}

-- the first character of a text
abbrev pub letter : List ℕ → ℕ
letter text = get_or text 0 0

-- what stands before the first byte that passes a test: all where none does
unfoldable pub before : (ℕ → Bool) → List ℕ → List ℕ
before stops [] = []
before stops (c ∷ cs) = if stops c then [] else c ∷ before stops cs

-- what stands after it: nothing where none does
unfoldable pub after : (ℕ → Bool) → List ℕ → List ℕ
after stops [] = []
after stops (c ∷ cs) = if stops c then cs else after stops cs

abbrev pub is_colon : ℕ → Bool
is_colon c = c == letter (codes ":")

abbrev pub is_comma : ℕ → Bool
is_comma c = c == letter (codes ",")

abbrev pub is_semicolon : ℕ → Bool
is_semicolon c = c == letter (codes ";")

-- what ends the name of a packet of several letters
abbrev pub is_separator : ℕ → Bool
is_separator c = is_colon c || is_comma c || is_semicolon c
