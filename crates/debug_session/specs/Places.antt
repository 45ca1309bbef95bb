-- Addresses that a kernel's symbols name. This project's own.
use Rattle.std.specs.Prelude.{ℕ, List, [], ◌∷◌, ◌++◌, Option, Some, None, codes}
use Rattle.sv_types.specs.Kernel.{kernel_segments}
use Rattle.sv_types.specs.Output.{line_end}
use Rattle.elf64_load.specs.Names.{KernelNames, name_of_gpa, name_of_pc, names_in}
use Rattle.elf64_load.specs.Printed.{location_text}
use Rattle.elf64_load.specs.Symbols.{Location}
use Rattle.debug_session.specs.declared.places.Place.{Place}
use Rattle.debug_session.specs.declared.places.Place.TheVariants.{By, At, To}

-- who did something and where it went are addresses of code; what it was done to is a physical address
abbrev pub location_of : KernelNames → Place → Option Location
location_of names (By pc) = name_of_pc names pc
location_of names (At gpa) = name_of_gpa names gpa
location_of names (To target) = name_of_pc names target

abbrev pub located : Option Location → List ℕ
located None = []
located (Some location) = location_text location

-- the name of a place by the symbols of a kernel's file, nothing where it has none
unfoldable pub place_name : (file : List ℕ) → Place → List ℕ
place_name file place = located (location_of (names_in file (kernel_segments file)) place)

abbrev pub word_of : Place → List ℕ
word_of (By pc) = codes "by "
word_of (At gpa) = codes "at "
word_of (To target) = codes "to "

-- a line with a name, where there is one
abbrev pub named_line : (word name : List ℕ) → List ℕ
named_line word [] = []
named_line word (letter ∷ name) = word ++ ((letter ∷ name) ++ line_end)

abbrev pub place_line : (file : List ℕ) → Place → List ℕ
place_line file place = named_line (word_of place) (place_name file place)
