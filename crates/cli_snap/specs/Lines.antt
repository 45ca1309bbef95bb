-- Lines of numbers by their names, and of registers, one element after another. This project's own.
use Rattle.std.specs.Prelude.{ℕ, ◌+◌, Bool, ◌||◌, List, [], ◌∷◌, ◌++◌, Option, get_or, if◌then◌else◌, codes}
use Rattle.std.specs.Str.{bytes_eq}
use Rattle.sv_types.specs.Output.{line_end, address_text}
use Rattle.elf64_load.specs.Names.{KernelNames}
use Rattle.cli_snap.specs.CodeNames.{name_after}

-- what is said of each element, by its place
unfoldable pub lines_of : {A : Type 0} → (ℕ → A → List ℕ) → ℕ → List A → List ℕ
lines_of line place [] = []
lines_of line place (x ∷ xs) = line place x ++ lines_of line (place + 1) xs

unfoldable pub named_line : List ℕ → ℕ → List ℕ
named_line name value = name ++ (codes " " ++ (address_text value ++ line_end))

-- ---- registers

-- registers that hold an address of code: where a call returns to, where traps go, and where one came from
abbrev pub holds_code : (register : List ℕ) → Bool
holds_code register = bytes_eq register (codes "ra") || (bytes_eq register (codes "stvec") || bytes_eq register (codes "sepc"))

-- the name of what it holds, where that is an address of code
unfoldable pub code_name : Option KernelNames → (register : List ℕ) → ℕ → List ℕ
code_name names register value = if holds_code register then name_after names value else []

unfoldable pub register_head : (register : List ℕ) → ℕ → List ℕ
register_head register value = register ++ (codes " " ++ address_text value)

unfoldable pub register_line : Option KernelNames → (register : List ℕ) → ℕ → List ℕ
register_line names register value = (register_head register value ++ code_name names register value) ++ line_end

-- values by the registers at their places
abbrev pub register_lines : Option KernelNames → (registers : List (List ℕ)) → List ℕ → List ℕ
register_lines names registers values = lines_of (λ place value. register_line names (get_or registers place []) value) 0 values
