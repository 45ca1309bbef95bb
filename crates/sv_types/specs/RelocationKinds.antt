-- The kinds of a module's relocations, and their numbers. RISC-V ELF psABI, "Relocations".
use Rattle.std.specs.Prelude.{ℕ, List, [], ◌∷◌, ◌==◌, find, Option}
use Rattle.sv_types.specs.declared.relocation_kind.RelocationKind.{RelocationKind}
use Rattle.sv_types.specs.declared.relocation_kind.RelocationKind.TheVariants.{Word64, Branch, Jal, PcrelHi20, PcrelLo12I, PcrelLo12S, Hi20, Lo12I, Lo12S}

abbrev pub kind_number : RelocationKind → ℕ
kind_number Word64 = 2
kind_number Branch = 16
kind_number Jal = 17
kind_number PcrelHi20 = 23
kind_number PcrelLo12I = 24
kind_number PcrelLo12S = 25
kind_number Hi20 = 26
kind_number Lo12I = 27
kind_number Lo12S = 28

abbrev pub all_kinds : List RelocationKind
all_kinds = Word64 ∷ Branch ∷ Jal ∷ PcrelHi20 ∷ PcrelLo12I ∷ PcrelLo12S ∷ Hi20 ∷ Lo12I ∷ Lo12S ∷ []

-- the kind of a number
abbrev pub kind_of : ℕ → Option RelocationKind
kind_of number = find (λ kind. kind_number kind == number) all_kinds
