-- The names of addresses of code, where a kernel is given: the function or label by the symbols of its file. This project's own.
use Rattle.std.specs.Prelude.{ℕ, List, [], ◌++◌, Option, Some, None, codes}
use Rattle.elf64_load.specs.Names.{KernelNames, name_of_pc}
use Rattle.elf64_load.specs.Printed.{location_text}
use Rattle.elf64_load.specs.Symbols.{Location}

-- nothing stands after an address without a name
abbrev pub located : Option Location → List ℕ
located None = []
located (Some location) = codes " " ++ location_text location

-- nor after any where no kernel is given
unfoldable pub name_after : Option KernelNames → (address : ℕ) → List ℕ
name_after None address = []
name_after (Some names) address = located (name_of_pc names address)
