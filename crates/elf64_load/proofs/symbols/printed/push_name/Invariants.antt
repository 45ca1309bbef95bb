use Rattle.std.proofs.Common.{◌≡◌, ◌++◌, flat_map, take}
use Rattle.elf64_load.specs.Printed.{escaped}
use Rattle.elf64_load.proofs.symbols.printed.push_name.Given as goal

abbrev pub invariant-name : goal.invariant-name
invariant-name l = l.text.items ≡ l.initial.text.items ++ flat_map escaped (take l.byte-index l.name)
