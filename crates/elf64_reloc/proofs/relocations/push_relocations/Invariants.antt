use Rattle.std.proofs.Common.{◌≡◌, ◌-◌, ◌/◌, ◌++◌, length}
use Rattle.elf64_reloc.specs.Relocations.{relocations_from}
use Rattle.elf64_reloc.proofs.relocations.push_relocations.Given as goal

abbrev pub invariant-relocations : goal.invariant-relocations
invariant-relocations l =
    l.relocations.items ++ relocations_from l.home l.bytes l.i (length l.bytes / 24 - l.i) ≡ l.initial.relocations.items ++ relocations_from l.home l.bytes 0 (length l.bytes / 24)
