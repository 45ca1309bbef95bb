use Rattle.std.proofs.Common.{◌≡◌, ◌++◌, drop}
use Rattle.elf64_reloc.specs.Relocations.{all_relocations}
use Rattle.elf64_reloc.proofs.relocations.all_relocations.Given as goal

abbrev pub invariant-sections : goal.invariant-sections
invariant-sections l = l.relocations.items ++ all_relocations l.file l.placed (drop l.section-index l.sections) ≡ all_relocations l.file l.placed l.sections
