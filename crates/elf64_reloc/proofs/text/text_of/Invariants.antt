use Rattle.std.proofs.Common.{◌≡◌, [], drop}
use Rattle.elf64_reloc.specs.Modules.{text_from}
use Rattle.elf64_reloc.proofs.text.text_of.Given as goal

abbrev pub invariant-sections : goal.invariant-sections
invariant-sections l = text_from l.object.file.now l.text.items (drop l.section-index l.object.sections.items) ≡ text_from l.object.file.now [] l.object.sections.items
