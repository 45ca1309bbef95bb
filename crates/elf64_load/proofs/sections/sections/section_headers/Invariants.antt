use Rattle.std.proofs.Common.{◌≡◌}
use Rattle.elf64_load.specs.Sections.{sections_among}
use Rattle.elf64_load.proofs.sections.sections.section_headers.Given as goal

abbrev pub invariant-sections : goal.invariant-sections
invariant-sections l = l.sections.items ≡ sections_among l.file l.i
