use Rattle.std.proofs.Common.{◌≡◌, ◌++◌, drop}
use Rattle.elf64_reloc.specs.Layouts.{placed_from, placed_sections, ends_from, no_ends}
use Rattle.elf64_reloc.proofs.layout.lay_out.Given as goal

abbrev pub invariant-sections : goal.invariant-sections
invariant-sections l = record {
  placed : l.placed.items ++ placed_from l.ends (drop l.section-index l.sections) ≡ placed_sections l.sections;
  ends : ends_from l.ends (drop l.section-index l.sections) ≡ ends_from no_ends l.sections;
}
