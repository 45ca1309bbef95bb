use Rattle.std.proofs.Common.{◌≡◌, [], drop}
use Rattle.elf64_load.specs.Views.{tables_view}
use Rattle.elf64_reloc.specs.Modules as spec
use Rattle.elf64_reloc.specs.NameKeys.{names_of, AreNamed}
use Rattle.elf64_reloc.proofs.names.each_joined.Given as goal

abbrev pub invariant-relocations : goal.invariant-relocations
invariant-relocations l = record {
  named : AreNamed l.names;
  rest : spec.each_joined (tables_view l.tables) (names_of l.names) (drop l.relocation-index l.relocations) ≡ spec.each_joined (tables_view l.tables) [] l.relocations;
}
