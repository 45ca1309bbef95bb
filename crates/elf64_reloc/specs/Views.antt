-- What callers see of an object, and of what its symbols are looked up in.
use Rattle.elf64_load.specs.Views.{tables_view}
use Rattle.elf64_load.specs.NameTables.{number_by_name}
use Rattle.elf64_reloc.specs.Objects as objects
use Rattle.elf64_reloc.specs.Symbols as symbols
use Rattle.elf64_reloc.specs.declared.object.Object.{Object}
use Rattle.elf64_reloc.specs.declared.symbols.Names.{Names}

abbrev pub object_view : Object → objects.Object
object_view o = record { file = o.file.now; sections = o.sections.items; tables = tables_view o.tables }

abbrev pub names_view : Names → symbols.Names
names_view n = record { tables = tables_view n.tables; placed = n.placed.now; base_of = number_by_name n.bases.now }
