-- What callers see of the tables of a file.
use Rattle.elf64_load.specs.Sections.{Tables}
use Rattle.elf64_load.specs.declared.sections.tables.SymbolTables.{SymbolTables}

abbrev pub tables_view : SymbolTables → Tables
tables_view t = record { symbols = t.symbols.now; strings = t.strings.now }
