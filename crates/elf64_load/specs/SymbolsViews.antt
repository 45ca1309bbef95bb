-- What callers see of names.
use Rattle.elf64_load.specs.Symbols as symbols
use Rattle.elf64_load.specs.declared.symbols.symbols.CodeSymbol.{CodeSymbol}
use Rattle.elf64_load.specs.declared.symbols.symbols.Location.{Location}

abbrev pub code_symbol_view : CodeSymbol → symbols.CodeSymbol
code_symbol_view s = record { address = s.address; size = s.size; is_function = s.is_function; name = s.name.now }

abbrev pub location_view : Location → symbols.Location
location_view l = record { name = l.name.now; offset = l.offset }
