-- What callers see of a kernel's names.
use Rattle.std.specs.Prelude.{map, option_map}
use Rattle.elf64_load.specs.Views.{tables_view}
use Rattle.elf64_load.specs.Images.{segment_of}
use Rattle.elf64_load.specs.Names as names
use Rattle.elf64_load.specs.declared.symbols.kernel.KernelNames.{KernelNames}

abbrev pub names_view : KernelNames → names.KernelNames
names_view k = record { tables = option_map tables_view k.tables; segments = map segment_of k.segments.now }
