-- What holds of the headers of loaded segments.
use Rattle.std.specs.Prelude.{◌<◌}
use Rattle.sv_types.specs.declared.kernel.ProgramHeader.{ProgramHeader}

abbrev pub HasMemory : ProgramHeader → Type 0
HasMemory h = 0 < h.memory_size
