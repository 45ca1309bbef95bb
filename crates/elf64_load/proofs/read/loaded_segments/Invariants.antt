use Rattle.std.proofs.Common.{◌≡◌, map, take}
use Rattle.sv_types.specs.Kernel.{loaded_segment}
use Rattle.elf64_load.specs.Images.{segment_of}
use Rattle.elf64_load.proofs.read.loaded_segments.Given as goal

abbrev pub invariant-headers : goal.invariant-headers
invariant-headers l = map segment_of l.segments.items ≡ map (loaded_segment l.file) (take l.header-index l.headers)
