use Rattle.std.proofs.Common.{◌≡◌, map, drop}
use Rattle.elf64_load.specs.Images.{segment_of}
use Rattle.elf64_load.specs.Names as spec
use Rattle.elf64_load.proofs.symbols.kernel.va_of.Given as goal

abbrev pub invariant-segments : goal.invariant-segments
invariant-segments l = spec.va_of (map segment_of (drop l.segment-index l.segments)) l.gpa ≡ spec.va_of (map segment_of l.segments) l.gpa
