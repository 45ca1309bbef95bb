use Rattle.std.proofs.Common.{◌≡◌}
use Rattle.sv_types.specs.Kernel.{loaded_among}
use Rattle.elf64_load.proofs.headers.loaded_headers.Given as goal

abbrev pub invariant-headers : goal.invariant-headers
invariant-headers l = l.headers.items ≡ loaded_among l.file l.i
