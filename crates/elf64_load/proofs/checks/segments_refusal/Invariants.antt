use Rattle.std.proofs.Common.{◌≡◌, flat_map, drop}
use Rattle.sv_types.specs.Kernel.{first_refusal, segment_checks}
use Rattle.elf64_load.proofs.checks.segments_refusal.Given as goal

-- what is left to judge decides
abbrev pub invariant-headers : goal.invariant-headers
invariant-headers l =
    first_refusal (flat_map (segment_checks l.file_size l.ram_pages) (drop l.header-index l.headers))
    ≡ first_refusal (flat_map (segment_checks l.file_size l.ram_pages) l.headers)
