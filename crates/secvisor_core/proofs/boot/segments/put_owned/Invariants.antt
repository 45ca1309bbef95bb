use Rattle.std.proofs.Common.{◌≡◌, ◌<◌, ◌/◌, ℕ, length, map, get_or}
use Rattle.std.specs.Prelude.{nat_lt, if◌then◌else◌}
use Rattle.spec_processor.specs.Bytes.{page_size}
use Rattle.elf64_load.specs.Images.{segment_of}
use Rattle.secvisor_core.specs.Placed.{KeepsShape}
use Rattle.secvisor_core.specs.Whole.{loaded_byte}
use Rattle.secvisor_core.proofs.boot.segments.put_owned.Given as goal

-- the pages so far are there
abbrev pub invariant-pages : goal.invariant-pages
invariant-pages l =
    KeepsShape l.fn.mem l.mem
    × ((at : ℕ) → at < length l.fn.mem.ram
    → get_or l.mem.ram at 0 ≡ (if nat_lt (at / page_size) l.page then loaded_byte (length l.fn.mem.ram) (map segment_of l.segments) (get_or l.owners (at / page_size) 0) at else 0))
