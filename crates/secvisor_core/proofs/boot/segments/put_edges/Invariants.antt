use Rattle.std.proofs.Common.{◌≡◌, ◌<◌, ◌/◌, ℕ, length, map, get_or}
use Rattle.std.specs.Prelude.{max}
use Rattle.spec_processor.specs.Bytes.{page_size}
use Rattle.elf64_load.specs.Images.{segment_of}
use Rattle.secvisor_core.specs.Placed.{KeepsShape}
use Rattle.secvisor_core.specs.Whole.{loaded_byte}
use Rattle.secvisor_core.proofs.boot.segments.put_edges.Given as goal

-- the segments so far are there, and those up to each page's owner
abbrev pub invariant-segments : goal.invariant-segments
invariant-segments l =
    KeepsShape l.fn.mem l.mem
    × ((at : ℕ) → at < length l.fn.mem.ram
    → get_or l.mem.ram at 0 ≡ loaded_byte (length l.fn.mem.ram) (map segment_of l.segments) (max l.i (get_or l.owners (at / page_size) 0)) at)
