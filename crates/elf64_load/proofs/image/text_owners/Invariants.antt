use Rattle.std.proofs.Common.{◌≡◌, ◌+◌, ◌<◌, ℕ, length, map, drop, get_or}
use Rattle.elf64_load.specs.Images.{segment_of, text_owner}
use Rattle.elf64_load.proofs.image.text_owners.Given as goal
use Rattle.spec_processor.specs.Regions.{max_ram_pages}

-- the segments from i on have their pages
abbrev pub invariant-segments : goal.invariant-segments
invariant-segments l =
    (length l.owners.items ≡ max_ram_pages)
    × ((page : ℕ) → page < max_ram_pages → get_or l.owners.items page 0 ≡ l.i + text_owner page (map segment_of (drop l.i l.segments)))
