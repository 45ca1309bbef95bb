use Rattle.std.proofs.Common.{◌≡◌, ◌<◌, ℕ, length, map, get_or}
use Rattle.elf64_load.specs.Images.{segment_of}
use Rattle.secvisor_core.specs.Whole.{SkipsOwned}
use Rattle.secvisor_core.proofs.LastWhole.{IsLastFrom}
use Rattle.secvisor_core.proofs.boot.owners.claim_all.Given as goal

-- the segments from here on have their pages
abbrev pub invariant-segments : goal.invariant-segments
invariant-segments l =
    (length l.owners ≡ length l.fn.owners)
    × ((length l.skips ≡ length l.fn.owners)
    × (SkipsOwned l.owners l.skips
    × ((page : ℕ) → page < length l.fn.owners → IsLastFrom (map segment_of l.segments) l.i (length l.segments) page (get_or l.owners page 0))))
