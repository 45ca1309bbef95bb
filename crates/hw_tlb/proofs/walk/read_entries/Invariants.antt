use Rattle.sv39_walk.specs.Levels.{IsTable}
use Rattle.hw_tlb.specs.CacheWalks.{Walked}
use Rattle.hw_tlb.specs.Kept.{Above, IsThere, IsPlace}
use Rattle.hw_tlb.proofs.Levels.{GoOn}
use Rattle.hw_tlb.proofs.walk.read_entries.Given as goal

-- the walk goes on from the table as it would from the root, and the entries above it were read
abbrev pub invariant-levels : goal.invariant-levels
invariant-levels l = record {
  table : IsTable l.table;
  same : GoOn l.mem.tables l.hgatp l.root l.va l.below l.table l.entries;
  there : Above l.below (IsThere l.mem) l.entries;
  places : Above l.below (IsPlace l.mem.tables l.hgatp) l.entries;
  walked : Walked l.mem.tables l.hgatp l.initial.cache l.cache;
}
