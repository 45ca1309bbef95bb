use Rattle.std.proofs.Common.{◌≡◌, replicate}
use Rattle.hw_tlb.specs.Usable.{nothing_kept}
use Rattle.machine.proofs.start.empty_caches.Given as goal

-- the caches so far
abbrev pub invariant-made : goal.invariant-made
invariant-made l = l.caches.items ≡ replicate l.counter nothing_kept
