use Rattle.std.proofs.Common.{◌≡◌}
use Rattle.hw_tlb.specs.Usable.{first_emptied}
use Rattle.hw_tlb.proofs.caches.empty_all.Given as goal

abbrev pub invariant-loop-own : goal.invariant-loop-own
invariant-loop-own l = l.caches ≡ first_emptied l.own-index l.initial.caches
