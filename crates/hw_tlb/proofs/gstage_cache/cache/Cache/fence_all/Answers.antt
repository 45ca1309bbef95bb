use Rattle.hw_tlb.proofs.GstageCacheLines.{none_placed}
use Rattle.hw_tlb.proofs.gstage_cache.cache.Cache.fence_all.Goals as goal

pub invariant_of-self : goal.invariant_of-self
invariant_of-self c = rw c.empty-self-inside.ensures none_placed
