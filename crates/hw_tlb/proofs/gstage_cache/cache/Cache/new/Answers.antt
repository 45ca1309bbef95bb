use Rattle.hw_tlb.proofs.GstageCacheLines.{none_placed}
use Rattle.hw_tlb.proofs.gstage_cache.cache.Cache.new.Goals as goal

pub invariant_of-result : goal.invariant_of-result
invariant_of-result c = none_placed
