use Rattle.hw_tlb.proofs.WritesAndWalks.{write_after}
use Rattle.hw_tlb.proofs.gstage_cache.laws.law_write_keeps_tables.Goals as goal

pub returns : goal.returns
returns c = write_after
