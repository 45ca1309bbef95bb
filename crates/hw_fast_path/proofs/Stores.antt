-- What the proofs of stores and atomic operations use.
use Rattle.hw_tlb.specs.Fills.{nothing_filled}
use Rattle.hw_tlb.proofs.WritesAndWalks.{write_after}
use Rattle.hw_fast_path.proofs.Kept.{apart_kept, write_size}

pub ruleset kept = (nothing_filled, write_after, apart_kept, write_size)
