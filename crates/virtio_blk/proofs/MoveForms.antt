-- What the proofs of a request's moves look into.
use Rattle.dma_guard.specs.Transfers.{write_answer, after_write}
use Rattle.spec_reference.specs.VirtioBeats.{to_memory, put_last}

unfoldable pub data_written : Unit {0}
unfolding to_memory write_answer after_write
data_written = tt

unfoldable pub last_written : Unit {0}
unfolding put_last write_answer after_write
last_written = tt
