-- Each clause is a lemma of the definitions.
use Rattle.laws_processor.proofs.GuestViews.{guest_accesses, reached_reads, reached_writes, guest_traps, guest_returns, guest_pending}
use Rattle.laws_processor.proofs.registers.law_guest_view.Goals as goal

pub returns : goal.returns
returns c = record {
  accesses = guest_accesses;
  reads = reached_reads;
  writes = reached_writes;
  traps = guest_traps;
  returns = guest_returns;
  interrupts = guest_pending;
}
