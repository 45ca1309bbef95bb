-- The status keeps only bits that may stand.
use Rattle.laws_processor.proofs.RegisterBits.{return_is_legal}
use Rattle.spec_processor.specs.HypervisorRegisters.{registers_at_return}
use Rattle.csr_file.specs.View.{registers_of}
use Rattle.csr_file.proofs.entry.return_to_guest.Goals as goal

pub invariant_of-csrs : goal.invariant_of-csrs
unfolding registers_at_return
invariant_of-csrs c = rw c.status_at_return-csrs-inside.ensures (return_is_legal (registers_of c.csrs.inside) c.csrs.invariant)
