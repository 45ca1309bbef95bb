-- The registers keep only bits that may stand: the status by its lemma, the pc since it is a multiple of 4.
use Rattle.std.proofs.Common.{arith}
use Rattle.laws_processor.proofs.RegisterBits.{trap_is_legal}
use Rattle.spec_processor.specs.HypervisorRegisters.{registers_at_trap}
use Rattle.csr_file.specs.View.{registers_of}
use Rattle.csr_file.proofs.entry.into_guest.Goals as goal

pub invariant_of-csrs : goal.invariant_of-csrs
unfolding registers_at_trap
invariant_of-csrs c = rw (c.status_at_trap-csrs-inside.ensures, c.shown_cause-csrs-inside.ensures)
    (trap_is_legal (registers_of c.csrs.inside) c.args.from c.args.pc c.is_interrupt.result c.guest_number.result c.args.tval c.csrs.invariant c.requires (omega arith))
