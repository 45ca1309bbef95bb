-- Each write leaves only bits that may stand.
use Rattle.csr_file.proofs.csrs.Csrs.set.Goals as goal
use Rattle.laws_processor.proofs.RegisterBits.{write_is_legal}
use Rattle.spec_processor.specs.HypervisorRegisters.{write_virtual}
use Rattle.spec_processor.specs.declared.csr.Csr.TheVariants as Csr
use Rattle.csr_file.specs.View.{registers_of}

pub invariant_of-self : goal.invariant_of-self
unfolding write_virtual
invariant_of-self c = write_is_legal c.args.hideleg (registers_of c.self.inside) Csr.Sstatus c.args.value c.self.invariant

pub invariant_of-self-in-Sie : goal.invariant_of-self-in-Sie
unfolding write_virtual
invariant_of-self-in-Sie c = rw c.with_alias-self-inside.ensures (write_is_legal c.args.hideleg (registers_of c.self.inside) Csr.Sie c.args.value c.self.invariant)

pub invariant_of-self-in-Stvec : goal.invariant_of-self-in-Stvec
unfolding write_virtual
invariant_of-self-in-Stvec c = write_is_legal c.args.hideleg (registers_of c.self.inside) Csr.Stvec c.args.value c.self.invariant

pub invariant_of-self-in-Scounteren : goal.invariant_of-self-in-Scounteren
unfolding write_virtual
invariant_of-self-in-Scounteren c = write_is_legal c.args.hideleg (registers_of c.self.inside) Csr.Scounteren c.args.value c.self.invariant

pub invariant_of-self-in-Sepc : goal.invariant_of-self-in-Sepc
unfolding write_virtual
invariant_of-self-in-Sepc c = write_is_legal c.args.hideleg (registers_of c.self.inside) Csr.Sepc c.args.value c.self.invariant

pub invariant_of-self-in-Sip : goal.invariant_of-self-in-Sip
unfolding write_virtual
invariant_of-self-in-Sip c = rw c.with_alias-self-inside-in-Sip.ensures (write_is_legal c.args.hideleg (registers_of c.self.inside) Csr.Sip c.args.value c.self.invariant)

pub invariant_of-self-in-Satp : goal.invariant_of-self-in-Satp
unfolding write_virtual
invariant_of-self-in-Satp c = rw c.with_satp-self-inside.ensures (write_is_legal c.args.hideleg (registers_of c.self.inside) Csr.Satp c.args.value c.self.invariant)
