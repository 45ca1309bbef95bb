-- The hardware's registers that show a guest its supervisor registers.
-- RISC-V Privileged manual, H extension: "Hypervisor and Virtual Supervisor CSRs" and "Hypervisor Interrupt (hvip, hip,
-- and hie) Registers": with V = 1 the VS registers stand in place of the supervisor's, and the guest's interrupts one
-- place higher.
use Rattle.std.specs.Prelude.{ℕ, ◌*◌}
use Rattle.spec_processor.specs.Bits.{flag}
use Rattle.spec_processor.specs.Registers.{Supervisor}
use Rattle.spec_processor.specs.HypervisorRegisters.{HypervisorRegisters, at_hypervisor_places, virtual_interrupt_bits, virtual_software_bit}
use Rattle.spec_processor.specs.declared.mode.Mode.{Mode}
use Rattle.spec_processor.specs.declared.mode.Mode.TheVariants.{Kernel, User}

-- the guest's registers in the hardware's; what an exit writes stays
abbrev pub with_guest : HypervisorRegisters → Supervisor → HypervisorRegisters
with_guest c s = record c {
  vsstatus = s.sstatus;
  vstvec = s.stvec;
  vsscratch = s.sscratch;
  vsepc = s.sepc;
  vscause = s.scause;
  vstval = s.stval;
  vsatp = s.satp;
  scounteren = s.scounteren;
  hie = at_hypervisor_places s.sie;
  hvip = virtual_software_bit * flag s.software;
}

-- kernel mode takes its interrupts itself; those of user mode leave for the hypervisor
abbrev pub hideleg_in : Mode → ℕ
hideleg_in Kernel = virtual_interrupt_bits
hideleg_in User = 0
