-- A hart of hardware with the hypervisor extension, and how a trap is taken: by the guest's kernel or as an exit.
-- RISC-V Privileged manual, H extension: "Hypervisor and Virtual Supervisor CSRs", "Hypervisor Trap Delegation
-- (hedeleg and hideleg) Registers", "Trap Entry".
use Rattle.std.specs.Prelude.{ℕ, List, if◌then◌else◌, Bool, true, false, Option, None}
use Rattle.spec_processor.specs.Bits.{bit}
use Rattle.spec_processor.specs.Causes.{cause_number}
use Rattle.spec_processor.specs.Regions.{Region}
use Rattle.spec_processor.specs.Traps.{trap_target, interrupt_number}
use Rattle.spec_processor.specs.HypervisorRegisters.{HypervisorRegisters, virtual_number, registers_at_trap, registers_at_exit}
use Rattle.spec_processor.specs.declared.cause.Cause.{Cause}
use Rattle.spec_processor.specs.declared.exit.Exit.{Exit}
use Rattle.spec_processor.specs.declared.exit.ExitCause.{ExitCause}
use Rattle.spec_processor.specs.declared.outcome.Outcome.{Outcome}
use Rattle.spec_processor.specs.declared.outcome.Exception.{Exception}
use Rattle.spec_processor.specs.declared.hregs.HRegs.{HRegs}
use Rattle.spec_processor.specs.declared.interrupt.Interrupt.{Interrupt}
use Rattle.spec_processor.specs.declared.mode.Mode.TheVariants.{Kernel}

-- ---- the state

-- a hart; a reservation is the host place of its 8 aligned bytes
pub record Core : Type 0 where
  pub registers : List ℕ
  pub pc : ℕ
  pub csrs : HypervisorRegisters
  pub hregs : HRegs
  pub reservation : Option ℕ

-- a hart after an attempt, and what came of it
pub record Step : Type 0 where
  pub core : Core
  pub outcome : Outcome

-- the same with the region's bytes
pub record Attempted : Type 0 where
  pub region : Region
  pub core : Core
  pub outcome : Outcome

-- a step that left these bytes
abbrev pub with_region : Region → Step → Attempted
with_region r s = record { region = r; core = s.core; outcome = s.outcome }

-- ---- the two ways of a trap

-- the guest's kernel is entered, and the hart's reservation goes
unfoldable pub guest_trap : Core → (interrupt : Bool) → (cause tval : ℕ) → Step
guest_trap core interrupt cause tval = record {
  core = record core {
    pc = trap_target core.csrs.vstvec interrupt cause;
    csrs = registers_at_trap core.csrs core.hregs.mode core.pc interrupt cause tval;
    hregs = record core.hregs { mode = Kernel };
    reservation = None;
  };
  outcome = Outcome.GuestTrap;
}

-- the exit registers change, and nothing else of the hart
unfoldable pub leave : Core → Exit → Step
leave core exit = record { core = record core { csrs = registers_at_exit core.csrs exit }; outcome = Outcome.Exit exit }

-- ---- exceptions, by hedeleg

-- an exception that is no guest-page fault
abbrev pub plain_exception : Cause → ℕ → Exception
plain_exception cause tval = record { cause = cause; tval = tval; htval = 0; htinst = 0 }

abbrev pub exit_of : Exception → ℕ → Exit
exit_of e pc = record { cause = ExitCause.Exception e.cause; pc = pc; stval = e.tval; htval = e.htval; htinst = e.htinst }

unfoldable pub raise : Core → Exception → Step
raise core e =
    if bit core.hregs.hedeleg (cause_number e.cause) then guest_trap core false (cause_number e.cause) e.tval
    else leave core (exit_of e core.pc)

-- ---- interrupts, by hideleg

abbrev pub interrupt_exit : Interrupt → ℕ → Exit
interrupt_exit interrupt pc = record { cause = ExitCause.Interrupt interrupt; pc = pc; stval = 0; htval = 0; htinst = 0 }

-- the guest's interrupt stands one place higher in hideleg
unfoldable pub after_interrupt : Core → Interrupt → Step
after_interrupt core interrupt =
    if bit core.hregs.hideleg (virtual_number interrupt) then guest_trap core true (interrupt_number interrupt) 0
    else leave core (interrupt_exit interrupt core.pc)
