-- Traps, their return, and which interrupt is taken, over the guest's registers.
-- RISC-V Privileged manual, "Supervisor Trap Vector Base Address Register", "Supervisor Cause Register", "Supervisor
-- Interrupt (sip and sie) Registers", "Privilege and Global Interrupt-Enable Stack in mstatus Register", "Trap-Return
-- Instructions".
use Rattle.std.specs.Prelude.{ℕ, ◌+◌, ◌*◌, ◌%◌, ◌^◌, Bool, true, false, ◌&&◌, if◌then◌else◌, bit_or, Option, Some, None}
use Rattle.spec_processor.specs.Bits.{bit, with_bits}
use Rattle.spec_processor.specs.Bytes.{instruction_size}
use Rattle.spec_processor.specs.Causes.{cause_number}
use Rattle.spec_processor.specs.Registers.{Supervisor, sie_bit, spie_bit, spp_bit, software_number, timer_number, external_number, legal_epc, sip_value}
use Rattle.spec_processor.specs.declared.exit.ExitCause.{ExitCause}
use Rattle.spec_processor.specs.declared.mode.Mode.{Mode}
use Rattle.spec_processor.specs.declared.mode.Mode.TheVariants.{Kernel, User}
use Rattle.spec_processor.specs.declared.lines.Lines.{Lines}
use Rattle.spec_processor.specs.declared.interrupt.Interrupt.{Interrupt}
use Rattle.spec_processor.specs.declared.interrupt.Interrupt.TheVariants.{External, Software, Timer}

abbrev pub is_kernel : Mode → Bool
is_kernel Kernel = true
is_kernel User = false

-- ---- the cause of a trap

abbrev pub interrupt_number : Interrupt → ℕ
interrupt_number External = external_number
interrupt_number Software = software_number
interrupt_number Timer = timer_number

abbrev pub is_interrupt : ExitCause → Bool
is_interrupt (ExitCause.Exception cause) = false
is_interrupt (ExitCause.Interrupt interrupt) = true

-- its number as the guest has it, without scause's bit 63
abbrev pub guest_number : ExitCause → ℕ
guest_number (ExitCause.Exception cause) = cause_number cause
guest_number (ExitCause.Interrupt interrupt) = interrupt_number interrupt

-- ---- a trap

-- stvec's base, or an interrupt's own instruction after it where bit 0 is set
unfoldable pub trap_target : ℕ → Bool → ℕ → ℕ
trap_target stvec interrupt cause =
    if interrupt && bit stvec 0 then (legal_epc stvec + instruction_size * cause) % 2 ^ 64 else legal_epc stvec

-- bit 63 is set for an interrupt
unfoldable pub trap_cause : Bool → ℕ → ℕ
trap_cause interrupt cause = if interrupt then bit_or cause (2 ^ 63) else cause

-- SPIE := SIE, SIE := 0, SPP := the mode before
unfoldable pub status_at_trap : ℕ → Mode → ℕ
status_at_trap status from =
    with_bits (with_bits (with_bits status (2 ^ spie_bit) (bit status sie_bit)) (2 ^ sie_bit) false) (2 ^ spp_bit) (is_kernel from)

unfoldable pub supervisor_at_trap : Supervisor → Mode → ℕ → Bool → ℕ → ℕ → Supervisor
supervisor_at_trap s from pc interrupt cause tval = record s {
  sstatus = status_at_trap s.sstatus from;
  sepc = pc;
  scause = trap_cause interrupt cause;
  stval = tval;
}

-- ---- its return

-- SIE := SPIE, SPIE := 1, SPP := user
unfoldable pub status_at_return : ℕ → ℕ
status_at_return status =
    with_bits (with_bits (with_bits status (2 ^ sie_bit) (bit status spie_bit)) (2 ^ spie_bit) true) (2 ^ spp_bit) false

-- SPP
unfoldable pub mode_at_return : ℕ → Mode
mode_at_return status = if bit status spp_bit then Kernel else User

unfoldable pub supervisor_at_return : Supervisor → Supervisor
supervisor_at_return s = record s { sstatus = status_at_return s.sstatus }

-- ---- interrupts

-- the first of the interrupts that a test lets through
abbrev pub first_interrupt : (Interrupt → Bool) → Option Interrupt
first_interrupt test =
    if test External then Some External
    else if test Software then Some Software
    else if test Timer then Some Timer
    else None

-- the interrupt's bits in sip and in sie are set
abbrev pub is_pending : Supervisor → Lines → Interrupt → Bool
is_pending s lines interrupt = bit (sip_value s lines) (interrupt_number interrupt) && bit s.sie (interrupt_number interrupt)

-- kernel mode takes interrupts where SIE is set, user mode always
abbrev pub takes_interrupts : Mode → ℕ → Bool
takes_interrupts Kernel status = bit status sie_bit
takes_interrupts User status = true

unfoldable pub deliverable : Mode → Supervisor → Lines → Option Interrupt
deliverable mode s lines = if takes_interrupts mode s.sstatus then first_interrupt (is_pending s lines) else None
