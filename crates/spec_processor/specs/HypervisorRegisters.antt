-- The registers of a hart under a hypervisor, as the hardware keeps them with V = 1, and those that an exit writes.
-- RISC-V Privileged manual, H extension: "Hypervisor and Virtual Supervisor CSRs", "Hypervisor Interrupt (hvip, hip, and
-- hie) Registers", "Virtual Supervisor Interrupt (vsip and vsie) Registers", "Virtual-Instruction Exceptions", "Trap
-- Entry".
use Rattle.std.specs.Prelude.{◌≡◌, ℕ, ◌+◌, ◌*◌, ◌/◌, ◌^◌, ◌<◌, Bool, true, false, not, ◌&&◌, ◌||◌, List, [], ◌∷◌, ◌==◌, if◌then◌else◌}
use Rattle.std.specs.Prelude.{bit_and, bit_or, Option, Some, None, Result, Ok, Err}
use Rattle.std.specs.List.{list_any}
use Rattle.spec_processor.specs.Bits.{bit, flag, without}
use Rattle.spec_processor.specs.Causes.{cause_number}
use Rattle.spec_processor.specs.Registers.{csr_of_number, software_bit, timer_bit, external_bit, legal_status, uxl, legal_interrupts}
use Rattle.spec_processor.specs.Registers.{legal_tvec, time_place, legal_counteren, legal_epc, legal_satp}
use Rattle.spec_processor.specs.Traps.{trap_cause, status_at_trap, status_at_return, takes_interrupts, interrupt_number, is_interrupt, first_interrupt}
use Rattle.spec_processor.specs.declared.csr.Csr.{Csr}
use Rattle.spec_processor.specs.declared.csr.CsrFault.{CsrFault}
use Rattle.spec_processor.specs.declared.mode.Mode.{Mode}
use Rattle.spec_processor.specs.declared.mode.Mode.TheVariants.{Kernel, User}
use Rattle.spec_processor.specs.declared.hregs.HRegs.{HRegs}
use Rattle.spec_processor.specs.declared.lines.Lines.{Lines}
use Rattle.spec_processor.specs.declared.exit.Exit.{Exit}
use Rattle.spec_processor.specs.declared.exit.ExitCause.{ExitCause}
use Rattle.spec_processor.specs.declared.interrupt.Interrupt.{Interrupt}

-- the virtual supervisor registers, scounteren, the interrupts, and from sepc on what an exit writes
pub record HypervisorRegisters : Type 0 where
  pub vsstatus : ℕ
  pub vstvec : ℕ
  pub vsscratch : ℕ
  pub vsepc : ℕ
  pub vscause : ℕ
  pub vstval : ℕ
  pub vsatp : ℕ
  pub scounteren : ℕ
  pub hie : ℕ
  pub hvip : ℕ
  pub sepc : ℕ
  pub scause : ℕ
  pub stval : ℕ
  pub htval : ℕ
  pub htinst : ℕ

unfoldable pub registers_at_boot : HypervisorRegisters
registers_at_boot = record {
  vsstatus = 0;
  vstvec = 0;
  vsscratch = 0;
  vsepc = 0;
  vscause = 0;
  vstval = 0;
  vsatp = 0;
  scounteren = 0;
  hie = 0;
  hvip = 0;
  sepc = 0;
  scause = 0;
  stval = 0;
  htval = 0;
  htinst = 0;
}

-- ---- interrupts: those of the hypervisor are the guest's, one place higher

-- the place of a guest's interrupt in hip, hie and hideleg
abbrev pub virtual_number : Interrupt → ℕ
virtual_number interrupt = interrupt_number interrupt + 1

-- the guest's software interrupt is the only one that is stored; the others are lines
abbrev pub virtual_software_bit : ℕ
virtual_software_bit = 2 * software_bit

abbrev pub virtual_timer_bit : ℕ
virtual_timer_bit = 2 * timer_bit

abbrev pub virtual_external_bit : ℕ
virtual_external_bit = 2 * external_bit

abbrev pub virtual_interrupt_bits : ℕ
virtual_interrupt_bits = virtual_software_bit + virtual_timer_bit + virtual_external_bit

abbrev pub line_bits : Lines → ℕ
line_bits lines = virtual_timer_bit * flag lines.timer + virtual_external_bit * flag lines.external

-- hip is hvip ORed with the lines
unfoldable pub hip_value : ℕ → Lines → ℕ
hip_value hvip lines = bit_or hvip (line_bits lines)

-- those of some bits that hideleg delegates to the guest
abbrev pub delegated_bits : ℕ → ℕ → ℕ
delegated_bits hideleg bits = bit_and hideleg bits

-- interrupts 2, 6 and 10 at the guest's places 1, 5 and 9, and back
abbrev pub at_guest_places : ℕ → ℕ
at_guest_places bits = bits / 2

abbrev pub at_hypervisor_places : ℕ → ℕ
at_hypervisor_places bits = 2 * bits

-- the guest's sie and sip are the delegated bits of hie and hip, at the guest's places
unfoldable pub guest_alias : ℕ → ℕ → ℕ
guest_alias hideleg register = at_guest_places (bit_and register (delegated_bits hideleg virtual_interrupt_bits))

-- a write of sie or sip sets the delegated bits of hie or hvip as the value has them, and leaves the others
unfoldable pub with_alias : ℕ → ℕ → ℕ → ℕ → ℕ
with_alias hideleg register_bits register value =
    bit_or (without register (delegated_bits hideleg register_bits)) (bit_and (at_hypervisor_places (legal_interrupts value))
    (delegated_bits hideleg register_bits))

-- each register holds only bits that may stand
pub record IsLegal (c : HypervisorRegisters) : Type 0 where
  pub vsstatus : legal_status c.vsstatus ≡ c.vsstatus
  pub vstvec : legal_tvec c.vstvec ≡ c.vstvec
  pub vsepc : legal_epc c.vsepc ≡ c.vsepc
  pub vsatp : legal_satp 0 c.vsatp ≡ c.vsatp
  pub scounteren : legal_counteren c.scounteren ≡ c.scounteren
  pub hie : bit_and c.hie virtual_interrupt_bits ≡ c.hie
  pub hvip : bit_and c.hvip virtual_software_bit ≡ c.hvip
  pub sepc : legal_epc c.sepc ≡ c.sepc
  pub htinst : c.htinst < 2 ^ 32

-- ---- which register an access with V = 1 reaches, or its fault

-- the numbers of vsstatus, vsie, vstvec, vsscratch, vsepc, vscause, vstval, vsip and vsatp; and of hstatus, hedeleg,
-- hideleg, hie, hcounteren, htval, hip, hvip, htinst and hgatp
abbrev pub hypervisor_numbers : List ℕ
hypervisor_numbers = 0x200 ∷ 0x204 ∷ 0x205 ∷ 0x240 ∷ 0x241 ∷ 0x242 ∷ 0x243 ∷ 0x244 ∷ 0x280
    ∷ 0x600 ∷ 0x602 ∷ 0x603 ∷ 0x604 ∷ 0x606 ∷ 0x643 ∷ 0x644 ∷ 0x645 ∷ 0x64A ∷ 0x680 ∷ []

unfoldable pub is_hypervisor_number : ℕ → Bool
is_hypervisor_number number = list_any (λ n. number == n) hypervisor_numbers

-- a write to time is illegal; supervisor mode would read time, and have the others
abbrev pub refusal : Mode → ℕ → Bool → Csr → Option CsrFault
refusal mode scounteren true Csr.Time = Some CsrFault.Illegal
refusal Kernel scounteren false Csr.Time = None
refusal User scounteren false Csr.Time = if bit scounteren time_place then None else Some CsrFault.Virtual
refusal Kernel scounteren writes csr = None
refusal User scounteren writes csr = Some CsrFault.Virtual

abbrev pub unless_refused : Csr → Option CsrFault → Result Csr CsrFault
unless_refused csr None = Ok csr
unless_refused csr (Some fault) = Err fault

-- of the numbers without a supervisor register those that supervisor mode has, without V, are virtual
abbrev pub nameless_fault : ℕ → CsrFault
nameless_fault number = if is_hypervisor_number number then CsrFault.Virtual else CsrFault.Illegal

unfoldable pub reached_csr : Mode → ℕ → Bool → ℕ → Option Csr → Result Csr CsrFault
reached_csr mode scounteren writes number None = Err (nameless_fault number)
reached_csr mode scounteren writes number (Some csr) = unless_refused csr (refusal mode scounteren writes csr)

unfoldable pub csr_access : Mode → HypervisorRegisters → ℕ → Bool → Result Csr CsrFault
csr_access mode c number writes = reached_csr mode c.scounteren writes number (csr_of_number number)

-- ---- values

unfoldable pub read_virtual : ℕ → HypervisorRegisters → Lines → Csr → ℕ
read_virtual hideleg c lines Csr.Sstatus = c.vsstatus + uxl
read_virtual hideleg c lines Csr.Sie = guest_alias hideleg c.hie
read_virtual hideleg c lines Csr.Stvec = c.vstvec
read_virtual hideleg c lines Csr.Scounteren = c.scounteren
read_virtual hideleg c lines Csr.Sscratch = c.vsscratch
read_virtual hideleg c lines Csr.Sepc = c.vsepc
read_virtual hideleg c lines Csr.Scause = c.vscause
read_virtual hideleg c lines Csr.Stval = c.vstval
read_virtual hideleg c lines Csr.Sip = guest_alias hideleg (hip_value c.hvip lines)
read_virtual hideleg c lines Csr.Satp = c.vsatp
read_virtual hideleg c lines Csr.Time = lines.time

-- no access writes time
unfoldable pub write_virtual : ℕ → HypervisorRegisters → Csr → ℕ → HypervisorRegisters
write_virtual hideleg c Csr.Sstatus value = record c { vsstatus = legal_status value }
write_virtual hideleg c Csr.Sie value = record c { hie = with_alias hideleg virtual_interrupt_bits c.hie value }
write_virtual hideleg c Csr.Stvec value = record c { vstvec = legal_tvec value }
write_virtual hideleg c Csr.Scounteren value = record c { scounteren = legal_counteren value }
write_virtual hideleg c Csr.Sscratch value = record c { vsscratch = value }
write_virtual hideleg c Csr.Sepc value = record c { vsepc = legal_epc value }
write_virtual hideleg c Csr.Scause value = record c { vscause = value }
write_virtual hideleg c Csr.Stval value = record c { vstval = value }
write_virtual hideleg c Csr.Sip value = record c { hvip = with_alias hideleg virtual_software_bit c.hvip value }
write_virtual hideleg c Csr.Satp value = record c { vsatp = legal_satp c.vsatp value }
write_virtual hideleg c Csr.Time value = c

-- a read by its number: the value or the fault
abbrev pub value_read : ℕ → HypervisorRegisters → Lines → Result Csr CsrFault → Result ℕ CsrFault
value_read hideleg c lines (Ok csr) = Ok (read_virtual hideleg c lines csr)
value_read hideleg c lines (Err fault) = Err fault

unfoldable pub read_answer : HRegs → HypervisorRegisters → Lines → ℕ → Result ℕ CsrFault
read_answer regs c lines number = value_read regs.hideleg c lines (csr_access regs.mode c number false)

-- a write by its number: a fault changes nothing
abbrev pub registers_written : ℕ → HypervisorRegisters → ℕ → Result Csr CsrFault → HypervisorRegisters
registers_written hideleg c value (Ok csr) = write_virtual hideleg c csr value
registers_written hideleg c value (Err fault) = c

unfoldable pub after_write : HRegs → HypervisorRegisters → ℕ → ℕ → HypervisorRegisters
after_write regs c number value = registers_written regs.hideleg c value (csr_access regs.mode c number true)

-- ---- traps, their return, and exits

unfoldable pub registers_at_trap : HypervisorRegisters → Mode → ℕ → Bool → ℕ → ℕ → HypervisorRegisters
registers_at_trap c from pc interrupt cause tval = record c {
  vsstatus = status_at_trap c.vsstatus from;
  vsepc = pc;
  vscause = trap_cause interrupt cause;
  vstval = tval;
}

unfoldable pub registers_at_return : HypervisorRegisters → HypervisorRegisters
registers_at_return c = record c { vsstatus = status_at_return c.vsstatus }

-- the number of a cause as an exit shows it
abbrev pub exit_number : ExitCause → ℕ
exit_number (ExitCause.Exception cause) = cause_number cause
exit_number (ExitCause.Interrupt interrupt) = virtual_number interrupt

unfoldable pub registers_at_exit : HypervisorRegisters → Exit → HypervisorRegisters
registers_at_exit c exit = record c {
  sepc = exit.pc;
  scause = trap_cause (is_interrupt exit.cause) (exit_number exit.cause);
  stval = exit.stval;
  htval = exit.htval;
  htinst = exit.htinst;
}

-- ---- the interrupt that is taken

-- the interrupt's bits in hip and in hie are set; one that is delegated waits until the guest takes interrupts, and one
-- that isn't is taken at once
unfoldable pub is_taken : ℕ → Mode → HypervisorRegisters → Lines → Interrupt → Bool
is_taken hideleg mode c lines interrupt =
    bit (hip_value c.hvip lines) (virtual_number interrupt) && bit c.hie (virtual_number interrupt)
    && (not (bit hideleg (virtual_number interrupt)) || takes_interrupts mode c.vsstatus)

unfoldable pub pending : HRegs → HypervisorRegisters → Lines → Option Interrupt
pending regs c lines = first_interrupt (is_taken regs.hideleg regs.mode c lines)
