-- The supervisor registers as a guest reads and writes them.
-- RISC-V Privileged manual, "CSR Listing" for the numbers and "Supervisor CSRs"; Unprivileged manual, "Zicntr" for
-- time.
use Rattle.std.specs.Prelude.{◌≡◌, ℕ, ◌+◌, ◌-◌, ◌*◌, ◌^◌, Bool, true, false, ◌||◌, ◌==◌, if◌then◌else◌, bit_and, Option, Some, None}
use Rattle.spec_processor.specs.Bits.{bit, flag}
use Rattle.spec_processor.specs.Roots.{root_mode, root_mode_shift, root_page_bits, bare_mode, sv39_mode}
use Rattle.spec_processor.specs.declared.csr.Csr.{Csr}
use Rattle.spec_processor.specs.declared.mode.Mode.{Mode}
use Rattle.spec_processor.specs.declared.mode.Mode.TheVariants.{Kernel, User}
use Rattle.spec_processor.specs.declared.lines.Lines.{Lines}

-- the registers of a guest's hart; of its pending interrupts the software interrupt alone is a register's
pub record Supervisor : Type 0 where
  pub sstatus : ℕ
  pub sie : ℕ
  pub stvec : ℕ
  pub scounteren : ℕ
  pub sscratch : ℕ
  pub sepc : ℕ
  pub scause : ℕ
  pub stval : ℕ
  pub software : Bool
  pub satp : ℕ

-- ---- the register of a number

abbrev pub csr_number : Csr → ℕ
csr_number Csr.Sstatus = 0x100
csr_number Csr.Sie = 0x104
csr_number Csr.Stvec = 0x105
csr_number Csr.Scounteren = 0x106
csr_number Csr.Sscratch = 0x140
csr_number Csr.Sepc = 0x141
csr_number Csr.Scause = 0x142
csr_number Csr.Stval = 0x143
csr_number Csr.Sip = 0x144
csr_number Csr.Satp = 0x180
csr_number Csr.Time = 0xC01

unfoldable pub csr_of_number : ℕ → Option Csr
csr_of_number number =
    if number == csr_number Csr.Sstatus then Some Csr.Sstatus
    else if number == csr_number Csr.Sie then Some Csr.Sie
    else if number == csr_number Csr.Stvec then Some Csr.Stvec
    else if number == csr_number Csr.Scounteren then Some Csr.Scounteren
    else if number == csr_number Csr.Sscratch then Some Csr.Sscratch
    else if number == csr_number Csr.Sepc then Some Csr.Sepc
    else if number == csr_number Csr.Scause then Some Csr.Scause
    else if number == csr_number Csr.Stval then Some Csr.Stval
    else if number == csr_number Csr.Sip then Some Csr.Sip
    else if number == csr_number Csr.Satp then Some Csr.Satp
    else if number == csr_number Csr.Time then Some Csr.Time
    else None

-- ---- the bits that may stand

-- the places of SIE, SPIE, SPP, SUM and MXR in a status
abbrev pub sie_bit : ℕ
sie_bit = 1

abbrev pub spie_bit : ℕ
spie_bit = 5

abbrev pub spp_bit : ℕ
spp_bit = 8

abbrev pub sum_bit : ℕ
sum_bit = 18

abbrev pub mxr_bit : ℕ
mxr_bit = 19

abbrev pub status_bits : ℕ
status_bits = 2 ^ sie_bit + 2 ^ spie_bit + 2 ^ spp_bit + 2 ^ sum_bit + 2 ^ mxr_bit

abbrev pub legal_status : ℕ → ℕ
legal_status value = bit_and value status_bits

-- UXL is 2: user mode has 64-bit registers
abbrev pub uxl : ℕ
uxl = 2 * 2 ^ 32

-- the numbers of the software, the timer and the external interrupt, which are their places
abbrev pub software_number : ℕ
software_number = 1

abbrev pub timer_number : ℕ
timer_number = 5

abbrev pub external_number : ℕ
external_number = 9

abbrev pub software_bit : ℕ
software_bit = 2 ^ software_number

abbrev pub timer_bit : ℕ
timer_bit = 2 ^ timer_number

abbrev pub external_bit : ℕ
external_bit = 2 ^ external_number

abbrev pub interrupt_bits : ℕ
interrupt_bits = software_bit + timer_bit + external_bit

abbrev pub legal_interrupts : ℕ → ℕ
legal_interrupts value = bit_and value interrupt_bits

-- the base is a multiple of 4, and of the two modes bit 1 is 0
abbrev pub legal_tvec : ℕ → ℕ
legal_tvec value = bit_and value (2 ^ 64 - 1 - 2 ^ 1)

-- the place of TM, which alone may stand
abbrev pub time_place : ℕ
time_place = 1

abbrev pub legal_counteren : ℕ → ℕ
legal_counteren value = bit_and value (2 ^ time_place)

-- instructions lie at multiples of 4
abbrev pub legal_epc : ℕ → ℕ
legal_epc value = bit_and value (2 ^ 64 - 2 ^ 2)

-- the modes are Bare and Sv39, there are no ASIDs, and any other mode leaves the register
abbrev pub satp_bits : ℕ
satp_bits = (2 ^ (64 - root_mode_shift) - 1) * 2 ^ root_mode_shift + (2 ^ root_page_bits - 1)

abbrev pub is_satp_mode : ℕ → Bool
is_satp_mode mode = mode == bare_mode || mode == sv39_mode

abbrev pub legal_satp : ℕ → ℕ → ℕ
legal_satp old value = if is_satp_mode (root_mode value) then bit_and value satp_bits else old

-- ---- which register an access reaches, none where it is refused

-- kernel mode has all, but it doesn't write time; user mode reads time alone, where scounteren has it
abbrev pub is_allowed : Mode → ℕ → Bool → Csr → Bool
is_allowed mode scounteren true Csr.Time = false
is_allowed Kernel scounteren false Csr.Time = true
is_allowed User scounteren false Csr.Time = bit scounteren time_place
is_allowed Kernel scounteren writes csr = true
is_allowed User scounteren writes csr = false

unfoldable pub allowed_csr : Mode → ℕ → Bool → Option Csr → Option Csr
allowed_csr mode scounteren writes None = None
allowed_csr mode scounteren writes (Some csr) = if is_allowed mode scounteren writes csr then Some csr else None

unfoldable pub guest_access : Mode → Supervisor → ℕ → Bool → Option Csr
guest_access mode s number writes = allowed_csr mode s.scounteren writes (csr_of_number number)

-- ---- values

-- the timer's and the external interrupt are the lines'
abbrev pub sip_value : Supervisor → Lines → ℕ
sip_value s lines = software_bit * flag s.software + timer_bit * flag lines.timer + external_bit * flag lines.external

unfoldable pub read_csr : Supervisor → Lines → Csr → ℕ
read_csr s lines Csr.Sstatus = s.sstatus + uxl
read_csr s lines Csr.Sie = s.sie
read_csr s lines Csr.Stvec = s.stvec
read_csr s lines Csr.Scounteren = s.scounteren
read_csr s lines Csr.Sscratch = s.sscratch
read_csr s lines Csr.Sepc = s.sepc
read_csr s lines Csr.Scause = s.scause
read_csr s lines Csr.Stval = s.stval
read_csr s lines Csr.Sip = sip_value s lines
read_csr s lines Csr.Satp = s.satp
read_csr s lines Csr.Time = lines.time

-- no access writes time
unfoldable pub write_csr : Supervisor → Csr → ℕ → Supervisor
write_csr s Csr.Sstatus value = record s { sstatus = legal_status value }
write_csr s Csr.Sie value = record s { sie = legal_interrupts value }
write_csr s Csr.Stvec value = record s { stvec = legal_tvec value }
write_csr s Csr.Scounteren value = record s { scounteren = legal_counteren value }
write_csr s Csr.Sscratch value = record s { sscratch = value }
write_csr s Csr.Sepc value = record s { sepc = legal_epc value }
write_csr s Csr.Scause value = record s { scause = value }
write_csr s Csr.Stval value = record s { stval = value }
write_csr s Csr.Sip value = record s { software = bit value software_number }
write_csr s Csr.Satp value = record s { satp = legal_satp s.satp value }
write_csr s Csr.Time value = s

-- each register holds only bits that may stand
pub record IsLegalSupervisor (s : Supervisor) : Type 0 where
  pub sstatus : legal_status s.sstatus ≡ s.sstatus
  pub sie : legal_interrupts s.sie ≡ s.sie
  pub stvec : legal_tvec s.stvec ≡ s.stvec
  pub scounteren : legal_counteren s.scounteren ≡ s.scounteren
  pub sepc : legal_epc s.sepc ≡ s.sepc
  pub satp : legal_satp 0 s.satp ≡ s.satp
