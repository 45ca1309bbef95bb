-- With V = 1 the hardware shows the guest its supervisor registers.
use Rattle.std.proofs.Common.{◌≡◌, ℕ, zero, suc, ◌+◌, ◌-◌, ◌*◌, ◌/◌, ◌%◌, ◌^◌, ◌<◌, refl, sym, ◌∙◌, ap, subst, arith, Bool, true, false, lit<, bit_and, bit_or}
use Rattle.std.specs.Prelude.{Option, Some, None, ◌==◌, ◌&&◌, if◌then◌else◌}
use Rattle.std.specs.Result.{result_ok}
use Rattle.std.specs.Int.Bits.{or_zero_l, and_zero_r}
use Rattle.std.specs.Int.{bit_at}
use Rattle.std.proofs.lemmas.Nat.{and_assoc, and_block}
use Rattle.std.proofs.lemmas.Nat.Bits.{and_pow, bit_at-lt}
use Rattle.laws_processor.proofs.RegisterBits.{and_twice, boot_is_legal, write_is_legal, trap_is_legal, return_is_legal}
use Rattle.spec_processor.specs.Bits.{bit, flag, without}
use Rattle.spec_processor.specs.Registers.{Supervisor, IsLegalSupervisor, legal_interrupts, interrupt_bits, csr_of_number, guest_access, allowed_csr, sip_value, read_csr, write_csr}
use Rattle.spec_processor.specs.Traps.{supervisor_at_trap, supervisor_at_return, deliverable, is_pending, takes_interrupts, first_interrupt, interrupt_number}
use Rattle.spec_processor.specs.HypervisorRegisters.{HypervisorRegisters, IsLegal, registers_at_boot, csr_access, reached_csr}
use Rattle.spec_processor.specs.HypervisorRegisters.{unless_refused, read_virtual, write_virtual, hip_value, guest_alias, with_alias}
use Rattle.spec_processor.specs.HypervisorRegisters.{registers_at_trap, registers_at_return, is_taken, pending, virtual_interrupt_bits}
use Rattle.spec_processor.specs.HypervisorRegisters.{virtual_software_bit, virtual_number}
use Rattle.spec_processor.specs.GuestView.{with_guest, hideleg_in}
use Rattle.spec_processor.specs.declared.csr.Csr.{Csr}
use Rattle.spec_processor.specs.declared.csr.CsrFault.TheVariants as CsrFault
use Rattle.spec_processor.specs.declared.mode.Mode.{Mode}
use Rattle.spec_processor.specs.declared.mode.Mode.TheVariants.{Kernel, User}
use Rattle.spec_processor.specs.declared.hregs.HRegs.{HRegs}
use Rattle.spec_processor.specs.declared.lines.Lines.{Lines}
use Rattle.spec_processor.specs.declared.interrupt.Interrupt.{Interrupt}
use Rattle.spec_processor.specs.declared.interrupt.Interrupt.TheVariants.{External, Software, Timer}

-- ---- numbers one place higher

double_and : (a b : ℕ) → bit_and (2 * a) (2 * b) ≡ 2 * bit_and a b
double_and a b = let e = and_block 1 a b 0 0 (lit< tt) (lit< tt) in
    let l : a * 2 ^ 1 + 0 ≡ 2 * a = omega arith in
    let k : b * 2 ^ 1 + 0 ≡ 2 * b = omega arith in
    ap (λ (x : ℕ). bit_and x (2 * b)) (sym l) ∙ ap (bit_and (a * 2 ^ 1 + 0)) (sym k) ∙ e ∙ omega arith

doubled_kept : (sie : ℕ) → legal_interrupts sie ≡ sie → bit_and (2 * sie) virtual_interrupt_bits ≡ 2 * sie
doubled_kept sie e = double_and sie interrupt_bits ∙ ap (λ (x : ℕ). 2 * x) e

bit_doubled : (n : ℕ) (interrupt : Interrupt) → bit (2 * n) (virtual_number interrupt) ≡ bit n (interrupt_number interrupt)
bit_doubled n External = let e : 2 * n / 2 ^ 10 ≡ n / 2 ^ 9 = omega arith in ap (λ (x : ℕ). x % 2 == 1) e
bit_doubled n Software = let e : 2 * n / 2 ^ 2 ≡ n / 2 ^ 1 = omega arith in ap (λ (x : ℕ). x % 2 == 1) e
bit_doubled n Timer = let e : 2 * n / 2 ^ 6 ≡ n / 2 ^ 5 = omega arith in ap (λ (x : ℕ). x % 2 == 1) e

-- ---- sie

sie_read : (sie : ℕ) → legal_interrupts sie ≡ sie → guest_alias virtual_interrupt_bits (2 * sie) ≡ sie
unfolding guest_alias
sie_read sie e = rw (doubled_kept sie e) (omega arith)

sie_others : (sie : ℕ) → legal_interrupts sie ≡ sie → without (2 * sie) virtual_interrupt_bits ≡ 0
sie_others sie e =
    ap (λ (x : ℕ). without x virtual_interrupt_bits) (sym (doubled_kept sie e))
    ∙ and_assoc (2 ^ 64 - 1 - virtual_interrupt_bits) (2 * sie) virtual_interrupt_bits ∙ and_zero_r (2 * sie)

sie_written : (sie value : ℕ) → legal_interrupts sie ≡ sie
    → with_alias virtual_interrupt_bits virtual_interrupt_bits (2 * sie) value ≡ 2 * legal_interrupts value
unfolding with_alias
sie_written sie value e =
    rw (sie_others sie e) (or_zero_l (bit_and (2 * legal_interrupts value) virtual_interrupt_bits)
    ∙ double_and (legal_interrupts value) interrupt_bits ∙ ap (λ (x : ℕ). 2 * x) (and_twice value interrupt_bits))

-- ---- sip

hip_doubles : (software timer external : Bool)
    → bit_or (2 ^ 2 * flag software) (2 ^ 6 * flag timer + 2 ^ 10 * flag external) ≡ 2 * (2 ^ 1 * flag software + 2 ^ 5 * flag timer + 2 ^ 9 * flag external)
hip_doubles false false false = refl
hip_doubles false false true = refl
hip_doubles false true false = refl
hip_doubles false true true = refl
hip_doubles true false false = refl
hip_doubles true false true = refl
hip_doubles true true false = refl
hip_doubles true true true = refl

sip_legal : (software timer external : Bool)
    → legal_interrupts (2 ^ 1 * flag software + 2 ^ 5 * flag timer + 2 ^ 9 * flag external) ≡ 2 ^ 1 * flag software + 2 ^ 5 * flag timer + 2 ^ 9 * flag external
sip_legal false false false = refl
sip_legal false false true = refl
sip_legal false true false = refl
sip_legal false true true = refl
sip_legal true false false = refl
sip_legal true false true = refl
sip_legal true true false = refl
sip_legal true true true = refl

sip_read : (software timer external : Bool)
    → guest_alias virtual_interrupt_bits (bit_or (2 ^ 2 * flag software) (2 ^ 6 * flag timer + 2 ^ 10 * flag external))
    ≡ 2 ^ 1 * flag software + 2 ^ 5 * flag timer + 2 ^ 9 * flag external
sip_read software timer external =
    ap (guest_alias virtual_interrupt_bits) (hip_doubles software timer external)
    ∙ sie_read (2 ^ 1 * flag software + 2 ^ 5 * flag timer + 2 ^ 9 * flag external) (sip_legal software timer external)

software_taken : (software : Bool) → without (2 ^ 2 * flag software) virtual_software_bit ≡ 0
software_taken false = refl
software_taken true = refl

flag_of_bit : (n : ℕ) → n < 2 → n ≡ flag (n == 1)
flag_of_bit zero small = refl
flag_of_bit (suc zero) small = refl
flag_of_bit (suc (suc n)) small = absurd (omega arith)

software_written : (value : ℕ) → bit_and (2 * bit_and value interrupt_bits) virtual_software_bit ≡ 2 ^ 2 * flag (bit value 1)
software_written value =
    let b : bit_at value 1 ≡ flag (bit value 1) = flag_of_bit (bit_at value 1) (bit_at-lt value 1) in
    double_and (bit_and value interrupt_bits) (2 ^ 1) ∙ ap (λ (x : ℕ). 2 * x) (and_assoc (2 ^ 1) value interrupt_bits ∙ and_pow value 1)
    ∙ ap (λ (x : ℕ). 2 * (x * 2 ^ 1)) b ∙ omega arith

sip_written : (software : Bool) (value : ℕ)
    → with_alias virtual_interrupt_bits virtual_software_bit (2 ^ 2 * flag software) value ≡ 2 ^ 2 * flag (bit value 1)
unfolding with_alias
sip_written software value =
    rw (software_taken software) (or_zero_l (bit_and (2 * bit_and value interrupt_bits) virtual_software_bit) ∙ software_written value)

-- ---- reads and writes

pub guest_reads : (c : HypervisorRegisters) (s : Supervisor) (lines : Lines) (csr : Csr) → IsLegalSupervisor s
    → read_virtual (hideleg_in Kernel) (with_guest c s) lines csr ≡ read_csr s lines csr
unfolding read_virtual read_csr hip_value
guest_reads c s lines Csr.Sstatus legal = refl
guest_reads c s lines Csr.Sie legal = sie_read s.sie legal.sie
guest_reads c s lines Csr.Stvec legal = refl
guest_reads c s lines Csr.Scounteren legal = refl
guest_reads c s lines Csr.Sscratch legal = refl
guest_reads c s lines Csr.Sepc legal = refl
guest_reads c s lines Csr.Scause legal = refl
guest_reads c s lines Csr.Stval legal = refl
guest_reads c s lines Csr.Sip legal = sip_read s.software lines.timer lines.external
guest_reads c s lines Csr.Satp legal = refl
guest_reads c s lines Csr.Time legal = refl

pub guest_writes : (c : HypervisorRegisters) (s : Supervisor) (csr : Csr) (value : ℕ) → IsLegalSupervisor s
    → write_virtual (hideleg_in Kernel) (with_guest c s) csr value ≡ with_guest c (write_csr s csr value)
unfolding write_virtual write_csr
guest_writes c s Csr.Sstatus value legal = refl
guest_writes c s Csr.Sie value legal = rw (sie_written s.sie value legal.sie) refl
guest_writes c s Csr.Stvec value legal = refl
guest_writes c s Csr.Scounteren value legal = refl
guest_writes c s Csr.Sscratch value legal = refl
guest_writes c s Csr.Sepc value legal = refl
guest_writes c s Csr.Scause value legal = refl
guest_writes c s Csr.Stval value legal = refl
guest_writes c s Csr.Sip value legal = rw (sip_written s.software value) refl
guest_writes c s Csr.Satp value legal = refl
guest_writes c s Csr.Time value legal = refl

-- ---- refusals

time_agrees : (enabled : Bool)
    → (if enabled then Some Csr.Time else None) ≡ result_ok (unless_refused Csr.Time (if enabled then None else Some CsrFault.Virtual))
time_agrees true = refl
time_agrees false = refl

allowed_agrees : (mode : Mode) (scounteren : ℕ) (writes : Bool) (number : ℕ) (csr : Option Csr)
    → allowed_csr mode scounteren writes csr ≡ result_ok (reached_csr mode scounteren writes number csr)
unfolding allowed_csr reached_csr
allowed_agrees mode scounteren writes number None = refl
allowed_agrees Kernel scounteren true number (Some Csr.Sstatus) = refl
allowed_agrees Kernel scounteren false number (Some Csr.Sstatus) = refl
allowed_agrees User scounteren true number (Some Csr.Sstatus) = refl
allowed_agrees User scounteren false number (Some Csr.Sstatus) = refl
allowed_agrees Kernel scounteren true number (Some Csr.Sie) = refl
allowed_agrees Kernel scounteren false number (Some Csr.Sie) = refl
allowed_agrees User scounteren true number (Some Csr.Sie) = refl
allowed_agrees User scounteren false number (Some Csr.Sie) = refl
allowed_agrees Kernel scounteren true number (Some Csr.Stvec) = refl
allowed_agrees Kernel scounteren false number (Some Csr.Stvec) = refl
allowed_agrees User scounteren true number (Some Csr.Stvec) = refl
allowed_agrees User scounteren false number (Some Csr.Stvec) = refl
allowed_agrees Kernel scounteren true number (Some Csr.Scounteren) = refl
allowed_agrees Kernel scounteren false number (Some Csr.Scounteren) = refl
allowed_agrees User scounteren true number (Some Csr.Scounteren) = refl
allowed_agrees User scounteren false number (Some Csr.Scounteren) = refl
allowed_agrees Kernel scounteren true number (Some Csr.Sscratch) = refl
allowed_agrees Kernel scounteren false number (Some Csr.Sscratch) = refl
allowed_agrees User scounteren true number (Some Csr.Sscratch) = refl
allowed_agrees User scounteren false number (Some Csr.Sscratch) = refl
allowed_agrees Kernel scounteren true number (Some Csr.Sepc) = refl
allowed_agrees Kernel scounteren false number (Some Csr.Sepc) = refl
allowed_agrees User scounteren true number (Some Csr.Sepc) = refl
allowed_agrees User scounteren false number (Some Csr.Sepc) = refl
allowed_agrees Kernel scounteren true number (Some Csr.Scause) = refl
allowed_agrees Kernel scounteren false number (Some Csr.Scause) = refl
allowed_agrees User scounteren true number (Some Csr.Scause) = refl
allowed_agrees User scounteren false number (Some Csr.Scause) = refl
allowed_agrees Kernel scounteren true number (Some Csr.Stval) = refl
allowed_agrees Kernel scounteren false number (Some Csr.Stval) = refl
allowed_agrees User scounteren true number (Some Csr.Stval) = refl
allowed_agrees User scounteren false number (Some Csr.Stval) = refl
allowed_agrees Kernel scounteren true number (Some Csr.Sip) = refl
allowed_agrees Kernel scounteren false number (Some Csr.Sip) = refl
allowed_agrees User scounteren true number (Some Csr.Sip) = refl
allowed_agrees User scounteren false number (Some Csr.Sip) = refl
allowed_agrees Kernel scounteren true number (Some Csr.Satp) = refl
allowed_agrees Kernel scounteren false number (Some Csr.Satp) = refl
allowed_agrees User scounteren true number (Some Csr.Satp) = refl
allowed_agrees User scounteren false number (Some Csr.Satp) = refl
allowed_agrees Kernel scounteren true number (Some Csr.Time) = refl
allowed_agrees User scounteren true number (Some Csr.Time) = refl
allowed_agrees Kernel scounteren false number (Some Csr.Time) = refl
allowed_agrees User scounteren false number (Some Csr.Time) = time_agrees (bit scounteren 1)

pub guest_accesses : (mode : Mode) (c : HypervisorRegisters) (s : Supervisor) (number : ℕ) (writes : Bool)
    → guest_access mode s number writes ≡ result_ok (csr_access mode (with_guest c s) number writes)
unfolding guest_access csr_access
guest_accesses mode c s number writes = allowed_agrees mode s.scounteren writes number (csr_of_number number)

-- ---- by mode

-- user mode reaches time alone, and reads it
time_only : (enabled : Bool) (csr : Csr) → (if enabled then Some Csr.Time else None) ≡ Some csr → Csr.Time ≡ csr
time_only true csr e = cc
time_only false csr e = cc

user_reaches : (scounteren : ℕ) (writes : Bool) (named : Option Csr) (csr : Csr) → allowed_csr User scounteren writes named ≡ Some csr
    → (Csr.Time ≡ csr) × (writes ≡ false)
unfolding allowed_csr
user_reaches scounteren writes None csr e = cc
user_reaches scounteren true (Some Csr.Sstatus) csr e = cc
user_reaches scounteren false (Some Csr.Sstatus) csr e = cc
user_reaches scounteren true (Some Csr.Sie) csr e = cc
user_reaches scounteren false (Some Csr.Sie) csr e = cc
user_reaches scounteren true (Some Csr.Stvec) csr e = cc
user_reaches scounteren false (Some Csr.Stvec) csr e = cc
user_reaches scounteren true (Some Csr.Scounteren) csr e = cc
user_reaches scounteren false (Some Csr.Scounteren) csr e = cc
user_reaches scounteren true (Some Csr.Sscratch) csr e = cc
user_reaches scounteren false (Some Csr.Sscratch) csr e = cc
user_reaches scounteren true (Some Csr.Sepc) csr e = cc
user_reaches scounteren false (Some Csr.Sepc) csr e = cc
user_reaches scounteren true (Some Csr.Scause) csr e = cc
user_reaches scounteren false (Some Csr.Scause) csr e = cc
user_reaches scounteren true (Some Csr.Stval) csr e = cc
user_reaches scounteren false (Some Csr.Stval) csr e = cc
user_reaches scounteren true (Some Csr.Sip) csr e = cc
user_reaches scounteren false (Some Csr.Sip) csr e = cc
user_reaches scounteren true (Some Csr.Satp) csr e = cc
user_reaches scounteren false (Some Csr.Satp) csr e = cc
user_reaches scounteren true (Some Csr.Time) csr e = cc
user_reaches scounteren false (Some Csr.Time) csr e = (time_only (bit scounteren 1) csr e, refl)

time_read : (c : HypervisorRegisters) (s : Supervisor) (lines : Lines)
    → read_virtual (hideleg_in User) (with_guest c s) lines Csr.Time ≡ read_csr s lines Csr.Time
unfolding read_virtual read_csr
time_read c s lines = refl

pub reached_reads : (mode : Mode) (c : HypervisorRegisters) (s : Supervisor) (lines : Lines) (number : ℕ) (writes : Bool) (csr : Csr)
    → IsLegalSupervisor s → guest_access mode s number writes ≡ Some csr
    → read_virtual (hideleg_in mode) (with_guest c s) lines csr ≡ read_csr s lines csr
unfolding guest_access
reached_reads Kernel c s lines number writes csr legal e = guest_reads c s lines csr legal
reached_reads User c s lines number writes csr legal e =
    let only = user_reaches s.scounteren writes (csr_of_number number) csr e in
    subst (λ (k : Csr). read_virtual (hideleg_in User) (with_guest c s) lines k ≡ read_csr s lines k) only.0 (time_read c s lines)

no_write : (P : Type 0) → true ≡ false → P
no_write P e = cc

pub reached_writes : (mode : Mode) (c : HypervisorRegisters) (s : Supervisor) (number : ℕ) (csr : Csr) (value : ℕ)
    → IsLegalSupervisor s → guest_access mode s number true ≡ Some csr
    → write_virtual (hideleg_in mode) (with_guest c s) csr value ≡ with_guest c (write_csr s csr value)
unfolding guest_access
reached_writes Kernel c s number csr value legal e = guest_writes c s csr value legal
reached_writes User c s number csr value legal e =
    let only = user_reaches s.scounteren true (csr_of_number number) csr e in
    no_write (write_virtual (hideleg_in User) (with_guest c s) csr value ≡ with_guest c (write_csr s csr value)) only.1

-- ---- traps

pub guest_traps : (c : HypervisorRegisters) (s : Supervisor) (from : Mode) (pc : ℕ) (interrupt : Bool) (cause tval : ℕ)
    → registers_at_trap (with_guest c s) from pc interrupt cause tval ≡ with_guest c (supervisor_at_trap s from pc interrupt cause tval)
unfolding registers_at_trap supervisor_at_trap
guest_traps c s from pc interrupt cause tval = refl

pub guest_returns : (c : HypervisorRegisters) (s : Supervisor) → registers_at_return (with_guest c s) ≡ with_guest c (supervisor_at_return s)
unfolding registers_at_return supervisor_at_return
guest_returns c s = refl

-- ---- interrupts

same_first : (p q : Interrupt → Bool) → ((i : Interrupt) → p i ≡ q i) → first_interrupt p ≡ first_interrupt q
same_first p q e = rw (e External, e Software, e Timer) refl

pub and_false : (b : Bool) → (b && false) ≡ false
and_false true = refl
and_false false = refl

pub and_true : (b : Bool) → (b && true) ≡ b
and_true true = refl
and_true false = refl

guarded_first : (p : Interrupt → Bool) (taken : Bool) → first_interrupt (λ i. p i && taken) ≡ (if taken then first_interrupt p else None)
guarded_first p true = same_first (λ i. p i && true) p (λ i. and_true (p i))
guarded_first p false = same_first (λ i. p i && false) (λ i. false) (λ i. and_false (p i))

taken_agrees : (mode : Mode) (c : HypervisorRegisters) (s : Supervisor) (lines : Lines) (i : Interrupt)
    → is_taken (hideleg_in mode) mode (with_guest c s) lines i ≡ (is_pending s lines i && takes_interrupts mode s.sstatus)
unfolding is_taken hip_value
taken_agrees Kernel c s lines External = rw (hip_doubles s.software lines.timer lines.external, bit_doubled (sip_value s lines) External, bit_doubled s.sie External) refl
taken_agrees Kernel c s lines Software = rw (hip_doubles s.software lines.timer lines.external, bit_doubled (sip_value s lines) Software, bit_doubled s.sie Software) refl
taken_agrees Kernel c s lines Timer = rw (hip_doubles s.software lines.timer lines.external, bit_doubled (sip_value s lines) Timer, bit_doubled s.sie Timer) refl
taken_agrees User c s lines External = rw (hip_doubles s.software lines.timer lines.external, bit_doubled (sip_value s lines) External, bit_doubled s.sie External) refl
taken_agrees User c s lines Software = rw (hip_doubles s.software lines.timer lines.external, bit_doubled (sip_value s lines) Software, bit_doubled s.sie Software) refl
taken_agrees User c s lines Timer = rw (hip_doubles s.software lines.timer lines.external, bit_doubled (sip_value s lines) Timer, bit_doubled s.sie Timer) refl

pub guest_pending : (regs : HRegs) (c : HypervisorRegisters) (s : Supervisor) (lines : Lines) → regs.hideleg ≡ hideleg_in regs.mode
    → pending regs (with_guest c s) lines ≡ deliverable regs.mode s lines
unfolding pending deliverable
guest_pending regs c s lines e =
    ap (λ (h : ℕ). first_interrupt (is_taken h regs.mode (with_guest c s) lines)) e
    ∙ same_first (is_taken (hideleg_in regs.mode) regs.mode (with_guest c s) lines) (λ i. is_pending s lines i && takes_interrupts regs.mode s.sstatus)
    (taken_agrees regs.mode c s lines)
    ∙ guarded_first (is_pending s lines) (takes_interrupts regs.mode s.sstatus)

-- ---- legal bits

software_kept : (software : Bool) → bit_and (virtual_software_bit * flag software) virtual_software_bit ≡ virtual_software_bit * flag software
software_kept true = refl
software_kept false = refl

pub shown_is_legal : (c : HypervisorRegisters) (s : Supervisor) → IsLegal c → IsLegalSupervisor s → IsLegal (with_guest c s)
shown_is_legal c s l legal = record {
  vsstatus = legal.sstatus;
  vstvec = legal.stvec;
  vsepc = legal.sepc;
  vsatp = legal.satp;
  scounteren = legal.scounteren;
  hie = doubled_kept s.sie legal.sie;
  hvip = software_kept s.software;
  sepc = l.sepc;
  htinst = l.htinst;
}

undoubled : (sie : ℕ) → bit_and (2 * sie) virtual_interrupt_bits ≡ 2 * sie → legal_interrupts sie ≡ sie
undoubled sie e = let both : 2 * legal_interrupts sie ≡ 2 * sie = sym (double_and sie interrupt_bits) ∙ e in omega arith

pub guest_is_legal : (c : HypervisorRegisters) (s : Supervisor) → IsLegal (with_guest c s) → IsLegalSupervisor s
guest_is_legal c s l = record {
  sstatus = l.vsstatus;
  sie = undoubled s.sie l.hie;
  stvec = l.vstvec;
  scounteren = l.scounteren;
  sepc = l.vsepc;
  satp = l.vsatp;
}

pub guest_write_is_legal : (s : Supervisor) (csr : Csr) (value : ℕ) → IsLegalSupervisor s → IsLegalSupervisor (write_csr s csr value)
guest_write_is_legal s csr value legal = guest_is_legal registers_at_boot (write_csr s csr value)
    (subst IsLegal (guest_writes registers_at_boot s csr value legal)
    (write_is_legal (hideleg_in Kernel) (with_guest registers_at_boot s) csr value (shown_is_legal registers_at_boot s boot_is_legal legal)))

pub guest_trap_is_legal : (s : Supervisor) (from : Mode) (pc : ℕ) (interrupt : Bool) (cause tval : ℕ) → IsLegalSupervisor s → pc % 4 ≡ 0
    → pc < 2 ^ 64 → IsLegalSupervisor (supervisor_at_trap s from pc interrupt cause tval)
guest_trap_is_legal s from pc interrupt cause tval legal aligned small =
    guest_is_legal registers_at_boot (supervisor_at_trap s from pc interrupt cause tval)
    (subst IsLegal (guest_traps registers_at_boot s from pc interrupt cause tval)
    (trap_is_legal (with_guest registers_at_boot s) from pc interrupt cause tval (shown_is_legal registers_at_boot s boot_is_legal legal) aligned small))

pub guest_return_is_legal : (s : Supervisor) → IsLegalSupervisor s → IsLegalSupervisor (supervisor_at_return s)
guest_return_is_legal s legal = guest_is_legal registers_at_boot (supervisor_at_return s)
    (subst IsLegal (guest_returns registers_at_boot s)
    (return_is_legal (with_guest registers_at_boot s) (shown_is_legal registers_at_boot s boot_is_legal legal)))
