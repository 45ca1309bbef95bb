-- What bits of a register stand after a write, a trap or its return.
use Rattle.std.proofs.Common.{◌≡◌, ℕ, ◌+◌, ◌-◌, ◌*◌, ◌/◌, ◌%◌, ◌^◌, ◌<◌, ◌≤◌, refl, sym, ◌∙◌, ap, arith, Bool, true, false, lit<, bit_and, bit_or, min, max}
use Rattle.std.specs.Prelude.{◌==◌, ◌&&◌, ◌||◌, if◌then◌else◌}
use Rattle.std.proofs.lemmas.Bool.{eqb-true}
use Rattle.std.specs.Int.{bit_at}
use Rattle.std.specs.Int.Bits.{and_self}
use Rattle.std.proofs.lemmas.Nat.{and_assoc, and_comm, and_block, and_le_l, and_le_r}
use Rattle.std.proofs.lemmas.Nat.Bits.{bit_at_and, bit_at_or, same_from_bits, and_high}
use Rattle.spec_processor.specs.Bits.{with_bits, without, bit}
use Rattle.spec_processor.specs.Registers.{legal_status, status_bits, legal_satp, satp_bits, is_satp_mode, legal_epc, interrupt_bits}
use Rattle.spec_processor.specs.Traps.{trap_target, status_at_trap, status_at_return, is_kernel}
use Rattle.spec_processor.specs.HypervisorRegisters.{HypervisorRegisters, IsLegal, registers_at_boot, registers_at_trap}
use Rattle.spec_processor.specs.HypervisorRegisters.{registers_at_return, with_alias, write_virtual, virtual_interrupt_bits}
use Rattle.spec_processor.specs.HypervisorRegisters.{virtual_software_bit}
use Rattle.spec_processor.specs.declared.csr.Csr.{Csr}
use Rattle.spec_processor.specs.declared.mode.Mode.{Mode}

-- ---- masks

pub and_twice : (value mask : ℕ) → bit_and (bit_and value mask) mask ≡ bit_and value mask
and_twice value mask = and_assoc mask value mask ∙ ap (bit_and value) (and_self mask)

min_max : (a b m : ℕ) → min (max a b) m ≡ max (min a m) (min b m)
min_max a b m = omega arith

pub and_or : (a b mask : ℕ) → bit_and (bit_or a b) mask ≡ bit_or (bit_and a mask) (bit_and b mask)
and_or a b mask = same_from_bits _ _ (λ i.
    bit_at_and (bit_or a b) mask i ∙ ap (λ (x : ℕ). min x (bit_at mask i)) (bit_at_or a b i)
    ∙ min_max (bit_at a i) (bit_at b i) (bit_at mask i)
    ∙ sym (bit_at_or (bit_and a mask) (bit_and b mask) i ∙ ap (λ (x : ℕ). max x (bit_at (bit_and b mask) i)) (bit_at_and a mask i)
    ∙ ap (max (min (bit_at a i) (bit_at mask i))) (bit_at_and b mask i)))

-- what holds only bits of a mask still does when some are taken away
pub and_kept : (register other mask : ℕ) → bit_and register mask ≡ register → bit_and (bit_and register other) mask ≡ bit_and register other
and_kept register other mask e =
    and_assoc mask register other ∙ ap (bit_and register) (and_comm other mask) ∙ sym (and_assoc other register mask)
    ∙ ap (λ (x : ℕ). bit_and x other) e

pub or_kept : (a b mask : ℕ) → bit_and a mask ≡ a → bit_and b mask ≡ b → bit_and (bit_or a b) mask ≡ bit_or a b
or_kept a b mask p q = and_or a b mask ∙ ap (λ (x : ℕ). bit_or x (bit_and b mask)) p ∙ ap (bit_or a) q

pub with_bits_kept : (register some mask : ℕ) (set : Bool) → bit_and register mask ≡ register → bit_and some mask ≡ some
    → bit_and (with_bits register some set) mask ≡ with_bits register some set
with_bits_kept register some mask true e s = or_kept register some mask e s
with_bits_kept register some mask false e s = and_kept register (2 ^ 64 - 1 - some) mask e

-- ---- status

pub trap_status_legal : (status : ℕ) (from : Mode) → legal_status status ≡ status
    → legal_status (status_at_trap status from) ≡ status_at_trap status from
unfolding status_at_trap
trap_status_legal status from e =
    let a = with_bits_kept status (2 ^ 5) status_bits (bit status 1) e refl in
    let b = with_bits_kept (with_bits status (2 ^ 5) (bit status 1)) (2 ^ 1) status_bits false a refl in
    with_bits_kept _ (2 ^ 8) status_bits (is_kernel from) b refl

pub return_status_legal : (status : ℕ) → legal_status status ≡ status → legal_status (status_at_return status) ≡ status_at_return status
unfolding status_at_return
return_status_legal status e =
    let a = with_bits_kept status (2 ^ 1) status_bits (bit status 5) e refl in
    let b = with_bits_kept (with_bits status (2 ^ 1) (bit status 5)) (2 ^ 5) status_bits true a refl in
    with_bits_kept _ (2 ^ 8) status_bits false b refl

-- ---- satp

satp_mode_kept : (value mode : ℕ) → value / 2 ^ 60 ≡ mode → bit_and mode 15 ≡ mode → bit_and value satp_bits / 2 ^ 60 ≡ mode
satp_mode_kept value mode e m =
    let rest : ℕ = value % 2 ^ 60 in
    let low : rest < 2 ^ 60 = omega arith in
    let whole : mode * 2 ^ 60 + rest ≡ value = omega arith in
    let block = and_block 60 mode 15 rest (2 ^ 44 - 1) low (lit< tt) in
    let small : bit_and rest (2 ^ 44 - 1) ≤ 2 ^ 44 - 1 = and_le_r rest (2 ^ 44 - 1) in
    ap (λ (x : ℕ). bit_and x satp_bits / 2 ^ 60) (sym whole) ∙ ap (λ (x : ℕ). x / 2 ^ 60) (block ∙ ap (λ (x : ℕ). x * 2 ^ 60 + bit_and rest (2 ^ 44 - 1)) m)
    ∙ omega arith

satp_mode_legal : (value mode : ℕ) → value / 2 ^ 60 ≡ mode → bit_and mode 15 ≡ mode → is_satp_mode mode ≡ true
    → legal_satp 0 (bit_and value satp_bits) ≡ bit_and value satp_bits
satp_mode_legal value mode e m legal =
    rw (satp_mode_kept value mode e m, legal) (and_twice value satp_bits)

satp_cases : (old value : ℕ) (bare sv39 : Bool) → (value / 2 ^ 60 == 0) ≡ bare → (value / 2 ^ 60 == 8) ≡ sv39 → legal_satp 0 old ≡ old
    → legal_satp 0 (if bare || sv39 then bit_and value satp_bits else old) ≡ (if bare || sv39 then bit_and value satp_bits else old)
satp_cases old value true sv39 b s e = satp_mode_legal value 0 (eqb-true (value / 2 ^ 60) 0 b) refl refl
satp_cases old value false true b s e = satp_mode_legal value 8 (eqb-true (value / 2 ^ 60) 8 s) refl refl
satp_cases old value false false b s e = e

pub satp_legal : (old value : ℕ) → legal_satp 0 old ≡ old → legal_satp 0 (legal_satp old value) ≡ legal_satp old value
satp_legal old value e = satp_cases old value (value / 2 ^ 60 == 0) (value / 2 ^ 60 == 8) refl refl e

-- ---- addresses of instructions

pub epc_aligned : (value : ℕ) → legal_epc value % 4 ≡ 0
epc_aligned value = let e = and_high value 62 2 in rw e (omega arith)

pub aligned_epc : (pc : ℕ) → pc % 4 ≡ 0 → pc < 2 ^ 64 → legal_epc pc ≡ pc
aligned_epc pc a b = let e = and_high pc 62 2 in rw e (omega arith)

-- ---- interrupts behind an alias

pub alias_kept : (hideleg bits register value : ℕ) → bit_and register bits ≡ register
    → bit_and (with_alias hideleg bits register value) bits ≡ with_alias hideleg bits register value
unfolding with_alias
alias_kept hideleg bits register value e =
    let some : ℕ = bit_and hideleg bits in
    or_kept (without register some) (bit_and (2 * bit_and value interrupt_bits) some) bits
    (and_kept register (2 ^ 64 - 1 - some) bits e)
    (and_assoc bits (2 * bit_and value interrupt_bits) some ∙ ap (bit_and (2 * bit_and value interrupt_bits)) (and_twice hideleg bits))

-- ---- the whole file

pub boot_is_legal : IsLegal registers_at_boot
unfolding registers_at_boot
boot_is_legal = record {
  vsstatus = refl;
  vstvec = refl;
  vsepc = refl;
  vsatp = refl;
  scounteren = refl;
  hie = refl;
  hvip = refl;
  sepc = refl;
  htinst = lit< tt;
}

pub write_is_legal : (hideleg : ℕ) (c : HypervisorRegisters) (csr : Csr) (value : ℕ) → IsLegal c → IsLegal (write_virtual hideleg c csr value)
unfolding write_virtual
write_is_legal hideleg c Csr.Sstatus value l = record {
  vsstatus = and_twice value status_bits;
  vstvec = l.vstvec;
  vsepc = l.vsepc;
  vsatp = l.vsatp;
  scounteren = l.scounteren;
  hie = l.hie;
  hvip = l.hvip;
  sepc = l.sepc;
  htinst = l.htinst;
}
write_is_legal hideleg c Csr.Sie value l = record {
  vsstatus = l.vsstatus;
  vstvec = l.vstvec;
  vsepc = l.vsepc;
  vsatp = l.vsatp;
  scounteren = l.scounteren;
  hie = alias_kept hideleg virtual_interrupt_bits c.hie value l.hie;
  hvip = l.hvip;
  sepc = l.sepc;
  htinst = l.htinst;
}
write_is_legal hideleg c Csr.Stvec value l = record {
  vsstatus = l.vsstatus;
  vstvec = and_twice value (2 ^ 64 - 1 - 2 ^ 1);
  vsepc = l.vsepc;
  vsatp = l.vsatp;
  scounteren = l.scounteren;
  hie = l.hie;
  hvip = l.hvip;
  sepc = l.sepc;
  htinst = l.htinst;
}
write_is_legal hideleg c Csr.Scounteren value l = record {
  vsstatus = l.vsstatus;
  vstvec = l.vstvec;
  vsepc = l.vsepc;
  vsatp = l.vsatp;
  scounteren = and_twice value (2 ^ 1);
  hie = l.hie;
  hvip = l.hvip;
  sepc = l.sepc;
  htinst = l.htinst;
}
write_is_legal hideleg c Csr.Sepc value l = record {
  vsstatus = l.vsstatus;
  vstvec = l.vstvec;
  vsepc = and_twice value (2 ^ 64 - 2 ^ 2);
  vsatp = l.vsatp;
  scounteren = l.scounteren;
  hie = l.hie;
  hvip = l.hvip;
  sepc = l.sepc;
  htinst = l.htinst;
}
write_is_legal hideleg c Csr.Sip value l = record {
  vsstatus = l.vsstatus;
  vstvec = l.vstvec;
  vsepc = l.vsepc;
  vsatp = l.vsatp;
  scounteren = l.scounteren;
  hie = l.hie;
  hvip = alias_kept hideleg virtual_software_bit c.hvip value l.hvip;
  sepc = l.sepc;
  htinst = l.htinst;
}
write_is_legal hideleg c Csr.Satp value l = record {
  vsstatus = l.vsstatus;
  vstvec = l.vstvec;
  vsepc = l.vsepc;
  vsatp = satp_legal c.vsatp value l.vsatp;
  scounteren = l.scounteren;
  hie = l.hie;
  hvip = l.hvip;
  sepc = l.sepc;
  htinst = l.htinst;
}
write_is_legal hideleg c Csr.Sscratch value l = record {
  vsstatus = l.vsstatus;
  vstvec = l.vstvec;
  vsepc = l.vsepc;
  vsatp = l.vsatp;
  scounteren = l.scounteren;
  hie = l.hie;
  hvip = l.hvip;
  sepc = l.sepc;
  htinst = l.htinst;
}
write_is_legal hideleg c Csr.Scause value l = record {
  vsstatus = l.vsstatus;
  vstvec = l.vstvec;
  vsepc = l.vsepc;
  vsatp = l.vsatp;
  scounteren = l.scounteren;
  hie = l.hie;
  hvip = l.hvip;
  sepc = l.sepc;
  htinst = l.htinst;
}
write_is_legal hideleg c Csr.Stval value l = record {
  vsstatus = l.vsstatus;
  vstvec = l.vstvec;
  vsepc = l.vsepc;
  vsatp = l.vsatp;
  scounteren = l.scounteren;
  hie = l.hie;
  hvip = l.hvip;
  sepc = l.sepc;
  htinst = l.htinst;
}
write_is_legal hideleg c Csr.Time value l = l

-- what the legal bits of the guest's status are, and a pc that is a multiple of 4
pub trap_is_legal : (c : HypervisorRegisters) (from : Mode) (pc : ℕ) (interrupt : Bool) (cause tval : ℕ) → IsLegal c → pc % 4 ≡ 0 → pc < 2 ^ 64
    → IsLegal (registers_at_trap c from pc interrupt cause tval)
unfolding registers_at_trap
trap_is_legal c from pc interrupt cause tval l aligned small = record {
  vsstatus = trap_status_legal c.vsstatus from l.vsstatus;
  vstvec = l.vstvec;
  vsepc = aligned_epc pc aligned small;
  vsatp = l.vsatp;
  scounteren = l.scounteren;
  hie = l.hie;
  hvip = l.hvip;
  sepc = l.sepc;
  htinst = l.htinst;
}

pub return_is_legal : (c : HypervisorRegisters) → IsLegal c → IsLegal (registers_at_return c)
unfolding registers_at_return
return_is_legal c l = record {
  vsstatus = return_status_legal c.vsstatus l.vsstatus;
  vstvec = l.vstvec;
  vsepc = l.vsepc;
  vsatp = l.vsatp;
  scounteren = l.scounteren;
  hie = l.hie;
  hvip = l.hvip;
  sepc = l.sepc;
  htinst = l.htinst;
}

target_cases : (base : ℕ) (vectored : Bool) (cause : ℕ) → base % 4 ≡ 0 → (if vectored then (base + 4 * cause) % 2 ^ 64 else base) % 4 ≡ 0
target_cases base true cause e = omega arith
target_cases base false cause e = e

small_cases : (base : ℕ) (vectored : Bool) (cause : ℕ) → base < 2 ^ 64 → (if vectored then (base + 4 * cause) % 2 ^ 64 else base) < 2 ^ 64
small_cases base true cause e = omega arith
small_cases base false cause e = e

-- a target is a multiple of 4
pub target_aligned : (stvec : ℕ) (interrupt : Bool) (cause : ℕ) → trap_target stvec interrupt cause % 4 ≡ 0
unfolding trap_target
target_aligned stvec interrupt cause = target_cases (legal_epc stvec) (interrupt && bit stvec 0) cause (epc_aligned stvec)

-- and a word of 64 bits, where stvec is one
pub target_small : (stvec : ℕ) (interrupt : Bool) (cause : ℕ) → stvec < 2 ^ 64 → trap_target stvec interrupt cause < 2 ^ 64
unfolding trap_target
target_small stvec interrupt cause small = small_cases (legal_epc stvec) (interrupt && bit stvec 0) cause
    (let le = and_le_l stvec (2 ^ 64 - 2 ^ 2) in omega arith)
