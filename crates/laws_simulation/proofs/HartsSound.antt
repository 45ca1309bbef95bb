-- Sound harts after what a turn sets in one.
use Rattle.std.proofs.Common.{◌≡◌, ℕ, zero, suc, ◌+◌, ◌-◌, ◌%◌, ◌^◌, ◌<◌, ◌≤◌, List, [], ◌∷◌, ◌++◌, length, refl, ◌∙◌, ap, subst, Bool, true, false, ◌||◌, arith, lit<, bit_and}
use Rattle.std.specs.Prelude.{Option, Some, None, option_map, slice_get, if◌then◌else◌, ◌==◌, IsTrue}
use Rattle.spec_processor.specs.Traps.{trap_target, mode_at_return}
use Rattle.std.proofs.lemmas.Bool.{eqb-true}
use Rattle.std.proofs.lemmas.Nat.{and_le_r}
use Rattle.spec_processor.specs.Effects.{next_pc, effect_of, even, plus, branch_taken, register, immediate}
use Rattle.sv_types.specs.Policies.{Rules, rules_within, each_within, entry_within, numbers_within, entries_count_within, entries_within}
use Rattle.sv_types.specs.Policies.{exports_count_within, exports_within, lists_within, bound_within, init_within, modules_count_within}
use Rattle.sv_types.specs.Policies.{modules_within}
use Rattle.spec_processor.specs.Registers.{IsLegalSupervisor, write_csr}
use Rattle.spec_processor.specs.declared.csr.Csr.{Csr}
use Rattle.spec_processor.specs.declared.effect.Effect.{Effect}
use Rattle.spec_processor.specs.declared.instruction.Instr.{Instr}
use Rattle.spec_processor.specs.declared.mode.Mode.{Mode}
use Rattle.spec_processor.specs.declared.mode.Mode.TheVariants.{Kernel, User}
use Rattle.laws_processor.proofs.GuestViews.{guest_write_is_legal, guest_trap_is_legal, guest_return_is_legal}
use Rattle.laws_processor.proofs.RegisterBits.{target_aligned, target_small, epc_aligned}
use Rattle.laws_processor.proofs.EffectRequests.{next_aligned}
use Rattle.spec_reference.specs.States.{Hart, Binding, binding_of, binding_at, place_of_entry, has_number}
use Rattle.spec_reference.specs.Trapping.{hart_at_trap, hart_at_return, entry_at_trap, entry_in}
use Rattle.spec_reference.specs.Calls.{hart_at, stopped_hart, interrupt_harts, with_software, supervisor_at_boot}
use Rattle.spec_reference.specs.Soundness.{IsSoundHart, IsSoundEntry}
use Rattle.laws_simulation.proofs.Lookups.{both, second_of}
use Rattle.laws_simulation.proofs.Sounds.{AreSound}
use Rattle.sv_types.proofs.TruthValues.{and_first, and_second}

word_below : (n : ℕ) → n % 2 ^ 64 < 2 ^ 64
word_below n = omega arith

masked_below : (value mask : ℕ) → mask < 2 ^ 64 → bit_and value mask ≡ value → value < 2 ^ 64
masked_below value mask small e = let le : bit_and value mask ≤ mask = and_le_r value mask in omega arith

-- ---- going on

-- a hart at a pc that is a multiple of 4, with other registers and another reservation
pub at_pc : {rules : Rules} (hart : Hart) (registers : List ℕ) (pc : ℕ) (reservation : Option ℕ) → IsSoundHart rules hart → pc % 4 ≡ 0 → pc < 2 ^ 64
    → IsSoundHart rules (record hart { registers = registers; pc = pc; reservation = reservation })
at_pc hart registers pc reservation k aligned small = record {
  aligned = aligned;
  small = small;
  legal = k.legal;
  entry = k.entry;
  stopped = λ off. record { mode = (k.stopped off).mode; entry = (k.stopped off).entry };
}

-- after its instruction
pub goes_after : {rules : Rules} (hart : Hart) (registers : List ℕ) (reservation : Option ℕ) → IsSoundHart rules hart
    → IsSoundHart rules (record hart { registers = registers; pc = next_pc hart.pc; reservation = reservation })
goes_after hart registers reservation k = at_pc hart registers (next_pc hart.pc) reservation k (next_aligned hart.pc k.aligned) (word_below (hart.pc + 4))

-- where it stands
pub stays_there : {rules : Rules} (hart : Hart) (reservation : Option ℕ) → IsSoundHart rules hart → IsSoundHart rules (record hart { reservation = reservation })
stays_there hart reservation k = record {
  aligned = k.aligned;
  small = k.small;
  legal = k.legal;
  entry = k.entry;
  stopped = λ off. record { mode = (k.stopped off).mode; entry = (k.stopped off).entry };
}

-- a register access
pub csr_sound : {rules : Rules} (hart : Hart) (csr : Csr) (value : ℕ) (writes : Bool) → IsSoundHart rules hart
    → IsSoundHart rules (if writes then record hart { supervisor = write_csr hart.supervisor csr value } else hart)
csr_sound hart csr value true k = record {
  aligned = k.aligned;
  small = k.small;
  legal = guest_write_is_legal hart.supervisor csr value k.legal;
  entry = k.entry;
  stopped = λ off. record { mode = (k.stopped off).mode; entry = (k.stopped off).entry };
}
csr_sound hart csr value false k = k

-- ---- traps and their return

-- the place of an entry is one where an entry is bound
abbrev pub IsBoundAt : (entries bound : List ℕ) → ℕ → Type 0
IsBoundAt entries bound i = (entry : Binding) × (binding_of (slice_get entries i) (slice_get bound i) ≡ Some entry)

place_after : (entries bound : List ℕ) (first gpa i : ℕ) (x : Option ℕ) → ((k : ℕ) → x ≡ Some k → IsBoundAt entries bound k) → option_map suc x ≡ Some i
    → IsBoundAt (first ∷ entries) (gpa ∷ bound) i
place_after entries bound first gpa i None found e = absurd (cc)
place_after entries bound first gpa zero (Some k) found e = absurd (cc)
place_after entries bound first gpa (suc i) (Some k) found e = let same : k ≡ i = cc in found i (ap Some same)

place_by : (entries bound : List ℕ) (first gpa va i : ℕ) (b : Bool) → ((k : ℕ) → place_of_entry entries bound va ≡ Some k → IsBoundAt entries bound k)
    → (if b then Some 0 else option_map suc (place_of_entry entries bound va)) ≡ Some i → IsBoundAt (first ∷ entries) (gpa ∷ bound) i
place_by entries bound first gpa va zero true found e = (record { va = first; gpa = gpa }, refl)
place_by entries bound first gpa va (suc i) true found e = absurd (cc)
place_by entries bound first gpa va i false found e = place_after entries bound first gpa i (place_of_entry entries bound va) found e

place_bound : (entries bound : List ℕ) (va i : ℕ) → place_of_entry entries bound va ≡ Some i → IsBoundAt entries bound i
unfolding place_of_entry
place_bound [] bound va i e = absurd (cc)
place_bound (first ∷ entries) [] va i e = absurd (cc)
place_bound (first ∷ entries) (gpa ∷ bound) va i e = place_by entries bound first gpa va i (first == va) (place_bound entries bound va) e

-- an entry is bound, whatever it comes from
sound_place : (rules : Rules) (x : Option ℕ) → ((i : ℕ) → x ≡ Some i → (entry : Binding) × (binding_at rules i ≡ Some entry)) → IsSoundEntry rules Kernel x
sound_place rules None found = tt
sound_place rules (Some i) found = found i refl

entry_found : (rules : Rules) (va i : ℕ) → place_of_entry rules.entries rules.bound va ≡ Some i → (entry : Binding) × (binding_at rules i ≡ Some entry)
unfolding binding_at
entry_found rules va i e = place_bound rules.entries rules.bound va i e

pub kernel_entry : (rules : Rules) (mode : Mode) (entry : Option ℕ) → IsSoundEntry rules mode entry → IsSoundEntry rules Kernel entry
kernel_entry rules mode None sound = tt
kernel_entry rules Kernel (Some i) sound = sound
kernel_entry rules User (Some i) sound = absurd sound

entry_at_trap_sound : (rules : Rules) (from mode : Mode) (entry : Option ℕ) (target : ℕ) → IsSoundEntry rules mode entry → IsSoundEntry rules Kernel (entry_at_trap rules from entry target)
entry_at_trap_sound rules Kernel mode entry target sound = kernel_entry rules mode entry sound
entry_at_trap_sound rules User mode entry target sound = sound_place rules (place_of_entry rules.entries rules.bound target) (entry_found rules target)

entry_in_sound : (rules : Rules) (to mode : Mode) (entry : Option ℕ) → IsSoundEntry rules mode entry → IsSoundEntry rules to (entry_in to entry)
entry_in_sound rules Kernel mode entry sound = kernel_entry rules mode entry sound
entry_in_sound rules User mode entry sound = tt

pub trap_sound : (rules : Rules) (hart : Hart) (interrupt : Bool) (cause tval : ℕ) → IsSoundHart rules hart → IsSoundHart rules (hart_at_trap rules hart hart.mode interrupt cause tval)
unfolding hart_at_trap
trap_sound rules hart interrupt cause tval k = record {
  aligned = target_aligned hart.supervisor.stvec interrupt cause;
  small = target_small hart.supervisor.stvec interrupt cause (masked_below hart.supervisor.stvec (2 ^ 64 - 1 - 2 ^ 1) (lit< tt) k.legal.stvec);
  legal = guest_trap_is_legal hart.supervisor hart.mode hart.pc interrupt cause tval k.legal k.aligned k.small;
  entry = entry_at_trap_sound rules hart.mode hart.mode hart.entry (trap_target hart.supervisor.stvec interrupt cause) k.entry;
  stopped = λ off. record {
    mode = refl;
    entry = ap (λ (m : Mode). entry_at_trap rules m hart.entry (trap_target hart.supervisor.stvec interrupt cause)) (k.stopped off).mode ∙ (k.stopped off).entry;
  };
}

pub return_sound : (rules : Rules) (hart : Hart) → hart.started ≡ true → IsSoundHart rules hart → IsSoundHart rules (hart_at_return hart)
unfolding hart_at_return
return_sound rules hart on k = record {
  aligned = subst (λ (n : ℕ). n % 4 ≡ 0) k.legal.sepc (epc_aligned hart.supervisor.sepc);
  small = masked_below hart.supervisor.sepc (2 ^ 64 - 2 ^ 2) (lit< tt) k.legal.sepc;
  legal = guest_return_is_legal hart.supervisor k.legal;
  entry = entry_in_sound rules (mode_at_return hart.supervisor.sstatus) hart.mode hart.entry k.entry;
  stopped = λ off. absurd (both hart.started on off);
}

pub demoted_sound : {rules : Rules} (hart : Hart) → hart.started ≡ true → IsSoundHart rules hart → IsSoundHart rules (record hart { mode = User; reservation = None; entry = None })
demoted_sound hart on k = record { aligned = k.aligned; small = k.small; legal = k.legal; entry = tt; stopped = λ off. absurd (both hart.started on off) }

-- ---- starts and stops

boot_legal : IsLegalSupervisor supervisor_at_boot
boot_legal = record { sstatus = refl; sie = refl; stvec = refl; scounteren = refl; sepc = refl; satp = refl }

pub begin_sound : {rules : Rules} (pc : ℕ) (registers : List ℕ) → pc % 4 ≡ 0 → pc < 2 ^ 64 → IsSoundHart rules (hart_at pc registers)
unfolding hart_at
begin_sound pc registers aligned small = record { aligned = aligned; small = small; legal = boot_legal; entry = tt; stopped = λ e. record { mode = refl; entry = refl } }

pub stopped_sound : {rules : Rules} → IsSoundHart rules stopped_hart
unfolding stopped_hart hart_at
stopped_sound = record { aligned = refl; small = lit< tt; legal = boot_legal; entry = tt; stopped = λ e. record { mode = refl; entry = refl } }

pub stop_sound : {rules : Rules} (hart : Hart) → hart.mode ≡ Kernel → IsSoundHart rules hart → IsSoundHart rules (record hart { started = false; reservation = None; entry = None })
stop_sound hart kernel k = record { aligned = k.aligned; small = k.small; legal = k.legal; entry = tt; stopped = λ e. record { mode = kernel; entry = refl } }

aligned_among : (before entries : List ℕ) (entry : ℕ) → each_within (λ (b : List ℕ) (e : ℕ). entry_within e) before entries ≡ true → has_number entries entry ≡ true → entry % 4 ≡ 0
aligned_among before [] entry within e = cc
aligned_among before (x ∷ entries) entry within e =
    entry_by x entries entry (x == entry) refl (eqb-true (x % 4) 0 (and_first (entry_within x) (each_within (λ (b : List ℕ) (n : ℕ). entry_within n) (before ++ x ∷ []) entries) within)) e
    (aligned_among (before ++ x ∷ []) entries entry (and_second (entry_within x) (each_within (λ (b : List ℕ) (n : ℕ). entry_within n) (before ++ x ∷ []) entries) within))
  where
    entry_by : (x : ℕ) (entries : List ℕ) (entry : ℕ) (b : Bool) → (x == entry) ≡ b → x % 4 ≡ 0 → (b || has_number entries entry) ≡ true
        → (has_number entries entry ≡ true → entry % 4 ≡ 0) → entry % 4 ≡ 0
    entry_by x entries entry true at aligned e more = subst (λ (n : ℕ). n % 4 ≡ 0) (eqb-true x entry at) aligned
    entry_by x entries entry false at aligned e more = more e

-- a permitted entry is an instruction's address
pub entry_aligned : (rules : Rules) (entry : ℕ) → IsTrue (rules_within rules) → has_number rules.entries entry ≡ true → entry % 4 ≡ 0
entry_aligned rules entry within e =
    let lists = second_of (numbers_within rules) (lists_within rules) (init_within rules.ram_pages rules.init) (modules_count_within (length rules.modules))
    (modules_within (length rules.exports) rules.modules) within in
    aligned_among [] rules.entries entry
    (second_of (entries_count_within (length rules.entries)) (entries_within rules.entries) (exports_count_within (length rules.exports)) (exports_within rules.exports) (bound_within rules) lists) e

-- ---- software interrupts

interrupt_sound : {rules : Rules} (named : Bool) (hart : Hart) → IsSoundHart rules hart → IsSoundHart rules (if named then with_software hart else hart)
interrupt_sound true hart k = record {
  aligned = k.aligned;
  small = k.small;
  legal = record { sstatus = k.legal.sstatus; sie = k.legal.sie; stvec = k.legal.stvec; scounteren = k.legal.scounteren; sepc = k.legal.sepc; satp = k.legal.satp };
  entry = k.entry;
  stopped = λ off. record { mode = (k.stopped off).mode; entry = (k.stopped off).entry };
}
interrupt_sound false hart k = k

pub all_interrupted : {rules : Rules} (named : ℕ → Bool) (first : ℕ) (harts : List Hart) → AreSound rules harts → AreSound rules (interrupt_harts named first harts)
unfolding interrupt_harts
all_interrupted named first [] all k hart e = cc
all_interrupted named first (x ∷ harts) all zero hart e =
    let same : (if named first then with_software x else x) ≡ hart = cc in
    subst (IsSoundHart _) same (interrupt_sound (named first) x (all zero x refl))
all_interrupted named first (x ∷ harts) all (suc k) hart e = all_interrupted named (first + 1) harts (λ i y at. all (suc i) y at) k hart e

pub length_interrupted : (named : ℕ → Bool) (first : ℕ) (harts : List Hart) → length (interrupt_harts named first harts) ≡ length harts
unfolding interrupt_harts
length_interrupted named first [] = refl
length_interrupted named first (x ∷ harts) = ap suc (length_interrupted named (first + 1) harts)

-- ---- where an instruction goes

-- what an effect sets the pc to is an instruction's address
abbrev pub GoesRight : Effect → Type 0
GoesRight (Effect.Set rd value next) = (next % 4 ≡ 0) × (next < 2 ^ 64)
GoesRight _ = Unit {0}

jump_right : (rd link target : ℕ) (b : Bool) → (target % 4 == 0) ≡ b → target < 2 ^ 64 → GoesRight (if b then Effect.Set rd link target else Effect.MisalignedJump target)
jump_right rd link target true aligned small = (eqb-true (target % 4) 0 aligned, small)
jump_right rd link target false aligned small = tt

branch_right : (taken : Bool) (target next : ℕ) → target < 2 ^ 64 → (next % 4 ≡ 0) × (next < 2 ^ 64)
    → GoesRight (if taken then (if target % 4 == 0 then Effect.Set 0 0 target else Effect.MisalignedJump target) else Effect.Set 0 0 next)
branch_right true target next small after = jump_right 0 0 target (target % 4 == 0) refl small
branch_right false target next small after = after

even_below : (n : ℕ) → n < 2 ^ 64 → even n < 2 ^ 64
even_below n small = omega arith

pub effects_right : (i : Instr) (registers : List ℕ) (pc : ℕ) → pc % 4 ≡ 0 → GoesRight (effect_of i registers pc)
unfolding effect_of
effects_right (Instr.Lui rd imm) registers pc e = (next_aligned pc e, word_below (pc + 4))
effects_right (Instr.Auipc rd imm) registers pc e = (next_aligned pc e, word_below (pc + 4))
effects_right (Instr.Jal rd imm) registers pc e = jump_right rd (next_pc pc) (plus pc (immediate imm)) (plus pc (immediate imm) % 4 == 0) refl (word_below (pc + immediate imm))
effects_right (Instr.Jalr rd rs1 imm) registers pc e =
    jump_right rd (next_pc pc) (even (plus (register registers rs1) (immediate imm))) (even (plus (register registers rs1) (immediate imm)) % 4 == 0) refl
    (even_below (plus (register registers rs1) (immediate imm)) (word_below (register registers rs1 + immediate imm)))
effects_right (Instr.Branch op rs1 rs2 imm) registers pc e =
    branch_right (branch_taken op (register registers rs1) (register registers rs2)) (plus pc (immediate imm)) (next_pc pc) (word_below (pc + immediate imm)) (next_aligned pc e, word_below (pc + 4))
effects_right (Instr.Load op rd rs1 imm) registers pc e = tt
effects_right (Instr.Store op rs1 rs2 imm) registers pc e = tt
effects_right (Instr.OpImm op rd rs1 imm shamt) registers pc e = (next_aligned pc e, word_below (pc + 4))
effects_right (Instr.OpImm32 op rd rs1 imm shamt) registers pc e = (next_aligned pc e, word_below (pc + 4))
effects_right (Instr.Op op rd rs1 rs2) registers pc e = (next_aligned pc e, word_below (pc + 4))
effects_right (Instr.Op32 op rd rs1 rs2) registers pc e = (next_aligned pc e, word_below (pc + 4))
effects_right Instr.Fence registers pc e = tt
effects_right Instr.FenceI registers pc e = tt
effects_right Instr.Ecall registers pc e = tt
effects_right Instr.Ebreak registers pc e = tt
effects_right Instr.Sret registers pc e = tt
effects_right Instr.Wfi registers pc e = tt
effects_right (Instr.SfenceVma rs1 rs2) registers pc e = tt
effects_right (Instr.Csr op rd rs1 number) registers pc e = tt
effects_right (Instr.Lr rd rs1 width aq rl) registers pc e = tt
effects_right (Instr.Sc rd rs1 rs2 width aq rl) registers pc e = tt
effects_right (Instr.Amo op rd rs1 rs2 width aq rl) registers pc e = tt
effects_right (Instr.Hyper op rd rs1 rs2) registers pc e = tt
