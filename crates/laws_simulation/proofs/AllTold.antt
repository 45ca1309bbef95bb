-- What is known of each word: the transformed instruction is the same access, and SRET is SRET.
use Rattle.std.proofs.Common.{◌≡◌, ℕ, ◌/◌, ◌%◌, ◌^◌, refl, sym, ◌∙◌, ap, subst, Bool, true, false, arith}
use Rattle.std.specs.Prelude.{Some, ◌==◌, bit_and, if◌then◌else◌}
use Rattle.std.specs.Option.{option_map}
use Rattle.std.proofs.lemmas.Bool.{eqb-true}
use Rattle.std.proofs.lemmas.Nat.{and_assoc, and_mask, and_shr}
use Rattle.spec_processor.specs.Effects.{effect_of, register, load_width, load_signed, store_width, plus, immediate, branch_taken, branch}
use Rattle.spec_processor.specs.HardwareMemory.{load_htinst, store_htinst, atomic_htinst, implicit_read}
use Rattle.spec_processor.specs.Instructions.{bits, rs1, imm_i, imm_s, instruction_of, load, store}
use Rattle.spec_processor.specs.declared.effect.Effect.{Effect}
use Rattle.spec_processor.specs.declared.instruction.Instr.{Instr}
use Rattle.spec_processor.specs.declared.instruction.LoadOp.{LoadOp}
use Rattle.spec_processor.specs.declared.instruction.StoreOp.{StoreOp}
use Rattle.laws_processor.proofs.Decoding.{found}
use Rattle.laws_processor.proofs.EffectRequests.{load_asks, store_asks}
use Rattle.spec_reference.specs.States.{Hart}
use Rattle.spec_hardware.specs.Served.{transformed_effect, is_sret}
use Rattle.laws_simulation.proofs.LoadsAgree.{IsLoad}
use Rattle.laws_simulation.proofs.StoresAgree.{IsStore}
use Rattle.laws_simulation.proofs.AtomicsAgree.{IsAtomicWord}
use Rattle.laws_simulation.proofs.EffectsAgree.{IsTold}
use Rattle.laws_simulation.proofs.AttemptsAgree.{AllTold}
use Rattle.laws_simulation.proofs.WordsTell.{LoadTells, StoreTells, AtomicTells, Tells, instruction_tells}

-- ---- no implicit read

explicit_by : (x value opcode : ℕ) (b : Bool) → (x == implicit_read) ≡ b → bit_and x 0x707F ≡ value → value % 128 ≡ opcode → (0 ≡ opcode → ⊥) → b ≡ false
explicit_by x value opcode false e fits low other = refl
explicit_by x value opcode true e fits low other =
    let same : x ≡ 0x3000 = eqb-true x 0x3000 e in
    let v : 0x3000 ≡ value = subst (λ (y : ℕ). bit_and y 0x707F ≡ value) same fits in
    absurd (other (subst (λ (y : ℕ). y % 128 ≡ opcode) (sym v) low))

atomic_by : (x mask value : ℕ) (b : Bool) → (x == implicit_read) ≡ b → bit_and x mask ≡ value → bit_and mask 0x7F ≡ 0x7F → bit_and value 0x7F ≡ 0x2F → b ≡ false
atomic_by x mask value false e fits low opcode = refl
atomic_by x mask value true e fits low opcode =
    let same : x ≡ 0x3000 = eqb-true x 0x3000 e in
    let v : bit_and 0x3000 mask ≡ value = subst (λ (y : ℕ). bit_and y mask ≡ value) same fits in
    let cut : bit_and (bit_and 0x3000 mask) 0x7F ≡ bit_and 0x3000 (bit_and mask 0x7F) = and_assoc 0x7F 0x3000 mask in
    let none : 0 ≡ 0x2F = sym (ap (bit_and 0x3000) low) ∙ sym cut ∙ ap (λ (y : ℕ). bit_and y 0x7F) v ∙ opcode in
    cc

-- ---- fields of the transformed instruction

rd_kept : (w : ℕ) → bits (load_htinst w) 7 12 ≡ bits w 7 12
rd_kept w = let e : bit_and w 0x7FFF ≡ w % 2 ^ 15 = and_mask w 15 in rw e (omega arith)

rs2_kept : (w : ℕ) → bits (store_htinst w) 20 25 ≡ bits w 20 25
rs2_kept w =
    let e : bit_and w 0x01F0707F / 2 ^ 20 ≡ bit_and (w / 2 ^ 20) 31 = and_shr w 0x01F0707F 20 in
    let k : bit_and (w / 2 ^ 20) 31 ≡ w / 2 ^ 20 % 2 ^ 5 = and_mask (w / 2 ^ 20) 5 in
    rw (e, k) (omega arith)

-- ---- loads, stores and atomic operations

effect_given : (hart : Hart) (x : ℕ) (i : Instr) → instruction_of x ≡ Some i → transformed_effect x hart.registers hart.pc ≡ Some (effect_of i hart.registers hart.pc)
unfolding transformed_effect
effect_given hart x i e = ap (option_map (λ instr. effect_of instr hart.registers hart.pc)) e

told_load : (hart : Hart) (w : ℕ) (op : LoadOp) (rd : ℕ) → LoadTells w op → rd ≡ bits w 7 12 → IsLoad (load_htinst w) hart rd (load_width op) (load_signed op)
unfolding effect_of
told_load hart w op rd tells same =
    let fits : bit_and (load_htinst w) 0x707F ≡ tells.value = and_assoc 0x707F w 0x7FFF ∙ tells.fits in
    let given = effect_given hart (load_htinst w) (load op (load_htinst w)) (found (load_htinst w) 0x707F tells.value (load op) fits tells.only) in
    record {
      address = plus (register hart.registers (rs1 (load_htinst w))) (immediate (imm_i (load_htinst w)));
      effect = given ∙
          ap (λ (n : ℕ). Some (Effect.Load n (plus (register hart.registers (rs1 (load_htinst w))) (immediate (imm_i (load_htinst w)))) (load_width op) (load_signed op))) (rd_kept w ∙ sym same);
      explicit = explicit_by (load_htinst w) tells.value 0x03 (load_htinst w == implicit_read) refl fits tells.opcode (λ e. cc);
    }

told_store : (hart : Hart) (w : ℕ) (op : StoreOp) (rs2 : ℕ) → StoreTells w op → rs2 ≡ bits w 20 25 → IsStore (store_htinst w) hart (store_width op) (register hart.registers rs2)
unfolding effect_of
told_store hart w op rs2 tells same =
    let fits : bit_and (store_htinst w) 0x707F ≡ tells.value = and_assoc 0x707F w 0x01F0707F ∙ tells.fits in
    let given = effect_given hart (store_htinst w) (store op (store_htinst w)) (found (store_htinst w) 0x707F tells.value (store op) fits tells.only) in
    record {
      address = plus (register hart.registers (rs1 (store_htinst w))) (immediate (imm_s (store_htinst w)));
      effect = given ∙
          ap (λ (n : ℕ). Some (Effect.Store (plus (register hart.registers (rs1 (store_htinst w))) (immediate (imm_s (store_htinst w)))) (store_width op)
          (register hart.registers n))) (rs2_kept w ∙ sym same);
      explicit = explicit_by (store_htinst w) tells.value 0x23 (store_htinst w == implicit_read) refl fits tells.opcode (λ e. cc);
    }

told_atomic : (hart : Hart) (w : ℕ) → AtomicTells w → IsAtomicWord (atomic_htinst w) hart
told_atomic hart w tells =
    let fits : bit_and (atomic_htinst w) tells.mask ≡ tells.value = and_assoc tells.mask w 0xFFF07FFF ∙ ap (bit_and w) tells.kept ∙ tells.fits in
    record {
      effect = effect_of (tells.form (atomic_htinst w)) hart.registers hart.pc;
      atomic = tells.atomic hart.registers hart.pc (atomic_htinst w);
      same = effect_given hart (atomic_htinst w) (tells.form (atomic_htinst w)) (found (atomic_htinst w) tells.mask tells.value tells.form fits tells.only);
      explicit = atomic_by (atomic_htinst w) tells.mask tells.value (atomic_htinst w == implicit_read) refl fits tells.low tells.opcode;
    }

-- ---- jumps

jump_told : (hart : Hart) (w rd link target : ℕ) (b : Bool) → IsTold w hart (if b then Effect.Set rd link target else Effect.MisalignedJump target)
jump_told hart w rd link target true = tt
jump_told hart w rd link target false = tt

branch_told : (hart : Hart) (w target next : ℕ) (taken : Bool) → IsTold w hart (branch taken target next)
branch_told hart w target next true = jump_told hart w 0 0 target (target % 4 == 0)
branch_told hart w target next false = tt

-- ---- all instructions

told_by : (hart : Hart) (w : ℕ) (i : Instr) → instruction_of w ≡ Some i → Tells w i → IsTold w hart (effect_of i hart.registers hart.pc)
unfolding effect_of is_sret
told_by hart w (Instr.Lui rd imm) e tells = tt
told_by hart w (Instr.Auipc rd imm) e tells = tt
told_by hart w (Instr.Jal rd imm) e tells = jump_told hart w rd _ (plus hart.pc (immediate imm)) (plus hart.pc (immediate imm) % 4 == 0)
told_by hart w (Instr.Jalr rd rs1 imm) e tells = jump_told hart w rd _ _ _
told_by hart w (Instr.Branch op rs1 rs2 imm) e tells = branch_told hart w _ _ (branch_taken op (register hart.registers rs1) (register hart.registers rs2))
told_by hart w (Instr.Load op rd rs1 imm) e tells = (told_load hart w op rd tells.0 tells.1, load_asks op)
told_by hart w (Instr.Store op rs1 rs2 imm) e tells = (told_store hart w op rs2 tells.0 tells.1, store_asks op)
told_by hart w (Instr.OpImm op rd rs1 imm shamt) e tells = tt
told_by hart w (Instr.OpImm32 op rd rs1 imm shamt) e tells = tt
told_by hart w (Instr.Op op rd rs1 rs2) e tells = tt
told_by hart w (Instr.Op32 op rd rs1 rs2) e tells = tt
told_by hart w Instr.Fence e tells = tt
told_by hart w Instr.FenceI e tells = tt
told_by hart w Instr.Ecall e tells = tt
told_by hart w Instr.Ebreak e tells = tt
told_by hart w Instr.Sret e tells = rw e refl
told_by hart w Instr.Wfi e tells = rw e refl
told_by hart w (Instr.SfenceVma rs1 rs2) e tells = rw e refl
told_by hart w (Instr.Csr op rd rs1 number) e tells = rw e refl
told_by hart w (Instr.Lr rd rs1 width aq rl) e tells = (told_atomic hart w tells.0, tells.1)
told_by hart w (Instr.Sc rd rs1 rs2 width aq rl) e tells = (told_atomic hart w tells.0, tells.1)
told_by hart w (Instr.Amo op rd rs1 rs2 width aq rl) e tells = (told_atomic hart w tells.0, tells.1)
told_by hart w (Instr.Hyper op rd rs1 rs2) e tells = rw e refl

pub all_told : (hart : Hart) → AllTold hart
all_told hart w i e = told_by hart w i e (instruction_tells w i e)
