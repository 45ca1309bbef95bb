-- What every effect of an instruction whose fields are in range asks.
use Rattle.std.proofs.Common.{◌≡◌, ℕ, ◌%◌, ◌<◌, ◌==◌, ◌⊎◌, inl, inr, List, Bool, true, false, IsTrue, refl, arith, if◌then◌else◌}
use Rattle.std.proofs.lemmas.Bool.Decides.{nat_tests}
use Rattle.spec_processor.specs.declared.instruction.Instr.{Instr}
use Rattle.spec_processor.specs.declared.instruction.LoadOp.{LoadOp}
use Rattle.spec_processor.specs.declared.instruction.LoadOp.TheVariants.{Lb, Lh, Lw, Ld, Lbu, Lhu, Lwu}
use Rattle.spec_processor.specs.declared.instruction.StoreOp.{StoreOp}
use Rattle.spec_processor.specs.declared.instruction.StoreOp.TheVariants.{Sb, Sh, Sw, Sd}
use Rattle.spec_processor.specs.declared.effect.Effect.TheVariants as Effect
use Rattle.spec_processor.specs.Regions.{IsWidth}
use Rattle.spec_processor.specs.Encoding.{fits, is_width}
use Rattle.spec_processor.specs.Effects.{effect_of, register, plus, even, next_pc, immediate, jump, branch, branch_taken, load_width, store_width}
use Rattle.spec_processor.specs.Requests.{IsRequest}

pub next_aligned : (pc : ℕ) → pc % 4 ≡ 0 → next_pc pc % 4 ≡ 0
next_aligned pc aligned = omega arith

jump_at : (rd link target : ℕ) → rd < 32 → (b : Bool) → (target % 4 == 0) ≡ b → IsRequest (if b then Effect.Set rd link target else Effect.MisalignedJump target)
jump_at rd link target small true aligned = (small, grind (arith, nat_tests))
jump_at rd link target small false misaligned = tt

jump_asks : (rd link target : ℕ) → rd < 32 → IsRequest (jump rd link target)
jump_asks rd link target small = jump_at rd link target small (target % 4 == 0) refl

branch_asks : (taken : Bool) (target next : ℕ) → next % 4 ≡ 0 → IsRequest (branch taken target next)
branch_asks true target next aligned = jump_asks 0 0 target (omega arith)
branch_asks false target next aligned = (omega arith, aligned)

pub load_asks : (op : LoadOp) → IsWidth (load_width op)
unfolding load_width
load_asks Lb = inl refl
load_asks Lh = inr (inl refl)
load_asks Lw = inr (inr (inl refl))
load_asks Ld = inr (inr (inr refl))
load_asks Lbu = inl refl
load_asks Lhu = inr (inl refl)
load_asks Lwu = inr (inr (inl refl))

pub store_asks : (op : StoreOp) → IsWidth (store_width op)
unfolding store_width
store_asks Sb = inl refl
store_asks Sh = inr (inl refl)
store_asks Sw = inr (inr (inl refl))
store_asks Sd = inr (inr (inr refl))

pub four_or_eight : (width : ℕ) → IsTrue (is_width width) → (width ≡ 4) ⊎ (width ≡ 8)
four_or_eight width fit = grind (arith, nat_tests)

memory_width : (width : ℕ) → (width ≡ 4) ⊎ (width ≡ 8) → IsWidth width
memory_width width (inl four) = inr (inr (inl four))
memory_width width (inr eight) = inr (inr (inr eight))

pub is_request : (instr : Instr) (registers : List ℕ) (pc : ℕ) → IsTrue (fits instr) → pc % 4 ≡ 0 → IsRequest (effect_of instr registers pc)
unfolding fits effect_of
is_request (Instr.Lui rd imm) registers pc fit aligned = (grind (arith, nat_tests), next_aligned pc aligned)
is_request (Instr.Auipc rd imm) registers pc fit aligned = (grind (arith, nat_tests), next_aligned pc aligned)
is_request (Instr.Jal rd imm) registers pc fit aligned = jump_asks rd (next_pc pc) (plus pc (immediate imm)) (grind (arith, nat_tests))
is_request (Instr.Jalr rd rs1 imm) registers pc fit aligned =
    jump_asks rd (next_pc pc) (even (plus (register registers rs1) (immediate imm))) (grind (arith, nat_tests))
is_request (Instr.Branch op rs1 rs2 imm) registers pc fit aligned =
    branch_asks (branch_taken op (register registers rs1) (register registers rs2)) (plus pc (immediate imm)) (next_pc pc) (next_aligned pc aligned)
is_request (Instr.Load op rd rs1 imm) registers pc fit aligned = (grind (arith, nat_tests), load_asks op)
is_request (Instr.Store op rs1 rs2 imm) registers pc fit aligned = store_asks op
is_request (Instr.OpImm op rd rs1 imm shamt) registers pc fit aligned = (grind (arith, nat_tests), next_aligned pc aligned)
is_request (Instr.OpImm32 op rd rs1 imm shamt) registers pc fit aligned = (grind (arith, nat_tests), next_aligned pc aligned)
is_request (Instr.Op op rd rs1 rs2) registers pc fit aligned = (grind (arith, nat_tests), next_aligned pc aligned)
is_request (Instr.Op32 op rd rs1 rs2) registers pc fit aligned = (grind (arith, nat_tests), next_aligned pc aligned)
is_request Instr.Fence registers pc fit aligned = tt
is_request Instr.FenceI registers pc fit aligned = tt
is_request Instr.Ecall registers pc fit aligned = tt
is_request Instr.Ebreak registers pc fit aligned = tt
is_request Instr.Sret registers pc fit aligned = tt
is_request Instr.Wfi registers pc fit aligned = tt
is_request (Instr.SfenceVma rs1 rs2) registers pc fit aligned = tt
is_request (Instr.Csr op rd rs1 csr) registers pc fit aligned = grind (arith, nat_tests)
is_request (Instr.Lr rd rs1 width aq rl) registers pc fit aligned =
    (grind (arith, nat_tests), memory_width width (four_or_eight width (grind (arith, nat_tests))))
is_request (Instr.Sc rd rs1 rs2 width aq rl) registers pc fit aligned =
    (grind (arith, nat_tests), memory_width width (four_or_eight width (grind (arith, nat_tests))))
is_request (Instr.Amo op rd rs1 rs2 width aq rl) registers pc fit aligned =
    let width_is : (width ≡ 4) ⊎ (width ≡ 8) = four_or_eight width (grind (arith, nat_tests)) in
    (grind (arith, nat_tests), (width_is, memory_width width width_is))
is_request (Instr.Hyper op rd rs1 rs2) registers pc fit aligned = tt
