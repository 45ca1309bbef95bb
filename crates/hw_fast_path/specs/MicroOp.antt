-- Instructions in a flat form: one operation, its registers and one number. This project's own.
use Rattle.std.specs.Prelude.{ℕ, ◌+◌, ◌/◌, ◌%◌, ◌^◌, ◌==◌, Bool, if◌then◌else◌, ℤ, List, Option, Some, None}
use Rattle.std.specs.Int.{w64, cast_unsigned}
use Rattle.spec_processor.specs.Effects.{effect_of}
use Rattle.spec_processor.specs.Instructions.{instruction_of}
use Rattle.spec_processor.specs.declared.effect.Effect.{Effect}
use Rattle.spec_processor.specs.declared.instruction.Instr.{Instr}
use Rattle.spec_processor.specs.declared.instruction.BranchOp.TheVariants as Branch
use Rattle.spec_processor.specs.declared.instruction.LoadOp.TheVariants as Load
use Rattle.spec_processor.specs.declared.instruction.StoreOp.TheVariants as Store
use Rattle.spec_processor.specs.declared.instruction.OpImmOp.TheVariants as OpImm
use Rattle.spec_processor.specs.declared.instruction.OpImm32Op.TheVariants as OpImm32
use Rattle.spec_processor.specs.declared.instruction.OpOp.TheVariants as Op
use Rattle.spec_processor.specs.declared.instruction.Op32Op.TheVariants as Op32
use Rattle.spec_processor.specs.declared.instruction.CsrOp.TheVariants as Csr
use Rattle.spec_processor.specs.declared.instruction.AmoOp.TheVariants as Amo
use Rattle.hw_fast_path.specs.declared.micro_op_kind.MicroOpKind.{MicroOpKind}
use Rattle.hw_fast_path.specs.declared.micro_op_kind.MicroOpKind.TheVariants as MicroOp

-- what an instruction does, where there is one
abbrev pub effect_of_found : List ℕ → ℕ → Option Instr → Option Effect
effect_of_found registers pc None = None
effect_of_found registers pc (Some instr) = Some (effect_of instr registers pc)

-- what the instruction of a word does
abbrev pub word_effect : ℕ → List ℕ → ℕ → Option Effect
word_effect word registers pc = effect_of_found registers pc (instruction_of word)

-- the number of a register of the system, one of 16 bits, which stands in the place of an immediate
abbrev pub number : ℤ → ℕ
number imm = cast_unsigned w64 imm % 2 ^ 16

-- the width of an atomic operation, and its acquire and release bits, stand in the place of an immediate too: how many
-- values the width has there, and what each bit above it counts
abbrev pub width_values : ℕ
width_values = 16

abbrev pub acquire_unit : ℕ
acquire_unit = 16

abbrev pub release_unit : ℕ
release_unit = 32

abbrev pub width : ℤ → ℕ
width imm = cast_unsigned w64 imm % width_values

abbrev pub acquires : ℤ → Bool
acquires imm = cast_unsigned w64 imm / acquire_unit % 2 == 1

abbrev pub releases : ℤ → Bool
releases imm = cast_unsigned w64 imm / release_unit % 2 == 1

-- all three, packed
abbrev pub order_number : (width : ℕ) → (aq rl : Bool) → ℕ
order_number width aq rl = width + ((if aq then acquire_unit else 0) + (if rl then release_unit else 0))

-- the instruction of a flat form, none for another one. A shift's count stands in the place of rs2
unfoldable pub flat_instr : MicroOpKind → (rd rs1 rs2 : ℕ) → (imm : ℤ) → Option Instr
flat_instr MicroOp.Other rd rs1 rs2 imm = None
flat_instr MicroOp.Lui rd rs1 rs2 imm = Some (Instr.Lui rd imm)
flat_instr MicroOp.Auipc rd rs1 rs2 imm = Some (Instr.Auipc rd imm)
flat_instr MicroOp.Jal rd rs1 rs2 imm = Some (Instr.Jal rd imm)
flat_instr MicroOp.Jalr rd rs1 rs2 imm = Some (Instr.Jalr rd rs1 imm)
flat_instr MicroOp.Fence rd rs1 rs2 imm = Some Instr.Fence
flat_instr MicroOp.FenceI rd rs1 rs2 imm = Some Instr.FenceI
flat_instr MicroOp.Wfi rd rs1 rs2 imm = Some Instr.Wfi
flat_instr MicroOp.SfenceVma rd rs1 rs2 imm = Some (Instr.SfenceVma rs1 rs2)
flat_instr MicroOp.Beq rd rs1 rs2 imm = Some (Instr.Branch Branch.Beq rs1 rs2 imm)
flat_instr MicroOp.Bne rd rs1 rs2 imm = Some (Instr.Branch Branch.Bne rs1 rs2 imm)
flat_instr MicroOp.Blt rd rs1 rs2 imm = Some (Instr.Branch Branch.Blt rs1 rs2 imm)
flat_instr MicroOp.Bge rd rs1 rs2 imm = Some (Instr.Branch Branch.Bge rs1 rs2 imm)
flat_instr MicroOp.Bltu rd rs1 rs2 imm = Some (Instr.Branch Branch.Bltu rs1 rs2 imm)
flat_instr MicroOp.Bgeu rd rs1 rs2 imm = Some (Instr.Branch Branch.Bgeu rs1 rs2 imm)
flat_instr MicroOp.Lb rd rs1 rs2 imm = Some (Instr.Load Load.Lb rd rs1 imm)
flat_instr MicroOp.Lh rd rs1 rs2 imm = Some (Instr.Load Load.Lh rd rs1 imm)
flat_instr MicroOp.Lw rd rs1 rs2 imm = Some (Instr.Load Load.Lw rd rs1 imm)
flat_instr MicroOp.Ld rd rs1 rs2 imm = Some (Instr.Load Load.Ld rd rs1 imm)
flat_instr MicroOp.Lbu rd rs1 rs2 imm = Some (Instr.Load Load.Lbu rd rs1 imm)
flat_instr MicroOp.Lhu rd rs1 rs2 imm = Some (Instr.Load Load.Lhu rd rs1 imm)
flat_instr MicroOp.Lwu rd rs1 rs2 imm = Some (Instr.Load Load.Lwu rd rs1 imm)
flat_instr MicroOp.Sb rd rs1 rs2 imm = Some (Instr.Store Store.Sb rs1 rs2 imm)
flat_instr MicroOp.Sh rd rs1 rs2 imm = Some (Instr.Store Store.Sh rs1 rs2 imm)
flat_instr MicroOp.Sw rd rs1 rs2 imm = Some (Instr.Store Store.Sw rs1 rs2 imm)
flat_instr MicroOp.Sd rd rs1 rs2 imm = Some (Instr.Store Store.Sd rs1 rs2 imm)
flat_instr MicroOp.Addi rd rs1 rs2 imm = Some (Instr.OpImm OpImm.Addi rd rs1 imm rs2)
flat_instr MicroOp.Slti rd rs1 rs2 imm = Some (Instr.OpImm OpImm.Slti rd rs1 imm rs2)
flat_instr MicroOp.Sltiu rd rs1 rs2 imm = Some (Instr.OpImm OpImm.Sltiu rd rs1 imm rs2)
flat_instr MicroOp.Xori rd rs1 rs2 imm = Some (Instr.OpImm OpImm.Xori rd rs1 imm rs2)
flat_instr MicroOp.Ori rd rs1 rs2 imm = Some (Instr.OpImm OpImm.Ori rd rs1 imm rs2)
flat_instr MicroOp.Andi rd rs1 rs2 imm = Some (Instr.OpImm OpImm.Andi rd rs1 imm rs2)
flat_instr MicroOp.Slli rd rs1 rs2 imm = Some (Instr.OpImm OpImm.Slli rd rs1 imm rs2)
flat_instr MicroOp.Srli rd rs1 rs2 imm = Some (Instr.OpImm OpImm.Srli rd rs1 imm rs2)
flat_instr MicroOp.Srai rd rs1 rs2 imm = Some (Instr.OpImm OpImm.Srai rd rs1 imm rs2)
flat_instr MicroOp.Addiw rd rs1 rs2 imm = Some (Instr.OpImm32 OpImm32.Addiw rd rs1 imm rs2)
flat_instr MicroOp.Slliw rd rs1 rs2 imm = Some (Instr.OpImm32 OpImm32.Slliw rd rs1 imm rs2)
flat_instr MicroOp.Srliw rd rs1 rs2 imm = Some (Instr.OpImm32 OpImm32.Srliw rd rs1 imm rs2)
flat_instr MicroOp.Sraiw rd rs1 rs2 imm = Some (Instr.OpImm32 OpImm32.Sraiw rd rs1 imm rs2)
flat_instr MicroOp.Add rd rs1 rs2 imm = Some (Instr.Op Op.Add rd rs1 rs2)
flat_instr MicroOp.Sll rd rs1 rs2 imm = Some (Instr.Op Op.Sll rd rs1 rs2)
flat_instr MicroOp.Slt rd rs1 rs2 imm = Some (Instr.Op Op.Slt rd rs1 rs2)
flat_instr MicroOp.Sltu rd rs1 rs2 imm = Some (Instr.Op Op.Sltu rd rs1 rs2)
flat_instr MicroOp.Xor rd rs1 rs2 imm = Some (Instr.Op Op.Xor rd rs1 rs2)
flat_instr MicroOp.Srl rd rs1 rs2 imm = Some (Instr.Op Op.Srl rd rs1 rs2)
flat_instr MicroOp.Or rd rs1 rs2 imm = Some (Instr.Op Op.Or rd rs1 rs2)
flat_instr MicroOp.And rd rs1 rs2 imm = Some (Instr.Op Op.And rd rs1 rs2)
flat_instr MicroOp.Sub rd rs1 rs2 imm = Some (Instr.Op Op.Sub rd rs1 rs2)
flat_instr MicroOp.Sra rd rs1 rs2 imm = Some (Instr.Op Op.Sra rd rs1 rs2)
flat_instr MicroOp.Mul rd rs1 rs2 imm = Some (Instr.Op Op.Mul rd rs1 rs2)
flat_instr MicroOp.Mulh rd rs1 rs2 imm = Some (Instr.Op Op.Mulh rd rs1 rs2)
flat_instr MicroOp.Mulhsu rd rs1 rs2 imm = Some (Instr.Op Op.Mulhsu rd rs1 rs2)
flat_instr MicroOp.Mulhu rd rs1 rs2 imm = Some (Instr.Op Op.Mulhu rd rs1 rs2)
flat_instr MicroOp.Div rd rs1 rs2 imm = Some (Instr.Op Op.Div rd rs1 rs2)
flat_instr MicroOp.Divu rd rs1 rs2 imm = Some (Instr.Op Op.Divu rd rs1 rs2)
flat_instr MicroOp.Rem rd rs1 rs2 imm = Some (Instr.Op Op.Rem rd rs1 rs2)
flat_instr MicroOp.Remu rd rs1 rs2 imm = Some (Instr.Op Op.Remu rd rs1 rs2)
flat_instr MicroOp.Addw rd rs1 rs2 imm = Some (Instr.Op32 Op32.Addw rd rs1 rs2)
flat_instr MicroOp.Sllw rd rs1 rs2 imm = Some (Instr.Op32 Op32.Sllw rd rs1 rs2)
flat_instr MicroOp.Srlw rd rs1 rs2 imm = Some (Instr.Op32 Op32.Srlw rd rs1 rs2)
flat_instr MicroOp.Subw rd rs1 rs2 imm = Some (Instr.Op32 Op32.Subw rd rs1 rs2)
flat_instr MicroOp.Sraw rd rs1 rs2 imm = Some (Instr.Op32 Op32.Sraw rd rs1 rs2)
flat_instr MicroOp.Mulw rd rs1 rs2 imm = Some (Instr.Op32 Op32.Mulw rd rs1 rs2)
flat_instr MicroOp.Divw rd rs1 rs2 imm = Some (Instr.Op32 Op32.Divw rd rs1 rs2)
flat_instr MicroOp.Divuw rd rs1 rs2 imm = Some (Instr.Op32 Op32.Divuw rd rs1 rs2)
flat_instr MicroOp.Remw rd rs1 rs2 imm = Some (Instr.Op32 Op32.Remw rd rs1 rs2)
flat_instr MicroOp.Remuw rd rs1 rs2 imm = Some (Instr.Op32 Op32.Remuw rd rs1 rs2)
flat_instr MicroOp.Csrrw rd rs1 rs2 imm = Some (Instr.Csr Csr.Csrrw rd rs1 (number imm))
flat_instr MicroOp.Csrrs rd rs1 rs2 imm = Some (Instr.Csr Csr.Csrrs rd rs1 (number imm))
flat_instr MicroOp.Csrrc rd rs1 rs2 imm = Some (Instr.Csr Csr.Csrrc rd rs1 (number imm))
flat_instr MicroOp.Csrrwi rd rs1 rs2 imm = Some (Instr.Csr Csr.Csrrwi rd rs1 (number imm))
flat_instr MicroOp.Csrrsi rd rs1 rs2 imm = Some (Instr.Csr Csr.Csrrsi rd rs1 (number imm))
flat_instr MicroOp.Csrrci rd rs1 rs2 imm = Some (Instr.Csr Csr.Csrrci rd rs1 (number imm))
flat_instr MicroOp.Amoswap rd rs1 rs2 imm = Some (Instr.Amo Amo.Amoswap rd rs1 rs2 (width imm) (acquires imm) (releases imm))
flat_instr MicroOp.Amoadd rd rs1 rs2 imm = Some (Instr.Amo Amo.Amoadd rd rs1 rs2 (width imm) (acquires imm) (releases imm))
flat_instr MicroOp.Amoxor rd rs1 rs2 imm = Some (Instr.Amo Amo.Amoxor rd rs1 rs2 (width imm) (acquires imm) (releases imm))
flat_instr MicroOp.Amoand rd rs1 rs2 imm = Some (Instr.Amo Amo.Amoand rd rs1 rs2 (width imm) (acquires imm) (releases imm))
flat_instr MicroOp.Amoor rd rs1 rs2 imm = Some (Instr.Amo Amo.Amoor rd rs1 rs2 (width imm) (acquires imm) (releases imm))
flat_instr MicroOp.Amomin rd rs1 rs2 imm = Some (Instr.Amo Amo.Amomin rd rs1 rs2 (width imm) (acquires imm) (releases imm))
flat_instr MicroOp.Amomax rd rs1 rs2 imm = Some (Instr.Amo Amo.Amomax rd rs1 rs2 (width imm) (acquires imm) (releases imm))
flat_instr MicroOp.Amominu rd rs1 rs2 imm = Some (Instr.Amo Amo.Amominu rd rs1 rs2 (width imm) (acquires imm) (releases imm))
flat_instr MicroOp.Amomaxu rd rs1 rs2 imm = Some (Instr.Amo Amo.Amomaxu rd rs1 rs2 (width imm) (acquires imm) (releases imm))
