-- The word of an instruction, and which instructions have one.
-- RISC-V Unprivileged manual, "RV32/64G Instruction Set Listings" and "Immediate Encoding Variants"; Privileged
-- manual, "RISC-V Privileged Instruction Set Listings".
use Rattle.std.specs.Prelude.{ℕ, ◌+◌, ◌-◌, ◌*◌, ◌%◌, ◌^◌, ◌==◌, ◌&&◌, ◌||◌, if◌then◌else◌, Bool, true, false, ℤ, pos, neg_ℤ, nat_lt, int_lt}
use Rattle.std.specs.Prelude.{int_le, unsigned_abs}
use Rattle.std.specs.Int.{w64, cast_unsigned, from_bool}
use Rattle.spec_processor.specs.declared.instruction.Instr.{Instr}
use Rattle.spec_processor.specs.declared.instruction.BranchOp.{BranchOp}
use Rattle.spec_processor.specs.declared.instruction.BranchOp.TheVariants.{Beq, Bne, Blt, Bge, Bltu, Bgeu}
use Rattle.spec_processor.specs.declared.instruction.LoadOp.{LoadOp}
use Rattle.spec_processor.specs.declared.instruction.LoadOp.TheVariants.{Lb, Lh, Lw, Ld, Lbu, Lhu, Lwu}
use Rattle.spec_processor.specs.declared.instruction.StoreOp.{StoreOp}
use Rattle.spec_processor.specs.declared.instruction.StoreOp.TheVariants.{Sb, Sh, Sw, Sd}
use Rattle.spec_processor.specs.declared.instruction.OpImmOp.{OpImmOp}
use Rattle.spec_processor.specs.declared.instruction.OpImmOp.TheVariants.{Addi, Slti, Sltiu, Xori, Ori, Andi, Slli, Srli, Srai}
use Rattle.spec_processor.specs.declared.instruction.OpImm32Op.{OpImm32Op}
use Rattle.spec_processor.specs.declared.instruction.OpImm32Op.TheVariants.{Addiw, Slliw, Srliw, Sraiw}
use Rattle.spec_processor.specs.declared.instruction.OpOp.{OpOp}
use Rattle.spec_processor.specs.declared.instruction.OpOp.TheVariants.{Add, Sll, Slt, Sltu, Xor, Srl, Or, And, Sub, Sra, Mul, Mulh, Mulhsu}
use Rattle.spec_processor.specs.declared.instruction.OpOp.TheVariants.{Mulhu, Div, Divu, Rem, Remu}
use Rattle.spec_processor.specs.declared.instruction.Op32Op.{Op32Op}
use Rattle.spec_processor.specs.declared.instruction.Op32Op.TheVariants.{Addw, Sllw, Srlw, Subw, Sraw, Mulw, Divw, Divuw, Remw, Remuw}
use Rattle.spec_processor.specs.declared.instruction.CsrOp.{CsrOp}
use Rattle.spec_processor.specs.declared.instruction.CsrOp.TheVariants.{Csrrw, Csrrs, Csrrc, Csrrwi, Csrrsi, Csrrci}
use Rattle.spec_processor.specs.declared.instruction.AmoOp.{AmoOp}
use Rattle.spec_processor.specs.declared.instruction.AmoOp.TheVariants.{Amoswap, Amoadd, Amoxor, Amoand, Amoor, Amomin, Amomax, Amominu, Amomaxu}
use Rattle.spec_processor.specs.declared.instruction.HyperOp.{HyperOp}
use Rattle.spec_processor.specs.declared.instruction.HyperOp.TheVariants.{HlvB, HlvBu, HlvH, HlvHu, HlvxHu, HlvW, HlvWu, HlvxWu, HlvD, HsvB}
use Rattle.spec_processor.specs.declared.instruction.HyperOp.TheVariants.{HsvH, HsvW, HsvD, HfenceVvma, HfenceGvma}
use Rattle.spec_processor.specs.IntegerRegisters.{register_count}
use Rattle.spec_processor.specs.Opcodes.{amo_opcode, auipc_opcode, branch_opcode, jal_opcode, jalr_opcode, load_opcode, lui_opcode}
use Rattle.spec_processor.specs.Opcodes.{op_32_opcode, op_imm_32_opcode, op_imm_opcode, op_opcode, store_opcode, system_opcode}
use Rattle.spec_processor.specs.Instructions.{bits, ecall_word, ebreak_word, sret_word, wfi_word}

-- ---- fields in range

abbrev pub is_register : ℕ → Bool
is_register number = nat_lt number register_count

-- a signed number of n bits, a multiple of a step
abbrev pub is_immediate : ℕ → ℕ → ℤ → Bool
is_immediate n step imm =
    int_le (neg_ℤ (pos (2 ^ (n - 1)))) imm && int_lt imm (pos (2 ^ (n - 1))) && unsigned_abs imm % step == 0

abbrev pub is_zero : ℤ → Bool
is_zero imm = unsigned_abs imm == 0

abbrev pub is_width : ℕ → Bool
is_width width = width == 4 || width == 8

-- an immediate of 12 bits and no count, or a count below a limit and no immediate
abbrev pub is_operand : (is_shift : Bool) → (limit : ℕ) → (imm : ℤ) → (shamt : ℕ) → Bool
is_operand false limit imm shamt = is_immediate 12 1 imm && shamt == 0
is_operand true limit imm shamt = is_zero imm && nat_lt shamt limit

unfoldable pub is_shift : OpImmOp → Bool
is_shift Addi = false
is_shift Slti = false
is_shift Sltiu = false
is_shift Xori = false
is_shift Ori = false
is_shift Andi = false
is_shift Slli = true
is_shift Srli = true
is_shift Srai = true

unfoldable pub is_shift_32 : OpImm32Op → Bool
is_shift_32 Addiw = false
is_shift_32 Slliw = true
is_shift_32 Srliw = true
is_shift_32 Sraiw = true

-- a hypervisor load has no rs2; a hypervisor store or fence has no rd
unfoldable pub is_hyper_load : HyperOp → Bool
is_hyper_load HlvB = true
is_hyper_load HlvBu = true
is_hyper_load HlvH = true
is_hyper_load HlvHu = true
is_hyper_load HlvxHu = true
is_hyper_load HlvW = true
is_hyper_load HlvWu = true
is_hyper_load HlvxWu = true
is_hyper_load HlvD = true
is_hyper_load HsvB = false
is_hyper_load HsvH = false
is_hyper_load HsvW = false
is_hyper_load HsvD = false
is_hyper_load HfenceVvma = false
is_hyper_load HfenceGvma = false

-- the instruction is one that a word encodes
unfoldable pub fits : Instr → Bool
fits (Instr.Lui rd imm) = is_register rd && is_immediate 32 4096 imm
fits (Instr.Auipc rd imm) = is_register rd && is_immediate 32 4096 imm
fits (Instr.Jal rd imm) = is_register rd && is_immediate 21 2 imm
fits (Instr.Jalr rd rs1 imm) = is_register rd && is_register rs1 && is_immediate 12 1 imm
fits (Instr.Branch op rs1 rs2 imm) = is_register rs1 && is_register rs2 && is_immediate 13 2 imm
fits (Instr.Load op rd rs1 imm) = is_register rd && is_register rs1 && is_immediate 12 1 imm
fits (Instr.Store op rs1 rs2 imm) = is_register rs1 && is_register rs2 && is_immediate 12 1 imm
fits (Instr.OpImm op rd rs1 imm shamt) = is_register rd && is_register rs1 && is_operand (is_shift op) 64 imm shamt
fits (Instr.OpImm32 op rd rs1 imm shamt) = is_register rd && is_register rs1 && is_operand (is_shift_32 op) 32 imm shamt
fits (Instr.Op op rd rs1 rs2) = is_register rd && is_register rs1 && is_register rs2
fits (Instr.Op32 op rd rs1 rs2) = is_register rd && is_register rs1 && is_register rs2
fits Instr.Fence = true
fits Instr.FenceI = true
fits Instr.Ecall = true
fits Instr.Ebreak = true
fits Instr.Sret = true
fits Instr.Wfi = true
fits (Instr.SfenceVma rs1 rs2) = is_register rs1 && is_register rs2
fits (Instr.Csr op rd rs1 csr) = is_register rd && is_register rs1 && nat_lt csr 4096
fits (Instr.Lr rd rs1 width aq rl) = is_register rd && is_register rs1 && is_width width
fits (Instr.Sc rd rs1 rs2 width aq rl) = is_register rd && is_register rs1 && is_register rs2 && is_width width
fits (Instr.Amo op rd rs1 rs2 width aq rl) = is_register rd && is_register rs1 && is_register rs2 && is_width width
fits (Instr.Hyper op rd rs1 rs2) =
    is_register rd && is_register rs1 && is_register rs2 && (if is_hyper_load op then rs2 == 0 else rd == 0)

-- ---- words by their fields. An immediate gives the bits of its machine word

abbrev pub imm_bits : ℤ → ℕ → ℕ → ℕ
imm_bits imm low high = bits (cast_unsigned w64 imm) low high

abbrev pub r_word : (opcode funct7 funct3 rd rs1 rs2 : ℕ) → ℕ
r_word opcode funct7 funct3 rd rs1 rs2 = opcode + 2 ^ 7 * rd + 2 ^ 12 * funct3 + 2 ^ 15 * rs1 + 2 ^ 20 * rs2 + 2 ^ 25 * funct7

-- the last argument is the field of 12 bits
abbrev pub i_word : (opcode funct3 rd rs1 field : ℕ) → ℕ
i_word opcode funct3 rd rs1 field = opcode + 2 ^ 7 * rd + 2 ^ 12 * funct3 + 2 ^ 15 * rs1 + 2 ^ 20 * field

abbrev pub s_word : (opcode funct3 rs1 rs2 : ℕ) → ℤ → ℕ
s_word opcode funct3 rs1 rs2 imm = r_word opcode (imm_bits imm 5 12) funct3 (imm_bits imm 0 5) rs1 rs2

abbrev pub b_word : (opcode funct3 rs1 rs2 : ℕ) → ℤ → ℕ
b_word opcode funct3 rs1 rs2 imm =
    r_word opcode (imm_bits imm 5 11 + 2 ^ 6 * imm_bits imm 12 13) funct3 (imm_bits imm 11 12 + 2 * imm_bits imm 1 5) rs1 rs2

abbrev pub u_word : (opcode rd : ℕ) → ℤ → ℕ
u_word opcode rd imm = opcode + 2 ^ 7 * rd + 2 ^ 12 * imm_bits imm 12 32

abbrev pub j_word : (opcode rd : ℕ) → ℤ → ℕ
j_word opcode rd imm =
    opcode + 2 ^ 7 * rd + 2 ^ 12 * imm_bits imm 12 20 + 2 ^ 20 * imm_bits imm 11 12 + 2 ^ 21 * imm_bits imm 1 11 + 2 ^ 31 * imm_bits imm 20 21

-- ---- function codes

unfoldable pub branch_funct3 : BranchOp → ℕ
branch_funct3 Beq = 0
branch_funct3 Bne = 1
branch_funct3 Blt = 4
branch_funct3 Bge = 5
branch_funct3 Bltu = 6
branch_funct3 Bgeu = 7

unfoldable pub load_funct3 : LoadOp → ℕ
load_funct3 Lb = 0
load_funct3 Lh = 1
load_funct3 Lw = 2
load_funct3 Ld = 3
load_funct3 Lbu = 4
load_funct3 Lhu = 5
load_funct3 Lwu = 6

unfoldable pub store_funct3 : StoreOp → ℕ
store_funct3 Sb = 0
store_funct3 Sh = 1
store_funct3 Sw = 2
store_funct3 Sd = 3

unfoldable pub op_imm_funct3 : OpImmOp → ℕ
op_imm_funct3 Addi = 0
op_imm_funct3 Slti = 2
op_imm_funct3 Sltiu = 3
op_imm_funct3 Xori = 4
op_imm_funct3 Ori = 6
op_imm_funct3 Andi = 7
op_imm_funct3 Slli = 1
op_imm_funct3 Srli = 5
op_imm_funct3 Srai = 5

unfoldable pub op_imm_32_funct3 : OpImm32Op → ℕ
op_imm_32_funct3 Addiw = 0
op_imm_32_funct3 Slliw = 1
op_imm_32_funct3 Srliw = 5
op_imm_32_funct3 Sraiw = 5

-- an arithmetic shift by an immediate has bit 10 of its 12 bits set
unfoldable pub arithmetic_bit : OpImmOp → ℕ
arithmetic_bit Addi = 0
arithmetic_bit Slti = 0
arithmetic_bit Sltiu = 0
arithmetic_bit Xori = 0
arithmetic_bit Ori = 0
arithmetic_bit Andi = 0
arithmetic_bit Slli = 0
arithmetic_bit Srli = 0
arithmetic_bit Srai = 2 ^ 10

unfoldable pub arithmetic_bit_32 : OpImm32Op → ℕ
arithmetic_bit_32 Addiw = 0
arithmetic_bit_32 Slliw = 0
arithmetic_bit_32 Srliw = 0
arithmetic_bit_32 Sraiw = 2 ^ 10

unfoldable pub op_funct7 : OpOp → ℕ
op_funct7 Add = 0x00
op_funct7 Sll = 0x00
op_funct7 Slt = 0x00
op_funct7 Sltu = 0x00
op_funct7 Xor = 0x00
op_funct7 Srl = 0x00
op_funct7 Or = 0x00
op_funct7 And = 0x00
op_funct7 Sub = 0x20
op_funct7 Sra = 0x20
op_funct7 Mul = 0x01
op_funct7 Mulh = 0x01
op_funct7 Mulhsu = 0x01
op_funct7 Mulhu = 0x01
op_funct7 Div = 0x01
op_funct7 Divu = 0x01
op_funct7 Rem = 0x01
op_funct7 Remu = 0x01

unfoldable pub op_funct3 : OpOp → ℕ
op_funct3 Add = 0
op_funct3 Sll = 1
op_funct3 Slt = 2
op_funct3 Sltu = 3
op_funct3 Xor = 4
op_funct3 Srl = 5
op_funct3 Or = 6
op_funct3 And = 7
op_funct3 Sub = 0
op_funct3 Sra = 5
op_funct3 Mul = 0
op_funct3 Mulh = 1
op_funct3 Mulhsu = 2
op_funct3 Mulhu = 3
op_funct3 Div = 4
op_funct3 Divu = 5
op_funct3 Rem = 6
op_funct3 Remu = 7

unfoldable pub op_32_funct7 : Op32Op → ℕ
op_32_funct7 Addw = 0x00
op_32_funct7 Sllw = 0x00
op_32_funct7 Srlw = 0x00
op_32_funct7 Subw = 0x20
op_32_funct7 Sraw = 0x20
op_32_funct7 Mulw = 0x01
op_32_funct7 Divw = 0x01
op_32_funct7 Divuw = 0x01
op_32_funct7 Remw = 0x01
op_32_funct7 Remuw = 0x01

unfoldable pub op_32_funct3 : Op32Op → ℕ
op_32_funct3 Addw = 0
op_32_funct3 Sllw = 1
op_32_funct3 Srlw = 5
op_32_funct3 Subw = 0
op_32_funct3 Sraw = 5
op_32_funct3 Mulw = 0
op_32_funct3 Divw = 4
op_32_funct3 Divuw = 5
op_32_funct3 Remw = 6
op_32_funct3 Remuw = 7

unfoldable pub csr_funct3 : CsrOp → ℕ
csr_funct3 Csrrw = 1
csr_funct3 Csrrs = 2
csr_funct3 Csrrc = 3
csr_funct3 Csrrwi = 5
csr_funct3 Csrrsi = 6
csr_funct3 Csrrci = 7

unfoldable pub amo_funct5 : AmoOp → ℕ
amo_funct5 Amoswap = 0x01
amo_funct5 Amoadd = 0x00
amo_funct5 Amoxor = 0x04
amo_funct5 Amoand = 0x0C
amo_funct5 Amoor = 0x08
amo_funct5 Amomin = 0x10
amo_funct5 Amomax = 0x14
amo_funct5 Amominu = 0x18
amo_funct5 Amomaxu = 0x1C

unfoldable pub hyper_funct7 : HyperOp → ℕ
hyper_funct7 HlvB = 0x30
hyper_funct7 HlvBu = 0x30
hyper_funct7 HlvH = 0x32
hyper_funct7 HlvHu = 0x32
hyper_funct7 HlvxHu = 0x32
hyper_funct7 HlvW = 0x34
hyper_funct7 HlvWu = 0x34
hyper_funct7 HlvxWu = 0x34
hyper_funct7 HlvD = 0x36
hyper_funct7 HsvB = 0x31
hyper_funct7 HsvH = 0x33
hyper_funct7 HsvW = 0x35
hyper_funct7 HsvD = 0x37
hyper_funct7 HfenceVvma = 0x11
hyper_funct7 HfenceGvma = 0x31

unfoldable pub hyper_funct3 : HyperOp → ℕ
hyper_funct3 HlvB = 4
hyper_funct3 HlvBu = 4
hyper_funct3 HlvH = 4
hyper_funct3 HlvHu = 4
hyper_funct3 HlvxHu = 4
hyper_funct3 HlvW = 4
hyper_funct3 HlvWu = 4
hyper_funct3 HlvxWu = 4
hyper_funct3 HlvD = 4
hyper_funct3 HsvB = 4
hyper_funct3 HsvH = 4
hyper_funct3 HsvW = 4
hyper_funct3 HsvD = 4
hyper_funct3 HfenceVvma = 0
hyper_funct3 HfenceGvma = 0

-- what a hypervisor load has in the place of rs2
unfoldable pub hyper_number : HyperOp → ℕ
hyper_number HlvB = 0
hyper_number HlvBu = 1
hyper_number HlvH = 0
hyper_number HlvHu = 1
hyper_number HlvxHu = 3
hyper_number HlvW = 0
hyper_number HlvWu = 1
hyper_number HlvxWu = 3
hyper_number HlvD = 0
hyper_number HsvB = 0
hyper_number HsvH = 0
hyper_number HsvW = 0
hyper_number HsvD = 0
hyper_number HfenceVvma = 0
hyper_number HfenceGvma = 0

-- the function code of a width, and an atomic operation's code with its acquire and release bits
abbrev pub width_funct3 : ℕ → ℕ
width_funct3 width = if width == 4 then 2 else 3

abbrev pub amo_funct7 : ℕ → Bool → Bool → ℕ
amo_funct7 funct5 aq rl = 2 ^ 2 * funct5 + 2 * from_bool aq + from_bool rl

-- ---- the word of an instruction. Bits that it doesn't keep are 0

unfoldable pub word_of : Instr → ℕ
word_of (Instr.Lui rd imm) = u_word lui_opcode rd imm
word_of (Instr.Auipc rd imm) = u_word auipc_opcode rd imm
word_of (Instr.Jal rd imm) = j_word jal_opcode rd imm
word_of (Instr.Jalr rd rs1 imm) = i_word jalr_opcode 0 rd rs1 (imm_bits imm 0 12)
word_of (Instr.Branch op rs1 rs2 imm) = b_word branch_opcode (branch_funct3 op) rs1 rs2 imm
word_of (Instr.Load op rd rs1 imm) = i_word load_opcode (load_funct3 op) rd rs1 (imm_bits imm 0 12)
word_of (Instr.Store op rs1 rs2 imm) = s_word store_opcode (store_funct3 op) rs1 rs2 imm
word_of (Instr.OpImm op rd rs1 imm shamt) = i_word op_imm_opcode (op_imm_funct3 op) rd rs1 (imm_bits imm 0 12 + shamt + arithmetic_bit op)
word_of (Instr.OpImm32 op rd rs1 imm shamt) =
    i_word op_imm_32_opcode (op_imm_32_funct3 op) rd rs1 (imm_bits imm 0 12 + shamt + arithmetic_bit_32 op)
word_of (Instr.Op op rd rs1 rs2) = r_word op_opcode (op_funct7 op) (op_funct3 op) rd rs1 rs2
word_of (Instr.Op32 op rd rs1 rs2) = r_word op_32_opcode (op_32_funct7 op) (op_32_funct3 op) rd rs1 rs2
word_of Instr.Fence = 0x0000000F
word_of Instr.FenceI = 0x0000100F
word_of Instr.Ecall = ecall_word
word_of Instr.Ebreak = ebreak_word
word_of Instr.Sret = sret_word
word_of Instr.Wfi = wfi_word
word_of (Instr.SfenceVma rs1 rs2) = r_word system_opcode 0x09 0 0 rs1 rs2
word_of (Instr.Csr op rd rs1 csr) = i_word system_opcode (csr_funct3 op) rd rs1 csr
word_of (Instr.Lr rd rs1 width aq rl) = r_word amo_opcode (amo_funct7 0x02 aq rl) (width_funct3 width) rd rs1 0
word_of (Instr.Sc rd rs1 rs2 width aq rl) = r_word amo_opcode (amo_funct7 0x03 aq rl) (width_funct3 width) rd rs1 rs2
word_of (Instr.Amo op rd rs1 rs2 width aq rl) = r_word amo_opcode (amo_funct7 (amo_funct5 op) aq rl) (width_funct3 width) rd rs1 rs2
word_of (Instr.Hyper op rd rs1 rs2) = r_word system_opcode (hyper_funct7 op) (hyper_funct3 op) rd rs1 (rs2 + hyper_number op)
