-- The instruction table of RV64IMA with Zicsr, Zifencei and the supervisor's and hypervisor's instructions: rows of a
-- mask, a match and a form. A word has a row where its bits under the row's mask are the row's match; the form gives
-- the instruction with its fields.
-- RISC-V Unprivileged manual, "RV32/64G Instruction Set Listings" and "Immediate Encoding Variants"; Privileged
-- manual, "RISC-V Privileged Instruction Set Listings".
use Rattle.std.specs.Prelude.{ℕ, ◌+◌, ◌-◌, ◌*◌, ◌/◌, ◌%◌, ◌^◌, ℤ, pos, ◌-ℤ◌, List, [], ◌∷◌, ◌==◌, if◌then◌else◌, nat_lt, bit_and, Bool}
use Rattle.std.specs.Prelude.{Option, find, option_map}
use Rattle.spec_processor.specs.Opcodes.{amo_opcode, auipc_opcode, branch_opcode, jal_opcode, jalr_opcode, load_opcode, lui_opcode}
use Rattle.spec_processor.specs.Opcodes.{misc_mem_opcode, op_32_opcode, op_imm_32_opcode, op_imm_opcode, op_opcode, store_opcode}
use Rattle.spec_processor.specs.Opcodes.{system_opcode}
use Rattle.spec_processor.specs.declared.instruction.Instr.{Instr}
use Rattle.spec_processor.specs.declared.instruction.BranchOp.{BranchOp}
use Rattle.spec_processor.specs.declared.instruction.BranchOp.TheVariants as Branch
use Rattle.spec_processor.specs.declared.instruction.LoadOp.{LoadOp}
use Rattle.spec_processor.specs.declared.instruction.LoadOp.TheVariants as Load
use Rattle.spec_processor.specs.declared.instruction.StoreOp.{StoreOp}
use Rattle.spec_processor.specs.declared.instruction.StoreOp.TheVariants as Store
use Rattle.spec_processor.specs.declared.instruction.OpImmOp.{OpImmOp}
use Rattle.spec_processor.specs.declared.instruction.OpImmOp.TheVariants as OpImm
use Rattle.spec_processor.specs.declared.instruction.OpImm32Op.{OpImm32Op}
use Rattle.spec_processor.specs.declared.instruction.OpImm32Op.TheVariants as OpImm32
use Rattle.spec_processor.specs.declared.instruction.OpOp.{OpOp}
use Rattle.spec_processor.specs.declared.instruction.OpOp.TheVariants as Op
use Rattle.spec_processor.specs.declared.instruction.Op32Op.{Op32Op}
use Rattle.spec_processor.specs.declared.instruction.Op32Op.TheVariants as Op32
use Rattle.spec_processor.specs.declared.instruction.CsrOp.{CsrOp}
use Rattle.spec_processor.specs.declared.instruction.CsrOp.TheVariants as Csr
use Rattle.spec_processor.specs.declared.instruction.AmoOp.{AmoOp}
use Rattle.spec_processor.specs.declared.instruction.AmoOp.TheVariants as Amo
use Rattle.spec_processor.specs.declared.instruction.HyperOp.{HyperOp}
use Rattle.spec_processor.specs.declared.instruction.HyperOp.TheVariants as Hyper

pub record Row : Type 0 where
  pub mask : ℕ
  pub match : ℕ
  pub form : ℕ → Instr

-- ---- fields

-- the fields of a word, each by its bits. funct6 and funct5 are the upper bits of funct7; beneath funct5 an atomic
-- instruction has its aq and rl
abbrev pub opcode_field : ℕ
opcode_field = 0x0000007F

abbrev pub rd_field : ℕ
rd_field = 0x00000F80

abbrev pub funct3_field : ℕ
funct3_field = 0x00007000

abbrev pub rs2_field : ℕ
rs2_field = 0x01F00000

abbrev pub funct7_field : ℕ
funct7_field = 0xFE000000

abbrev pub funct6_field : ℕ
funct6_field = 0xFC000000

abbrev pub funct5_field : ℕ
funct5_field = 0xF8000000

-- the bits from low up to below high of a word
abbrev pub bits : ℕ → ℕ → ℕ → ℕ
bits word low high = word / 2 ^ low % 2 ^ (high - low)

-- a number of n bits, read as signed
abbrev pub signed_bits : ℕ → ℕ → ℤ
signed_bits n value = if nat_lt value (2 ^ (n - 1)) then pos value else pos value -ℤ pos (2 ^ n)

abbrev pub rd : ℕ → ℕ
rd word = bits word 7 12

abbrev pub rs1 : ℕ → ℕ
rs1 word = bits word 15 20

abbrev pub rs2 : ℕ → ℕ
rs2 word = bits word 20 25

-- the immediates of the forms I, S, B, U and J
abbrev pub imm_i : ℕ → ℤ
imm_i word = signed_bits 12 (bits word 20 32)

abbrev pub imm_s : ℕ → ℤ
imm_s word = signed_bits 12 (bits word 7 12 + 2 ^ 5 * bits word 25 32)

abbrev pub imm_b : ℕ → ℤ
imm_b word = signed_bits 13 (2 * bits word 8 12 + 2 ^ 5 * bits word 25 31 + 2 ^ 11 * bits word 7 8 + 2 ^ 12 * bits word 31 32)

abbrev pub imm_u : ℕ → ℤ
imm_u word = signed_bits 32 (2 ^ 12 * bits word 12 32)

abbrev pub imm_j : ℕ → ℤ
imm_j word = signed_bits 21 (2 * bits word 21 31 + 2 ^ 11 * bits word 20 21 + 2 ^ 12 * bits word 12 20 + 2 ^ 20 * bits word 31 32)

-- the acquire and release bits of an atomic instruction
abbrev pub aq : ℕ → Bool
aq word = bits word 26 27 == 1

abbrev pub rl : ℕ → Bool
rl word = bits word 25 26 == 1

-- ---- forms

abbrev pub lui : ℕ → Instr
lui word = Instr.Lui (rd word) (imm_u word)

abbrev pub auipc : ℕ → Instr
auipc word = Instr.Auipc (rd word) (imm_u word)

abbrev pub jal : ℕ → Instr
jal word = Instr.Jal (rd word) (imm_j word)

abbrev pub jalr : ℕ → Instr
jalr word = Instr.Jalr (rd word) (rs1 word) (imm_i word)

abbrev pub branch : BranchOp → ℕ → Instr
branch op word = Instr.Branch op (rs1 word) (rs2 word) (imm_b word)

abbrev pub load : LoadOp → ℕ → Instr
load op word = Instr.Load op (rd word) (rs1 word) (imm_i word)

abbrev pub store : StoreOp → ℕ → Instr
store op word = Instr.Store op (rs1 word) (rs2 word) (imm_s word)

abbrev pub op_imm : OpImmOp → ℕ → Instr
op_imm op word = Instr.OpImm op (rd word) (rs1 word) (imm_i word) 0

-- shifts by an immediate: of 6 bits, and of 5 in a W form
abbrev pub shift : OpImmOp → ℕ → Instr
shift op word = Instr.OpImm op (rd word) (rs1 word) (pos 0) (bits word 20 26)

abbrev pub op_imm_32 : OpImm32Op → ℕ → Instr
op_imm_32 op word = Instr.OpImm32 op (rd word) (rs1 word) (imm_i word) 0

abbrev pub shift_32 : OpImm32Op → ℕ → Instr
shift_32 op word = Instr.OpImm32 op (rd word) (rs1 word) (pos 0) (bits word 20 25)

abbrev pub op_op : OpOp → ℕ → Instr
op_op op word = Instr.Op op (rd word) (rs1 word) (rs2 word)

abbrev pub op_32 : Op32Op → ℕ → Instr
op_32 op word = Instr.Op32 op (rd word) (rs1 word) (rs2 word)

abbrev pub sfence : ℕ → Instr
sfence word = Instr.SfenceVma (rs1 word) (rs2 word)

abbrev pub csr : CsrOp → ℕ → Instr
csr op word = Instr.Csr op (rd word) (rs1 word) (bits word 20 32)

-- the width in bytes comes first
abbrev pub lr : ℕ → ℕ → Instr
lr width word = Instr.Lr (rd word) (rs1 word) width (aq word) (rl word)

abbrev pub sc : ℕ → ℕ → Instr
sc width word = Instr.Sc (rd word) (rs1 word) (rs2 word) width (aq word) (rl word)

abbrev pub amo : AmoOp → ℕ → ℕ → Instr
amo op width word = Instr.Amo op (rd word) (rs1 word) (rs2 word) width (aq word) (rl word)

-- a hypervisor load has no rs2; a hypervisor store or fence has no rd
abbrev pub hyper_load : HyperOp → ℕ → Instr
hyper_load op word = Instr.Hyper op (rd word) (rs1 word) 0

abbrev pub hyper_store : HyperOp → ℕ → Instr
hyper_store op word = Instr.Hyper op 0 (rs1 word) (rs2 word)

-- a form without fields
abbrev pub plain : Instr → ℕ → Instr
plain instr word = instr

-- ---- rows: by opcode; by opcode and funct3; by funct7, funct6 or funct5 alongside them; with rs2 fixed or rd zero; and
-- of one word alone

abbrev pub by_opcode : ℕ → (ℕ → Instr) → Row
by_opcode opcode form = record { mask = opcode_field; match = opcode; form = form }

abbrev pub by_funct3 : ℕ → ℕ → (ℕ → Instr) → Row
by_funct3 opcode funct3 form = record { mask = opcode_field + funct3_field; match = opcode + 2 ^ 12 * funct3; form = form }

abbrev pub by_funct7 : ℕ → ℕ → ℕ → (ℕ → Instr) → Row
by_funct7 opcode funct7 funct3 form =
    record { mask = opcode_field + funct3_field + funct7_field; match = opcode + 2 ^ 12 * funct3 + 2 ^ 25 * funct7; form = form }

abbrev pub by_funct6 : ℕ → ℕ → ℕ → (ℕ → Instr) → Row
by_funct6 opcode funct6 funct3 form =
    record { mask = opcode_field + funct3_field + funct6_field; match = opcode + 2 ^ 12 * funct3 + 2 ^ 26 * funct6; form = form }

abbrev pub by_funct5 : ℕ → ℕ → ℕ → (ℕ → Instr) → Row
by_funct5 opcode funct5 funct3 form =
    record { mask = opcode_field + funct3_field + funct5_field; match = opcode + 2 ^ 12 * funct3 + 2 ^ 27 * funct5; form = form }

abbrev pub by_funct5_no_rs2 : ℕ → ℕ → ℕ → (ℕ → Instr) → Row
by_funct5_no_rs2 opcode funct5 funct3 form =
    record { mask = opcode_field + funct3_field + rs2_field + funct5_field; match = opcode + 2 ^ 12 * funct3 + 2 ^ 27 * funct5; form = form }

abbrev pub by_funct7_rs2 : ℕ → ℕ → ℕ → ℕ → (ℕ → Instr) → Row
by_funct7_rs2 opcode funct7 number funct3 form =
    record { mask = opcode_field + funct3_field + rs2_field + funct7_field; match = opcode + 2 ^ 12 * funct3 + 2 ^ 20 * number + 2 ^ 25 * funct7; form = form }

abbrev pub by_funct7_no_rd : ℕ → ℕ → ℕ → (ℕ → Instr) → Row
by_funct7_no_rd opcode funct7 funct3 form =
    record { mask = opcode_field + rd_field + funct3_field + funct7_field; match = opcode + 2 ^ 12 * funct3 + 2 ^ 25 * funct7; form = form }

abbrev pub whole_word : ℕ → (ℕ → Instr) → Row
whole_word word form = record { mask = 0xFFFFFFFF; match = word; form = form }

-- the words of the instructions that have no fields
abbrev pub ecall_word : ℕ
ecall_word = 0x00000073

abbrev pub ebreak_word : ℕ
ebreak_word = 0x00100073

abbrev pub sret_word : ℕ
sret_word = 0x10200073

abbrev pub wfi_word : ℕ
wfi_word = 0x10500073

unfoldable pub rows : List Row
rows =
    by_opcode lui_opcode lui ∷ by_opcode auipc_opcode auipc ∷ by_opcode jal_opcode jal ∷ by_funct3 jalr_opcode 0 jalr ∷
    by_funct3 branch_opcode 0 (branch Branch.Beq) ∷ by_funct3 branch_opcode 1 (branch Branch.Bne) ∷
    by_funct3 branch_opcode 4 (branch Branch.Blt) ∷ by_funct3 branch_opcode 5 (branch Branch.Bge) ∷
    by_funct3 branch_opcode 6 (branch Branch.Bltu) ∷ by_funct3 branch_opcode 7 (branch Branch.Bgeu) ∷
    by_funct3 load_opcode 0 (load Load.Lb) ∷ by_funct3 load_opcode 1 (load Load.Lh) ∷ by_funct3 load_opcode 2 (load Load.Lw) ∷
    by_funct3 load_opcode 3 (load Load.Ld) ∷ by_funct3 load_opcode 4 (load Load.Lbu) ∷ by_funct3 load_opcode 5 (load Load.Lhu) ∷
    by_funct3 load_opcode 6 (load Load.Lwu) ∷
    by_funct3 store_opcode 0 (store Store.Sb) ∷ by_funct3 store_opcode 1 (store Store.Sh) ∷ by_funct3 store_opcode 2 (store Store.Sw) ∷
    by_funct3 store_opcode 3 (store Store.Sd) ∷
    by_funct3 op_imm_opcode 0 (op_imm OpImm.Addi) ∷ by_funct3 op_imm_opcode 2 (op_imm OpImm.Slti) ∷ by_funct3 op_imm_opcode 3 (op_imm OpImm.Sltiu) ∷
    by_funct3 op_imm_opcode 4 (op_imm OpImm.Xori) ∷ by_funct3 op_imm_opcode 6 (op_imm OpImm.Ori) ∷ by_funct3 op_imm_opcode 7 (op_imm OpImm.Andi) ∷
    by_funct6 op_imm_opcode 0x00 1 (shift OpImm.Slli) ∷ by_funct6 op_imm_opcode 0x00 5 (shift OpImm.Srli) ∷
    by_funct6 op_imm_opcode 0x10 5 (shift OpImm.Srai) ∷
    by_funct3 op_imm_32_opcode 0 (op_imm_32 OpImm32.Addiw) ∷ by_funct7 op_imm_32_opcode 0x00 1 (shift_32 OpImm32.Slliw) ∷
    by_funct7 op_imm_32_opcode 0x00 5 (shift_32 OpImm32.Srliw) ∷ by_funct7 op_imm_32_opcode 0x20 5 (shift_32 OpImm32.Sraiw) ∷
    by_funct7 op_opcode 0x00 0 (op_op Op.Add) ∷ by_funct7 op_opcode 0x00 1 (op_op Op.Sll) ∷ by_funct7 op_opcode 0x00 2 (op_op Op.Slt) ∷
    by_funct7 op_opcode 0x00 3 (op_op Op.Sltu) ∷ by_funct7 op_opcode 0x00 4 (op_op Op.Xor) ∷ by_funct7 op_opcode 0x00 5 (op_op Op.Srl) ∷
    by_funct7 op_opcode 0x00 6 (op_op Op.Or) ∷ by_funct7 op_opcode 0x00 7 (op_op Op.And) ∷
    by_funct7 op_opcode 0x20 0 (op_op Op.Sub) ∷ by_funct7 op_opcode 0x20 5 (op_op Op.Sra) ∷
    by_funct7 op_opcode 0x01 0 (op_op Op.Mul) ∷ by_funct7 op_opcode 0x01 1 (op_op Op.Mulh) ∷ by_funct7 op_opcode 0x01 2 (op_op Op.Mulhsu) ∷
    by_funct7 op_opcode 0x01 3 (op_op Op.Mulhu) ∷ by_funct7 op_opcode 0x01 4 (op_op Op.Div) ∷ by_funct7 op_opcode 0x01 5 (op_op Op.Divu) ∷
    by_funct7 op_opcode 0x01 6 (op_op Op.Rem) ∷ by_funct7 op_opcode 0x01 7 (op_op Op.Remu) ∷
    by_funct7 op_32_opcode 0x00 0 (op_32 Op32.Addw) ∷ by_funct7 op_32_opcode 0x00 1 (op_32 Op32.Sllw) ∷ by_funct7 op_32_opcode 0x00 5 (op_32 Op32.Srlw) ∷
    by_funct7 op_32_opcode 0x20 0 (op_32 Op32.Subw) ∷ by_funct7 op_32_opcode 0x20 5 (op_32 Op32.Sraw) ∷
    by_funct7 op_32_opcode 0x01 0 (op_32 Op32.Mulw) ∷ by_funct7 op_32_opcode 0x01 4 (op_32 Op32.Divw) ∷ by_funct7 op_32_opcode 0x01 5 (op_32 Op32.Divuw) ∷
    by_funct7 op_32_opcode 0x01 6 (op_32 Op32.Remw) ∷ by_funct7 op_32_opcode 0x01 7 (op_32 Op32.Remuw) ∷
    by_funct3 misc_mem_opcode 0 (plain Instr.Fence) ∷ by_funct3 misc_mem_opcode 1 (plain Instr.FenceI) ∷
    by_funct5_no_rs2 amo_opcode 0x02 2 (lr 4) ∷ by_funct5_no_rs2 amo_opcode 0x02 3 (lr 8) ∷
    by_funct5 amo_opcode 0x03 2 (sc 4) ∷ by_funct5 amo_opcode 0x03 3 (sc 8) ∷
    by_funct5 amo_opcode 0x01 2 (amo Amo.Amoswap 4) ∷ by_funct5 amo_opcode 0x01 3 (amo Amo.Amoswap 8) ∷
    by_funct5 amo_opcode 0x00 2 (amo Amo.Amoadd 4) ∷ by_funct5 amo_opcode 0x00 3 (amo Amo.Amoadd 8) ∷
    by_funct5 amo_opcode 0x04 2 (amo Amo.Amoxor 4) ∷ by_funct5 amo_opcode 0x04 3 (amo Amo.Amoxor 8) ∷
    by_funct5 amo_opcode 0x0C 2 (amo Amo.Amoand 4) ∷ by_funct5 amo_opcode 0x0C 3 (amo Amo.Amoand 8) ∷
    by_funct5 amo_opcode 0x08 2 (amo Amo.Amoor 4) ∷ by_funct5 amo_opcode 0x08 3 (amo Amo.Amoor 8) ∷
    by_funct5 amo_opcode 0x10 2 (amo Amo.Amomin 4) ∷ by_funct5 amo_opcode 0x10 3 (amo Amo.Amomin 8) ∷
    by_funct5 amo_opcode 0x14 2 (amo Amo.Amomax 4) ∷ by_funct5 amo_opcode 0x14 3 (amo Amo.Amomax 8) ∷
    by_funct5 amo_opcode 0x18 2 (amo Amo.Amominu 4) ∷ by_funct5 amo_opcode 0x18 3 (amo Amo.Amominu 8) ∷
    by_funct5 amo_opcode 0x1C 2 (amo Amo.Amomaxu 4) ∷ by_funct5 amo_opcode 0x1C 3 (amo Amo.Amomaxu 8) ∷
    whole_word ecall_word (plain Instr.Ecall) ∷ whole_word ebreak_word (plain Instr.Ebreak) ∷
    whole_word sret_word (plain Instr.Sret) ∷ whole_word wfi_word (plain Instr.Wfi) ∷
    by_funct7_no_rd system_opcode 0x09 0 sfence ∷ by_funct7_no_rd system_opcode 0x11 0 (hyper_store Hyper.HfenceVvma) ∷
    by_funct7_no_rd system_opcode 0x31 0 (hyper_store Hyper.HfenceGvma) ∷
    by_funct3 system_opcode 1 (csr Csr.Csrrw) ∷ by_funct3 system_opcode 2 (csr Csr.Csrrs) ∷ by_funct3 system_opcode 3 (csr Csr.Csrrc) ∷
    by_funct3 system_opcode 5 (csr Csr.Csrrwi) ∷ by_funct3 system_opcode 6 (csr Csr.Csrrsi) ∷ by_funct3 system_opcode 7 (csr Csr.Csrrci) ∷
    by_funct7_rs2 system_opcode 0x30 0 4 (hyper_load Hyper.HlvB) ∷ by_funct7_rs2 system_opcode 0x30 1 4 (hyper_load Hyper.HlvBu) ∷
    by_funct7_rs2 system_opcode 0x32 0 4 (hyper_load Hyper.HlvH) ∷ by_funct7_rs2 system_opcode 0x32 1 4 (hyper_load Hyper.HlvHu) ∷
    by_funct7_rs2 system_opcode 0x32 3 4 (hyper_load Hyper.HlvxHu) ∷
    by_funct7_rs2 system_opcode 0x34 0 4 (hyper_load Hyper.HlvW) ∷ by_funct7_rs2 system_opcode 0x34 1 4 (hyper_load Hyper.HlvWu) ∷
    by_funct7_rs2 system_opcode 0x34 3 4 (hyper_load Hyper.HlvxWu) ∷ by_funct7_rs2 system_opcode 0x36 0 4 (hyper_load Hyper.HlvD) ∷
    by_funct7_no_rd system_opcode 0x31 4 (hyper_store Hyper.HsvB) ∷ by_funct7_no_rd system_opcode 0x33 4 (hyper_store Hyper.HsvH) ∷
    by_funct7_no_rd system_opcode 0x35 4 (hyper_store Hyper.HsvW) ∷ by_funct7_no_rd system_opcode 0x37 4 (hyper_store Hyper.HsvD) ∷ []

-- the word is one of the row's
abbrev pub has_row : ℕ → Row → Bool
has_row word row = bit_and word row.mask == row.match

-- the instruction of a row's word
abbrev pub instruction_in : ℕ → Row → Instr
instruction_in word row = row.form word

-- the instruction of a word, none where the word is in no row
unfoldable pub instruction_of : ℕ → Option Instr
instruction_of word = option_map (instruction_in word) (find (has_row word) rows)
