-- The text of an instruction, as the standard's assembly writes it without pseudoinstructions: `sd a0,8(sp)`. The target of a jump
-- is told from the instruction on: `jal ra,.+16`.
-- RISC-V Unprivileged manual, "RV32/64G Instruction Set Listings" and "RISC-V Assembly Programmer's Handbook".
use Rattle.std.specs.Prelude.{ℕ, ◌/◌, ◌%◌, ◌^◌, if◌then◌else◌, Bool, true, false, List, ◌++◌, ℤ, pos, int_lt, Option, Some, None, codes}
use Rattle.std.specs.Fmt.{decimal, digits, signed_decimal}
use Rattle.spec_processor.specs.Effects.{immediate}
use Rattle.spec_processor.specs.Encoding.{is_shift, is_shift_32}
use Rattle.spec_processor.specs.Registers.{csr_of_number}
use Rattle.spec_processor.specs.declared.csr.Csr.{Csr}
use Rattle.spec_processor.specs.declared.instruction.CsrOp.{CsrOp}
use Rattle.spec_processor.specs.declared.instruction.CsrOp.TheVariants.{Csrrw, Csrrs, Csrrc, Csrrwi, Csrrsi, Csrrci}
use Rattle.spec_processor.specs.declared.instruction.HyperOp.{HyperOp}
use Rattle.spec_processor.specs.declared.instruction.HyperOp.TheVariants.{HlvB, HlvBu, HlvH, HlvHu, HlvxHu, HlvW, HlvWu, HlvxWu, HlvD, HsvB}
use Rattle.spec_processor.specs.declared.instruction.HyperOp.TheVariants.{HsvH, HsvW, HsvD, HfenceVvma, HfenceGvma}
use Rattle.spec_processor.specs.declared.instruction.Instr.{Instr}
use Rattle.spec_processor.specs.declared.instruction.OpImmOp.{OpImmOp}
use Rattle.spec_processor.specs.declared.instruction.OpImm32Op.{OpImm32Op}
use Rattle.rv64_encode.specs.Mnemonics.{branch_name, load_name, store_name, op_imm_name, op_imm_32_name, op_name, op_32_name, csr_op_name}
use Rattle.rv64_encode.specs.Mnemonics.{csr_name, amo_name, hyper_name, width_suffix, order_suffix, register_name}

-- ---- operands

abbrev pub hexadecimal : ℕ → List ℕ
hexadecimal n = codes "0x" ++ digits 16 false n

-- the 20 bits of an upper immediate
abbrev pub upper_text : ℤ → List ℕ
upper_text imm = hexadecimal (immediate imm / 2 ^ 12 % 2 ^ 20)

-- where a jump or a branch leads
abbrev pub target_text : ℤ → List ℕ
target_text imm = if int_lt imm (pos 0) then codes "." ++ signed_decimal imm else codes ".+" ++ signed_decimal imm

abbrev pub number_text : ℕ → List ℕ
number_text number = decimal number

abbrev pub signed_text : ℤ → List ℕ
signed_text number = signed_decimal number

abbrev pub csr_by : ℕ → Option Csr → List ℕ
csr_by number None = hexadecimal number
csr_by number (Some csr) = csr_name csr

abbrev pub csr_text : ℕ → List ℕ
csr_text number = csr_by number (csr_of_number number)

-- the source of a register access: a register, or an immediate in its place
abbrev pub csr_source : CsrOp → ℕ → List ℕ
csr_source Csrrw rs1 = register_name rs1
csr_source Csrrs rs1 = register_name rs1
csr_source Csrrc rs1 = register_name rs1
csr_source Csrrwi rs1 = decimal rs1
csr_source Csrrsi rs1 = decimal rs1
csr_source Csrrci rs1 = decimal rs1

-- a shift by an immediate has its amount
abbrev pub operand_text : (shifts : Bool) → ℤ → ℕ → List ℕ
operand_text true imm shamt = hexadecimal shamt
operand_text false imm shamt = signed_decimal imm

-- ---- forms: a mnemonic with two or three operands, with a place in memory, and with an address alone

unfoldable pub two : (name a b : List ℕ) → List ℕ
two name a b = name ++ (codes " " ++ (a ++ (codes "," ++ b)))

unfoldable pub three : (name a b c : List ℕ) → List ℕ
three name a b c = name ++ (codes " " ++ (a ++ (codes "," ++ (b ++ (codes "," ++ c)))))

unfoldable pub at_offset : (name value : List ℕ) → ℤ → (base : List ℕ) → List ℕ
at_offset name value imm base = name ++ (codes " " ++ (value ++ (codes "," ++ (signed_decimal imm ++ (codes "(" ++ (base ++ codes ")"))))))

unfoldable pub at_address : (name value base : List ℕ) → List ℕ
at_address name value base = name ++ (codes " " ++ (value ++ (codes ",(" ++ (base ++ codes ")"))))

unfoldable pub atomic_name : List ℕ → ℕ → Bool → Bool → List ℕ
atomic_name name width aq rl = name ++ (width_suffix width ++ order_suffix aq rl)

unfoldable pub atomic : List ℕ → (rd rs2 rs1 : ℕ) → List ℕ
atomic name rd rs2 rs1 =
    name ++ (codes " " ++ (register_name rd ++ (codes "," ++ (register_name rs2 ++ (codes ",(" ++ (register_name rs1 ++ codes ")"))))))

-- ---- the operands of each form

abbrev pub upper : List ℕ → (rd : ℕ) → ℤ → List ℕ
upper name rd imm = two name (register_name rd) (upper_text imm)

abbrev pub jump : (rd : ℕ) → ℤ → List ℕ
jump rd imm = two (codes "jal") (register_name rd) (target_text imm)

abbrev pub branch : List ℕ → (rs1 rs2 : ℕ) → ℤ → List ℕ
branch name rs1 rs2 imm = three name (register_name rs1) (register_name rs2) (target_text imm)

abbrev pub registers : List ℕ → (rd rs1 rs2 : ℕ) → List ℕ
registers name rd rs1 rs2 = three name (register_name rd) (register_name rs1) (register_name rs2)

abbrev pub op_imm : OpImmOp → (rd rs1 : ℕ) → ℤ → ℕ → List ℕ
op_imm op rd rs1 imm shamt = three (op_imm_name op) (register_name rd) (register_name rs1) (operand_text (is_shift op) imm shamt)

abbrev pub op_imm_32 : OpImm32Op → (rd rs1 : ℕ) → ℤ → ℕ → List ℕ
op_imm_32 op rd rs1 imm shamt = three (op_imm_32_name op) (register_name rd) (register_name rs1) (operand_text (is_shift_32 op) imm shamt)

abbrev pub csr : CsrOp → (rd rs1 number : ℕ) → List ℕ
csr op rd rs1 number = three (csr_op_name op) (register_name rd) (csr_text number) (csr_source op rs1)

abbrev pub load_reserved : (width : ℕ) → Bool → Bool → (rd rs1 : ℕ) → List ℕ
load_reserved width aq rl rd rs1 = at_address (atomic_name (codes "lr") width aq rl) (register_name rd) (register_name rs1)

abbrev pub atomic_operation : List ℕ → (width : ℕ) → Bool → Bool → (rd rs2 rs1 : ℕ) → List ℕ
atomic_operation name width aq rl rd rs2 rs1 = atomic (atomic_name name width aq rl) rd rs2 rs1

-- a load has a register that it sets, a store one that it stores, and a fence two registers
unfoldable pub hyper_text : HyperOp → ℕ → ℕ → ℕ → List ℕ
hyper_text HlvB rd rs1 rs2 = at_address (hyper_name HlvB) (register_name rd) (register_name rs1)
hyper_text HlvBu rd rs1 rs2 = at_address (hyper_name HlvBu) (register_name rd) (register_name rs1)
hyper_text HlvH rd rs1 rs2 = at_address (hyper_name HlvH) (register_name rd) (register_name rs1)
hyper_text HlvHu rd rs1 rs2 = at_address (hyper_name HlvHu) (register_name rd) (register_name rs1)
hyper_text HlvxHu rd rs1 rs2 = at_address (hyper_name HlvxHu) (register_name rd) (register_name rs1)
hyper_text HlvW rd rs1 rs2 = at_address (hyper_name HlvW) (register_name rd) (register_name rs1)
hyper_text HlvWu rd rs1 rs2 = at_address (hyper_name HlvWu) (register_name rd) (register_name rs1)
hyper_text HlvxWu rd rs1 rs2 = at_address (hyper_name HlvxWu) (register_name rd) (register_name rs1)
hyper_text HlvD rd rs1 rs2 = at_address (hyper_name HlvD) (register_name rd) (register_name rs1)
hyper_text HsvB rd rs1 rs2 = at_address (hyper_name HsvB) (register_name rs2) (register_name rs1)
hyper_text HsvH rd rs1 rs2 = at_address (hyper_name HsvH) (register_name rs2) (register_name rs1)
hyper_text HsvW rd rs1 rs2 = at_address (hyper_name HsvW) (register_name rs2) (register_name rs1)
hyper_text HsvD rd rs1 rs2 = at_address (hyper_name HsvD) (register_name rs2) (register_name rs1)
hyper_text HfenceVvma rd rs1 rs2 = two (hyper_name HfenceVvma) (register_name rs1) (register_name rs2)
hyper_text HfenceGvma rd rs1 rs2 = two (hyper_name HfenceGvma) (register_name rs1) (register_name rs2)

-- ---- the whole

unfoldable pub instruction_text : Instr → List ℕ
instruction_text (Instr.Lui rd imm) = upper (codes "lui") rd imm
instruction_text (Instr.Auipc rd imm) = upper (codes "auipc") rd imm
instruction_text (Instr.Jal rd imm) = jump rd imm
instruction_text (Instr.Jalr rd rs1 imm) = at_offset (codes "jalr") (register_name rd) imm (register_name rs1)
instruction_text (Instr.Branch op rs1 rs2 imm) = branch (branch_name op) rs1 rs2 imm
instruction_text (Instr.Load op rd rs1 imm) = at_offset (load_name op) (register_name rd) imm (register_name rs1)
instruction_text (Instr.Store op rs1 rs2 imm) = at_offset (store_name op) (register_name rs2) imm (register_name rs1)
instruction_text (Instr.OpImm op rd rs1 imm shamt) = op_imm op rd rs1 imm shamt
instruction_text (Instr.OpImm32 op rd rs1 imm shamt) = op_imm_32 op rd rs1 imm shamt
instruction_text (Instr.Op op rd rs1 rs2) = registers (op_name op) rd rs1 rs2
instruction_text (Instr.Op32 op rd rs1 rs2) = registers (op_32_name op) rd rs1 rs2
instruction_text Instr.Fence = codes "fence"
instruction_text Instr.FenceI = codes "fence.i"
instruction_text Instr.Ecall = codes "ecall"
instruction_text Instr.Ebreak = codes "ebreak"
instruction_text Instr.Sret = codes "sret"
instruction_text Instr.Wfi = codes "wfi"
instruction_text (Instr.SfenceVma rs1 rs2) = two (codes "sfence.vma") (register_name rs1) (register_name rs2)
instruction_text (Instr.Csr op rd rs1 number) = csr op rd rs1 number
instruction_text (Instr.Lr rd rs1 width aq rl) = load_reserved width aq rl rd rs1
instruction_text (Instr.Sc rd rs1 rs2 width aq rl) = atomic_operation (codes "sc") width aq rl rd rs2 rs1
instruction_text (Instr.Amo op rd rs1 rs2 width aq rl) = atomic_operation (amo_name op) width aq rl rd rs2 rs1
instruction_text (Instr.Hyper op rd rs1 rs2) = hyper_text op rd rs1 rs2
