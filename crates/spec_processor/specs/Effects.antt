-- The effect table: what each instruction does to the registers and the pc, or asks of the rest of the machine, over
-- whole numbers modulo 2 ^ 64.
-- RISC-V Unprivileged manual, "RV32I Base Integer Instruction Set", "RV64I Base Integer Instruction Set", the
-- extensions "M", "A", "Zicsr" and "Zifencei"; Privileged manual, "Supervisor Instructions".
use Rattle.std.specs.Prelude.{ℕ, ◌+◌, ◌-◌, ◌*◌, ◌/◌, ◌%◌, ◌^◌, ◌==◌, if◌then◌else◌, Bool, true, false, not, List, ℤ, pos, ◌*ℤ◌, nat_lt}
use Rattle.std.specs.Prelude.{int_lt, int_div, int_rem, bit_and, bit_or, bit_xor, min, max, slice_index, slice_set}
use Rattle.std.specs.Int.{Width, w32, w64, w128, cast_signed, cast_unsigned, int_shr}
use Rattle.spec_processor.specs.Bits.{flag}
use Rattle.spec_processor.specs.Bytes.{instruction_size}
use Rattle.spec_processor.specs.declared.instruction.Instr.{Instr}
use Rattle.spec_processor.specs.declared.instruction.BranchOp.{BranchOp}
use Rattle.spec_processor.specs.declared.instruction.BranchOp.TheVariants.{Beq, Bne, Blt, Bge, Bltu, Bgeu}
use Rattle.spec_processor.specs.declared.instruction.LoadOp.{LoadOp}
use Rattle.spec_processor.specs.declared.instruction.LoadOp.TheVariants.{Lb, Lh, Lw, Ld, Lbu, Lhu, Lwu}
use Rattle.spec_processor.specs.declared.instruction.StoreOp.{StoreOp}
use Rattle.spec_processor.specs.declared.instruction.StoreOp.TheVariants.{Sb, Sh, Sw, Sd}
use Rattle.spec_processor.specs.declared.instruction.OpImmOp.{OpImmOp}
use Rattle.spec_processor.specs.declared.instruction.OpImmOp.TheVariants.{Addi, Slti, Sltiu, Xori, Ori, Andi, Slli, Srli, Srai}
use Rattle.spec_processor.specs.declared.instruction.OpImm32Op.{OpImm32Op}
use Rattle.spec_processor.specs.declared.instruction.OpImm32Op.TheVariants.{Addiw, Slliw, Srliw, Sraiw}
use Rattle.spec_processor.specs.declared.instruction.OpOp.{OpOp}
use Rattle.spec_processor.specs.declared.instruction.OpOp.TheVariants.{Add, Sll, Slt, Sltu, Xor, Srl, Or, And, Sub, Sra, Mul, Mulh, Mulhsu}
use Rattle.spec_processor.specs.declared.instruction.OpOp.TheVariants.{Mulhu, Div, Divu, Rem, Remu}
use Rattle.spec_processor.specs.declared.instruction.Op32Op.{Op32Op}
use Rattle.spec_processor.specs.declared.instruction.Op32Op.TheVariants.{Addw, Sllw, Srlw, Subw, Sraw, Mulw, Divw, Divuw, Remw, Remuw}
use Rattle.spec_processor.specs.declared.instruction.CsrOp.{CsrOp}
use Rattle.spec_processor.specs.declared.instruction.CsrOp.TheVariants.{Csrrw, Csrrs, Csrrc, Csrrwi, Csrrsi, Csrrci}
use Rattle.spec_processor.specs.declared.instruction.AmoOp.{AmoOp}
use Rattle.spec_processor.specs.declared.instruction.AmoOp.TheVariants.{Amoswap, Amoadd, Amoxor, Amoand, Amoor, Amomin, Amomax, Amominu, Amomaxu}
use Rattle.spec_processor.specs.declared.effect.Effect.{Effect}

-- register n, and the registers with n set. Register 0 stays as it is, which is 0
abbrev pub register : List ℕ → ℕ → ℕ
register registers n = slice_index registers n

abbrev pub set_register : List ℕ → ℕ → ℕ → List ℕ
set_register registers n value = if n == 0 then registers else slice_set registers n value

-- ---- machine words

-- sums, differences and products modulo 2 ^ 64
abbrev pub plus : ℕ → ℕ → ℕ
plus a b = (a + b) % 2 ^ 64

abbrev pub minus : ℕ → ℕ → ℕ
minus a b = (a + (2 ^ 64 - b)) % 2 ^ 64

abbrev pub times : ℕ → ℕ → ℕ
times a b = (a * b) % 2 ^ 64

-- the machine word of a signed number; an immediate is one
abbrev pub machine_word : ℤ → ℕ
machine_word z = cast_unsigned w64 z

abbrev pub immediate : ℤ → ℕ
immediate imm = machine_word imm

-- a machine word, and its low 32 bits, read as signed
abbrev pub signed_word : ℕ → ℤ
signed_word a = cast_signed w64 a

abbrev pub low_word : ℕ → ℕ
low_word a = a % 2 ^ 32

abbrev pub signed_low : ℕ → ℤ
signed_low a = cast_signed w32 (low_word a)

-- the low 32 bits, sign-extended
abbrev pub sign_extend : ℕ → ℕ
sign_extend a = machine_word (signed_low a)

-- a number with bit 0 cleared
abbrev pub even : ℕ → ℕ
even a = a - a % 2

-- ---- shifts, by a count below 64; those of the low 32 bits by one below 32

abbrev pub shift_left : ℕ → ℕ → ℕ
shift_left a count = times a (2 ^ count)

abbrev pub shift_right : ℕ → ℕ → ℕ
shift_right a count = a / 2 ^ count

abbrev pub shift_right_signed : ℕ → ℕ → ℕ
shift_right_signed a count = machine_word (int_shr (signed_word a) count)

abbrev pub shift_left_low : ℕ → ℕ → ℕ
shift_left_low a count = sign_extend (shift_left a count)

abbrev pub shift_right_low : ℕ → ℕ → ℕ
shift_right_low a count = sign_extend (low_word a / 2 ^ count)

abbrev pub shift_right_signed_low : ℕ → ℕ → ℕ
shift_right_signed_low a count = machine_word (int_shr (signed_low a) count)

-- ---- products and quotients

-- the upper 64 bits of a product
abbrev pub upper : ℤ → ℕ
upper product = cast_unsigned w128 product / 2 ^ 64

-- quotients round toward zero; by zero they are all ones, and the remainder is the dividend. The one signed quotient
-- that overflows is the dividend, with remainder 0
abbrev pub all_ones : ℕ
all_ones = 2 ^ 64 - 1

abbrev pub quotient : ℕ → ℕ → ℕ
quotient a b = if b == 0 then all_ones else machine_word (int_div (signed_word a) (signed_word b))

abbrev pub quotient_unsigned : ℕ → ℕ → ℕ
quotient_unsigned a b = if b == 0 then all_ones else a / b

abbrev pub remainder : ℕ → ℕ → ℕ
remainder a b = if b == 0 then a else machine_word (int_rem (signed_word a) (signed_word b))

abbrev pub remainder_unsigned : ℕ → ℕ → ℕ
remainder_unsigned a b = if b == 0 then a else a % b

abbrev pub quotient_low : ℕ → ℕ → ℕ
quotient_low a b = if low_word b == 0 then all_ones else sign_extend (machine_word (int_div (signed_low a) (signed_low b)))

abbrev pub quotient_unsigned_low : ℕ → ℕ → ℕ
quotient_unsigned_low a b = if low_word b == 0 then all_ones else sign_extend (low_word a / low_word b)

abbrev pub remainder_low : ℕ → ℕ → ℕ
remainder_low a b = if low_word b == 0 then sign_extend a else machine_word (int_rem (signed_low a) (signed_low b))

abbrev pub remainder_unsigned_low : ℕ → ℕ → ℕ
remainder_unsigned_low a b = if low_word b == 0 then sign_extend a else sign_extend (low_word a % low_word b)

-- ---- computations. a and b are the values of rs1 and rs2, i is the immediate's machine word

unfoldable pub op_value : OpOp → ℕ → ℕ → ℕ
op_value Add a b = plus a b
op_value Sub a b = minus a b
op_value Sll a b = shift_left a (b % 64)
op_value Slt a b = flag (int_lt (signed_word a) (signed_word b))
op_value Sltu a b = flag (nat_lt a b)
op_value Xor a b = bit_xor a b
op_value Srl a b = shift_right a (b % 64)
op_value Sra a b = shift_right_signed a (b % 64)
op_value Or a b = bit_or a b
op_value And a b = bit_and a b
op_value Mul a b = times a b
op_value Mulh a b = upper (signed_word a *ℤ signed_word b)
op_value Mulhsu a b = upper (signed_word a *ℤ pos b)
op_value Mulhu a b = a * b / 2 ^ 64
op_value Div a b = quotient a b
op_value Divu a b = quotient_unsigned a b
op_value Rem a b = remainder a b
op_value Remu a b = remainder_unsigned a b

unfoldable pub op_32_value : Op32Op → ℕ → ℕ → ℕ
op_32_value Addw a b = sign_extend (plus a b)
op_32_value Subw a b = sign_extend (minus a b)
op_32_value Sllw a b = shift_left_low a (b % 32)
op_32_value Srlw a b = shift_right_low a (b % 32)
op_32_value Sraw a b = shift_right_signed_low a (b % 32)
op_32_value Mulw a b = sign_extend (times a b)
op_32_value Divw a b = quotient_low a b
op_32_value Divuw a b = quotient_unsigned_low a b
op_32_value Remw a b = remainder_low a b
op_32_value Remuw a b = remainder_unsigned_low a b

unfoldable pub op_imm_value : OpImmOp → ℕ → ℕ → ℕ → ℕ
op_imm_value Addi a i shamt = plus a i
op_imm_value Slti a i shamt = flag (int_lt (signed_word a) (signed_word i))
op_imm_value Sltiu a i shamt = flag (nat_lt a i)
op_imm_value Xori a i shamt = bit_xor a i
op_imm_value Ori a i shamt = bit_or a i
op_imm_value Andi a i shamt = bit_and a i
op_imm_value Slli a i shamt = shift_left a shamt
op_imm_value Srli a i shamt = shift_right a shamt
op_imm_value Srai a i shamt = shift_right_signed a shamt

unfoldable pub op_imm_32_value : OpImm32Op → ℕ → ℕ → ℕ → ℕ
op_imm_32_value Addiw a i shamt = sign_extend (plus a i)
op_imm_32_value Slliw a i shamt = shift_left_low a shamt
op_imm_32_value Srliw a i shamt = shift_right_low a shamt
op_imm_32_value Sraiw a i shamt = shift_right_signed_low a shamt

unfoldable pub branch_taken : BranchOp → ℕ → ℕ → Bool
branch_taken Beq a b = a == b
branch_taken Bne a b = not (a == b)
branch_taken Blt a b = int_lt (signed_word a) (signed_word b)
branch_taken Bge a b = not (int_lt (signed_word a) (signed_word b))
branch_taken Bltu a b = nat_lt a b
branch_taken Bgeu a b = not (nat_lt a b)

-- ---- loads, stores and register accesses

-- the width of a load or a store in bytes, and whether a load sign-extends
unfoldable pub load_width : LoadOp → ℕ
load_width Lb = 1
load_width Lh = 2
load_width Lw = 4
load_width Ld = 8
load_width Lbu = 1
load_width Lhu = 2
load_width Lwu = 4

unfoldable pub load_signed : LoadOp → Bool
load_signed Lb = true
load_signed Lh = true
load_signed Lw = true
load_signed Ld = true
load_signed Lbu = false
load_signed Lhu = false
load_signed Lwu = false

unfoldable pub store_width : StoreOp → ℕ
store_width Sb = 1
store_width Sh = 2
store_width Sw = 4
store_width Sd = 8

-- the operand of a register access: rs1's value, or the immediate that stands in its place
unfoldable pub csr_operand : CsrOp → ℕ → ℕ → ℕ
csr_operand Csrrw a rs1 = a
csr_operand Csrrs a rs1 = a
csr_operand Csrrc a rs1 = a
csr_operand Csrrwi a rs1 = rs1
csr_operand Csrrsi a rs1 = rs1
csr_operand Csrrci a rs1 = rs1

-- the set and clear forms write where rs1, or the immediate, is not zero
unfoldable pub csr_writes : CsrOp → ℕ → Bool
csr_writes Csrrw rs1 = true
csr_writes Csrrs rs1 = not (rs1 == 0)
csr_writes Csrrc rs1 = not (rs1 == 0)
csr_writes Csrrwi rs1 = true
csr_writes Csrrsi rs1 = not (rs1 == 0)
csr_writes Csrrci rs1 = not (rs1 == 0)

-- ---- atomic operations

-- what an operation makes of a read value and a source, as words of a width; the signed ones compare them as signed
-- numbers of that width
unfoldable pub amo_word : Width → AmoOp → ℕ → ℕ → ℕ
amo_word w Amoswap old src = src
amo_word w Amoadd old src = old + src
amo_word w Amoxor old src = bit_xor old src
amo_word w Amoand old src = bit_and old src
amo_word w Amoor old src = bit_or old src
amo_word w Amomin old src = if int_lt (cast_signed w src) (cast_signed w old) then src else old
amo_word w Amomax old src = if int_lt (cast_signed w old) (cast_signed w src) then src else old
amo_word w Amominu old src = min old src
amo_word w Amomaxu old src = max old src

-- the value that is stored: at width 4 of the operands' low 32 bits, zero-extended
unfoldable pub amo_value : AmoOp → ℕ → ℕ → ℕ → ℕ
amo_value op width old src =
    if width == 4 then low_word (amo_word w32 op (low_word old) (low_word src)) else amo_word w64 op old src % 2 ^ 64

-- ---- the table

abbrev pub next_pc : ℕ → ℕ
next_pc pc = plus pc instruction_size

-- a jump that leaves a link in rd
abbrev pub jump : ℕ → ℕ → ℕ → Effect
jump rd link target = if target % instruction_size == 0 then Effect.Set rd link target else Effect.MisalignedJump target

-- a branch sets no register
abbrev pub branch : Bool → ℕ → ℕ → Effect
branch taken target next = if taken then jump 0 0 target else Effect.Set 0 0 next

unfoldable pub effect_of : Instr → List ℕ → ℕ → Effect
effect_of (Instr.Lui rd imm) registers pc = Effect.Set rd (immediate imm) (next_pc pc)
effect_of (Instr.Auipc rd imm) registers pc = Effect.Set rd (plus pc (immediate imm)) (next_pc pc)
effect_of (Instr.Jal rd imm) registers pc = jump rd (next_pc pc) (plus pc (immediate imm))
effect_of (Instr.Jalr rd rs1 imm) registers pc = jump rd (next_pc pc) (even (plus (register registers rs1) (immediate imm)))
effect_of (Instr.Branch op rs1 rs2 imm) registers pc =
    branch (branch_taken op (register registers rs1) (register registers rs2)) (plus pc (immediate imm)) (next_pc pc)
effect_of (Instr.Load op rd rs1 imm) registers pc =
    Effect.Load rd (plus (register registers rs1) (immediate imm)) (load_width op) (load_signed op)
effect_of (Instr.Store op rs1 rs2 imm) registers pc =
    Effect.Store (plus (register registers rs1) (immediate imm)) (store_width op) (register registers rs2)
effect_of (Instr.OpImm op rd rs1 imm shamt) registers pc =
    Effect.Set rd (op_imm_value op (register registers rs1) (immediate imm) shamt) (next_pc pc)
effect_of (Instr.OpImm32 op rd rs1 imm shamt) registers pc =
    Effect.Set rd (op_imm_32_value op (register registers rs1) (immediate imm) shamt) (next_pc pc)
effect_of (Instr.Op op rd rs1 rs2) registers pc =
    Effect.Set rd (op_value op (register registers rs1) (register registers rs2)) (next_pc pc)
effect_of (Instr.Op32 op rd rs1 rs2) registers pc =
    Effect.Set rd (op_32_value op (register registers rs1) (register registers rs2)) (next_pc pc)
effect_of Instr.Fence registers pc = Effect.Fence
effect_of Instr.FenceI registers pc = Effect.Fence
effect_of Instr.Ecall registers pc = Effect.Ecall
effect_of Instr.Ebreak registers pc = Effect.Ebreak
effect_of Instr.Sret registers pc = Effect.Sret
effect_of Instr.Wfi registers pc = Effect.Wfi
effect_of (Instr.SfenceVma rs1 rs2) registers pc = Effect.SfenceVma
effect_of (Instr.Csr op rd rs1 csr) registers pc =
    Effect.Csr rd csr op (csr_operand op (register registers rs1) rs1) (csr_writes op rs1)
effect_of (Instr.Lr rd rs1 width aq rl) registers pc = Effect.LoadReserved rd (register registers rs1) width
effect_of (Instr.Sc rd rs1 rs2 width aq rl) registers pc =
    Effect.StoreConditional rd (register registers rs1) width (register registers rs2)
effect_of (Instr.Amo op rd rs1 rs2 width aq rl) registers pc =
    Effect.Amo rd (register registers rs1) width op (register registers rs2)
effect_of (Instr.Hyper op rd rs1 rs2) registers pc = Effect.Hyper
