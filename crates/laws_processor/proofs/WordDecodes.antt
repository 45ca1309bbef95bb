-- The word of an instruction whose fields are in range decodes to it.
use Rattle.std.proofs.Common.{◌≡◌, ℕ, suc, ◌+◌, ◌*◌, ◌/◌, ◌%◌, ◌^◌, ◌<◌, ◌≤◌, refl, sym, ◌∙◌, ap, subst, Bool, true, false, arith, ℤ, pos, negsuc, inl, inr}
use Rattle.std.specs.Prelude.{◌==◌, ◌&&◌, Some, nat_lt, if◌then◌else◌}
use Rattle.std.specs.Int.{from_bool}
use Rattle.std.proofs.lemmas.Bool.{ltb-true, eqb-true, and_parts}
use Rattle.spec_processor.specs.declared.instruction.Instr.{Instr}
use Rattle.spec_processor.specs.declared.instruction.BranchOp.{BranchOp}
use Rattle.spec_processor.specs.declared.instruction.BranchOp.TheVariants.{Beq, Bne, Blt, Bge, Bltu, Bgeu}
use Rattle.spec_processor.specs.declared.instruction.LoadOp.{LoadOp}
use Rattle.spec_processor.specs.declared.instruction.LoadOp.TheVariants.{Lb, Lh, Lw, Ld, Lbu, Lhu, Lwu}
use Rattle.spec_processor.specs.declared.instruction.StoreOp.{StoreOp}
use Rattle.spec_processor.specs.declared.instruction.StoreOp.TheVariants.{Sb, Sh, Sw, Sd}
use Rattle.spec_processor.specs.declared.instruction.OpImmOp.{OpImmOp}
use Rattle.spec_processor.specs.declared.instruction.OpImmOp.TheVariants.{Addi, Slti, Sltiu, Xori, Ori, Andi, Slli, Srli, Srai}
use Rattle.spec_processor.specs.declared.instruction.OpImm32Op.{OpImm32Op}
use Rattle.spec_processor.specs.declared.instruction.OpImm32Op.TheVariants.{Addiw, Slliw, Srliw, Sraiw}
use Rattle.spec_processor.specs.declared.instruction.OpOp.{OpOp}
use Rattle.spec_processor.specs.declared.instruction.OpOp.TheVariants.{Add, Sll, Slt, Sltu, Xor, Srl, Or, And, Sub, Sra, Mul, Mulh, Mulhsu, Mulhu, Div, Divu, Rem, Remu}
use Rattle.spec_processor.specs.declared.instruction.Op32Op.{Op32Op}
use Rattle.spec_processor.specs.declared.instruction.Op32Op.TheVariants.{Addw, Sllw, Srlw, Subw, Sraw, Mulw, Divw, Divuw, Remw, Remuw}
use Rattle.spec_processor.specs.declared.instruction.CsrOp.{CsrOp}
use Rattle.spec_processor.specs.declared.instruction.CsrOp.TheVariants.{Csrrw, Csrrs, Csrrc, Csrrwi, Csrrsi, Csrrci}
use Rattle.spec_processor.specs.declared.instruction.AmoOp.{AmoOp}
use Rattle.spec_processor.specs.declared.instruction.AmoOp.TheVariants.{Amoswap, Amoadd, Amoxor, Amoand, Amoor, Amomin, Amomax, Amominu, Amomaxu}
use Rattle.spec_processor.specs.declared.instruction.HyperOp.{HyperOp}
use Rattle.spec_processor.specs.declared.instruction.HyperOp.TheVariants.{HlvB, HlvBu, HlvH, HlvHu, HlvxHu, HlvW, HlvWu, HlvxWu, HlvD, HsvB, HsvH, HsvW, HsvD, HfenceVvma, HfenceGvma}
use Rattle.spec_processor.specs.Instructions.{bits, lui, auipc, jal, jalr, branch, load, store, op_imm, shift, op_imm_32, shift_32, op_op}
use Rattle.spec_processor.specs.Instructions.{op_32, plain, sfence, csr, lr, sc, amo, hyper_load, hyper_store, rows, instruction_of}
use Rattle.spec_processor.specs.Encoding.{fits, is_register, is_immediate, is_operand, is_shift, is_shift_32, is_hyper_load, is_width}
use Rattle.spec_processor.specs.Encoding.{is_zero, imm_bits, r_word, i_word, s_word, b_word, u_word, j_word, branch_funct3, load_funct3}
use Rattle.spec_processor.specs.Encoding.{store_funct3, op_imm_funct3, op_imm_32_funct3, arithmetic_bit, arithmetic_bit_32, op_funct7}
use Rattle.spec_processor.specs.Encoding.{op_funct3, op_32_funct7, op_32_funct3, csr_funct3, amo_funct5, hyper_funct7, hyper_funct3}
use Rattle.spec_processor.specs.Encoding.{hyper_number, amo_funct7, word_of}
use Rattle.laws_processor.proofs.Decoding.{IsOnlyRow, found, mask_opcode, mask_funct3, mask_funct7, mask_funct6, mask_funct5, mask_funct5_rs2, mask_funct7_rs2, mask_funct7_no_rd}
use Rattle.laws_processor.proofs.WordFields.{r_opcode, r_rd, r_funct3, r_rs1, r_rs2, r_funct7, r_rd_low, r_rd_high, r_funct7_low}
use Rattle.laws_processor.proofs.WordFields.{r_funct7_high, r_funct5, r_aq, r_rl, i_opcode, i_rd, i_funct3, i_rs1, i_field, i_count}
use Rattle.laws_processor.proofs.WordFields.{i_count_low, i_funct6, i_funct7, u_opcode, u_rd, u_field, j_opcode, j_rd, j_12_20, j_20}
use Rattle.laws_processor.proofs.WordFields.{j_21_31, j_31, signed_12, signed_13, signed_21, signed_32, step_13, step_21, step_32}
use Rattle.laws_processor.proofs.EffectRequests.{four_or_eight}

-- ---- tests that hold

both_3 : (a b c : Bool) → (a && b && c) ≡ true → (a ≡ true) × (b ≡ true) × (c ≡ true)
both_3 a b c h = let p = and_parts (a && b) c h in let q = and_parts a b p.0 in (q.0, q.1, p.1)

both_4 : (a b c d : Bool) → (a && b && c && d) ≡ true → (a ≡ true) × (b ≡ true) × (c ≡ true) × (d ≡ true)
both_4 a b c d h = let p = and_parts (a && b && c) d h in let q = both_3 a b c p.0 in (q.0, q.1, q.2, p.1)

below_32 : (n : ℕ) → is_register n ≡ true → n < 32
below_32 n h = ltb-true n 32 h

-- an instruction that its row's form makes of its word
abbrev Decodes : Instr → Type 0
Decodes instr = instruction_of (word_of instr) ≡ Some instr

branch-only : (op : BranchOp) → IsOnlyRow 0x707F (0x63 + 2 ^ 12 * branch_funct3 op) (branch op)
unfolding rows branch_funct3
branch-only Beq = refl
branch-only Bne = refl
branch-only Blt = refl
branch-only Bge = refl
branch-only Bltu = refl
branch-only Bgeu = refl

load-only : (op : LoadOp) → IsOnlyRow 0x707F (0x03 + 2 ^ 12 * load_funct3 op) (load op)
unfolding rows load_funct3
load-only Lb = refl
load-only Lh = refl
load-only Lw = refl
load-only Ld = refl
load-only Lbu = refl
load-only Lhu = refl
load-only Lwu = refl

store-only : (op : StoreOp) → IsOnlyRow 0x707F (0x23 + 2 ^ 12 * store_funct3 op) (store op)
unfolding rows store_funct3
store-only Sb = refl
store-only Sh = refl
store-only Sw = refl
store-only Sd = refl

op_op-only : (op : OpOp) → IsOnlyRow 0xFE00707F (0x33 + 2 ^ 12 * op_funct3 op + 2 ^ 25 * op_funct7 op) (op_op op)
unfolding rows op_funct3 op_funct7
op_op-only Add = refl
op_op-only Sll = refl
op_op-only Slt = refl
op_op-only Sltu = refl
op_op-only Xor = refl
op_op-only Srl = refl
op_op-only Or = refl
op_op-only And = refl
op_op-only Sub = refl
op_op-only Sra = refl
op_op-only Mul = refl
op_op-only Mulh = refl
op_op-only Mulhsu = refl
op_op-only Mulhu = refl
op_op-only Div = refl
op_op-only Divu = refl
op_op-only Rem = refl
op_op-only Remu = refl

op_32-only : (op : Op32Op) → IsOnlyRow 0xFE00707F (0x3B + 2 ^ 12 * op_32_funct3 op + 2 ^ 25 * op_32_funct7 op) (op_32 op)
unfolding rows op_32_funct3 op_32_funct7
op_32-only Addw = refl
op_32-only Sllw = refl
op_32-only Srlw = refl
op_32-only Subw = refl
op_32-only Sraw = refl
op_32-only Mulw = refl
op_32-only Divw = refl
op_32-only Divuw = refl
op_32-only Remw = refl
op_32-only Remuw = refl

csr-only : (op : CsrOp) → IsOnlyRow 0x707F (0x73 + 2 ^ 12 * csr_funct3 op) (csr op)
unfolding rows csr_funct3
csr-only Csrrw = refl
csr-only Csrrs = refl
csr-only Csrrc = refl
csr-only Csrrwi = refl
csr-only Csrrsi = refl
csr-only Csrrci = refl

amo_word-only : (op : AmoOp) → IsOnlyRow 0xF800707F (0x2F + 2 ^ 12 * 2 + 2 ^ 27 * amo_funct5 op) (amo op 4)
unfolding rows amo_funct5
amo_word-only Amoswap = refl
amo_word-only Amoadd = refl
amo_word-only Amoxor = refl
amo_word-only Amoand = refl
amo_word-only Amoor = refl
amo_word-only Amomin = refl
amo_word-only Amomax = refl
amo_word-only Amominu = refl
amo_word-only Amomaxu = refl

amo_double-only : (op : AmoOp) → IsOnlyRow 0xF800707F (0x2F + 2 ^ 12 * 3 + 2 ^ 27 * amo_funct5 op) (amo op 8)
unfolding rows amo_funct5
amo_double-only Amoswap = refl
amo_double-only Amoadd = refl
amo_double-only Amoxor = refl
amo_double-only Amoand = refl
amo_double-only Amoor = refl
amo_double-only Amomin = refl
amo_double-only Amomax = refl
amo_double-only Amominu = refl
amo_double-only Amomaxu = refl

branch_funct3-below : (op : BranchOp) → branch_funct3 op < 8
unfolding branch_funct3
branch_funct3-below Beq = omega arith
branch_funct3-below Bne = omega arith
branch_funct3-below Blt = omega arith
branch_funct3-below Bge = omega arith
branch_funct3-below Bltu = omega arith
branch_funct3-below Bgeu = omega arith

load_funct3-below : (op : LoadOp) → load_funct3 op < 8
unfolding load_funct3
load_funct3-below Lb = omega arith
load_funct3-below Lh = omega arith
load_funct3-below Lw = omega arith
load_funct3-below Ld = omega arith
load_funct3-below Lbu = omega arith
load_funct3-below Lhu = omega arith
load_funct3-below Lwu = omega arith

store_funct3-below : (op : StoreOp) → store_funct3 op < 8
unfolding store_funct3
store_funct3-below Sb = omega arith
store_funct3-below Sh = omega arith
store_funct3-below Sw = omega arith
store_funct3-below Sd = omega arith

op_imm_funct3-below : (op : OpImmOp) → op_imm_funct3 op < 8
unfolding op_imm_funct3
op_imm_funct3-below Addi = omega arith
op_imm_funct3-below Slti = omega arith
op_imm_funct3-below Sltiu = omega arith
op_imm_funct3-below Xori = omega arith
op_imm_funct3-below Ori = omega arith
op_imm_funct3-below Andi = omega arith
op_imm_funct3-below Slli = omega arith
op_imm_funct3-below Srli = omega arith
op_imm_funct3-below Srai = omega arith

op_imm_32_funct3-below : (op : OpImm32Op) → op_imm_32_funct3 op < 8
unfolding op_imm_32_funct3
op_imm_32_funct3-below Addiw = omega arith
op_imm_32_funct3-below Slliw = omega arith
op_imm_32_funct3-below Srliw = omega arith
op_imm_32_funct3-below Sraiw = omega arith

op_funct3-below : (op : OpOp) → op_funct3 op < 8
unfolding op_funct3
op_funct3-below Add = omega arith
op_funct3-below Sll = omega arith
op_funct3-below Slt = omega arith
op_funct3-below Sltu = omega arith
op_funct3-below Xor = omega arith
op_funct3-below Srl = omega arith
op_funct3-below Or = omega arith
op_funct3-below And = omega arith
op_funct3-below Sub = omega arith
op_funct3-below Sra = omega arith
op_funct3-below Mul = omega arith
op_funct3-below Mulh = omega arith
op_funct3-below Mulhsu = omega arith
op_funct3-below Mulhu = omega arith
op_funct3-below Div = omega arith
op_funct3-below Divu = omega arith
op_funct3-below Rem = omega arith
op_funct3-below Remu = omega arith

op_funct7-below : (op : OpOp) → op_funct7 op < 128
unfolding op_funct7
op_funct7-below Add = omega arith
op_funct7-below Sll = omega arith
op_funct7-below Slt = omega arith
op_funct7-below Sltu = omega arith
op_funct7-below Xor = omega arith
op_funct7-below Srl = omega arith
op_funct7-below Or = omega arith
op_funct7-below And = omega arith
op_funct7-below Sub = omega arith
op_funct7-below Sra = omega arith
op_funct7-below Mul = omega arith
op_funct7-below Mulh = omega arith
op_funct7-below Mulhsu = omega arith
op_funct7-below Mulhu = omega arith
op_funct7-below Div = omega arith
op_funct7-below Divu = omega arith
op_funct7-below Rem = omega arith
op_funct7-below Remu = omega arith

op_32_funct3-below : (op : Op32Op) → op_32_funct3 op < 8
unfolding op_32_funct3
op_32_funct3-below Addw = omega arith
op_32_funct3-below Sllw = omega arith
op_32_funct3-below Srlw = omega arith
op_32_funct3-below Subw = omega arith
op_32_funct3-below Sraw = omega arith
op_32_funct3-below Mulw = omega arith
op_32_funct3-below Divw = omega arith
op_32_funct3-below Divuw = omega arith
op_32_funct3-below Remw = omega arith
op_32_funct3-below Remuw = omega arith

op_32_funct7-below : (op : Op32Op) → op_32_funct7 op < 128
unfolding op_32_funct7
op_32_funct7-below Addw = omega arith
op_32_funct7-below Sllw = omega arith
op_32_funct7-below Srlw = omega arith
op_32_funct7-below Subw = omega arith
op_32_funct7-below Sraw = omega arith
op_32_funct7-below Mulw = omega arith
op_32_funct7-below Divw = omega arith
op_32_funct7-below Divuw = omega arith
op_32_funct7-below Remw = omega arith
op_32_funct7-below Remuw = omega arith

csr_funct3-below : (op : CsrOp) → csr_funct3 op < 8
unfolding csr_funct3
csr_funct3-below Csrrw = omega arith
csr_funct3-below Csrrs = omega arith
csr_funct3-below Csrrc = omega arith
csr_funct3-below Csrrwi = omega arith
csr_funct3-below Csrrsi = omega arith
csr_funct3-below Csrrci = omega arith

amo_funct5-below : (op : AmoOp) → amo_funct5 op < 32
unfolding amo_funct5
amo_funct5-below Amoswap = omega arith
amo_funct5-below Amoadd = omega arith
amo_funct5-below Amoxor = omega arith
amo_funct5-below Amoand = omega arith
amo_funct5-below Amoor = omega arith
amo_funct5-below Amomin = omega arith
amo_funct5-below Amomax = omega arith
amo_funct5-below Amominu = omega arith
amo_funct5-below Amomaxu = omega arith

hyper_funct3-below : (op : HyperOp) → hyper_funct3 op < 8
unfolding hyper_funct3
hyper_funct3-below HlvB = omega arith
hyper_funct3-below HlvBu = omega arith
hyper_funct3-below HlvH = omega arith
hyper_funct3-below HlvHu = omega arith
hyper_funct3-below HlvxHu = omega arith
hyper_funct3-below HlvW = omega arith
hyper_funct3-below HlvWu = omega arith
hyper_funct3-below HlvxWu = omega arith
hyper_funct3-below HlvD = omega arith
hyper_funct3-below HsvB = omega arith
hyper_funct3-below HsvH = omega arith
hyper_funct3-below HsvW = omega arith
hyper_funct3-below HsvD = omega arith
hyper_funct3-below HfenceVvma = omega arith
hyper_funct3-below HfenceGvma = omega arith

hyper_funct7-below : (op : HyperOp) → hyper_funct7 op < 128
unfolding hyper_funct7
hyper_funct7-below HlvB = omega arith
hyper_funct7-below HlvBu = omega arith
hyper_funct7-below HlvH = omega arith
hyper_funct7-below HlvHu = omega arith
hyper_funct7-below HlvxHu = omega arith
hyper_funct7-below HlvW = omega arith
hyper_funct7-below HlvWu = omega arith
hyper_funct7-below HlvxWu = omega arith
hyper_funct7-below HlvD = omega arith
hyper_funct7-below HsvB = omega arith
hyper_funct7-below HsvH = omega arith
hyper_funct7-below HsvW = omega arith
hyper_funct7-below HsvD = omega arith
hyper_funct7-below HfenceVvma = omega arith
hyper_funct7-below HfenceGvma = omega arith

-- ---- the field of 12 bits of a computation with an immediate

zero_bits : (imm : ℤ) → is_zero imm ≡ true → imm_bits imm 0 12 ≡ 0
zero_bits (pos n) h = omega (arith, eqb-true n 0 h)
zero_bits (negsuc n) h = absurd (omega (arith, eqb-true (suc n) 0 h))

operand_fits : (shifts : Bool) (limit : ℕ) (imm : ℤ) (n bit : ℕ) → is_operand shifts limit imm n ≡ true → limit ≤ 64
    → (shifts ≡ false → bit ≡ 0) → bit ≤ 2 ^ 10 → imm_bits imm 0 12 + n + bit < 4096
operand_fits true limit imm n bit h most none within =
    let q = and_parts (is_zero imm) (nat_lt n limit) h in omega (arith, zero_bits imm q.0, ltb-true n limit q.1)
operand_fits false limit imm n bit h most none within =
    let q = and_parts (is_immediate 12 1 imm) (n == 0) h in omega (arith, eqb-true n 0 q.1, none refl)

never : true ≡ false → ⊥
never e = cc

arithmetic_bit-none : (op : OpImmOp) → is_shift op ≡ false → arithmetic_bit op ≡ 0
unfolding is_shift arithmetic_bit
arithmetic_bit-none Addi h = refl
arithmetic_bit-none Slti h = refl
arithmetic_bit-none Sltiu h = refl
arithmetic_bit-none Xori h = refl
arithmetic_bit-none Ori h = refl
arithmetic_bit-none Andi h = refl
arithmetic_bit-none Slli h = refl
arithmetic_bit-none Srli h = refl
arithmetic_bit-none Srai h = absurd (never h)

arithmetic_bit-most : (op : OpImmOp) → arithmetic_bit op ≤ 2 ^ 10
unfolding arithmetic_bit
arithmetic_bit-most Addi = omega arith
arithmetic_bit-most Slti = omega arith
arithmetic_bit-most Sltiu = omega arith
arithmetic_bit-most Xori = omega arith
arithmetic_bit-most Ori = omega arith
arithmetic_bit-most Andi = omega arith
arithmetic_bit-most Slli = omega arith
arithmetic_bit-most Srli = omega arith
arithmetic_bit-most Srai = omega arith

pub field-below : (op : OpImmOp) (d a : ℕ) (imm : ℤ) (n : ℕ) → fits (Instr.OpImm op d a imm n) ≡ true
    → imm_bits imm 0 12 + n + arithmetic_bit op < 4096
unfolding fits
field-below op d a imm n h =
    let p = both_3 (is_register d) (is_register a) (is_operand (is_shift op) 64 imm n) h in
    operand_fits (is_shift op) 64 imm n (arithmetic_bit op) p.2 (omega arith) (arithmetic_bit-none op) (arithmetic_bit-most op)

arithmetic_bit_32-none : (op : OpImm32Op) → is_shift_32 op ≡ false → arithmetic_bit_32 op ≡ 0
unfolding is_shift_32 arithmetic_bit_32
arithmetic_bit_32-none Addiw h = refl
arithmetic_bit_32-none Slliw h = refl
arithmetic_bit_32-none Srliw h = refl
arithmetic_bit_32-none Sraiw h = absurd (never h)

arithmetic_bit_32-most : (op : OpImm32Op) → arithmetic_bit_32 op ≤ 2 ^ 10
unfolding arithmetic_bit_32
arithmetic_bit_32-most Addiw = omega arith
arithmetic_bit_32-most Slliw = omega arith
arithmetic_bit_32-most Srliw = omega arith
arithmetic_bit_32-most Sraiw = omega arith

pub field_32-below : (op : OpImm32Op) (d a : ℕ) (imm : ℤ) (n : ℕ) → fits (Instr.OpImm32 op d a imm n) ≡ true
    → imm_bits imm 0 12 + n + arithmetic_bit_32 op < 4096
unfolding fits
field_32-below op d a imm n h =
    let p = both_3 (is_register d) (is_register a) (is_operand (is_shift_32 op) 32 imm n) h in
    operand_fits (is_shift_32 op) 32 imm n (arithmetic_bit_32 op) p.2 (omega arith) (arithmetic_bit_32-none op) (arithmetic_bit_32-most op)

-- ---- the forms

lui-decodes : (d : ℕ) (imm : ℤ) → fits (Instr.Lui d imm) ≡ true → Decodes (Instr.Lui d imm)
unfolding fits word_of rows
lui-decodes d imm h =
    let p = and_parts (is_register d) (is_immediate 32 4096 imm) h in
    let in_d = below_32 d p.0 in
    let in_v : imm_bits imm 12 32 < 2 ^ 20 = omega arith in
    let w = u_word 0x37 d imm in
    let field : 2 ^ 12 * bits w 12 32 ≡ imm_bits imm 0 32 = omega (arith, u_field 0x37 d (imm_bits imm 12 32) (omega arith) in_d in_v, step_32 imm p.1) in
    found w 0x7F 0x37 lui (mask_opcode w 0x37 (u_opcode 0x37 d (imm_bits imm 12 32) (omega arith) in_d in_v)) refl
    ∙ ap Some (rw (u_rd 0x37 d (imm_bits imm 12 32) (omega arith) in_d in_v, field, signed_32 imm p.1) refl)

branch-decodes : (op : BranchOp) (a b : ℕ) (imm : ℤ) → fits (Instr.Branch op a b imm) ≡ true → Decodes (Instr.Branch op a b imm)
unfolding fits word_of
branch-decodes op a b imm h =
    let p = both_3 (is_register a) (is_register b) (is_immediate 13 2 imm) h in
    let in_a = below_32 a p.0 in
    let in_b = below_32 b p.1 in
    let in_f = branch_funct3-below op in
    let d = imm_bits imm 11 12 + 2 * imm_bits imm 1 5 in
    let g = imm_bits imm 5 11 + 2 ^ 6 * imm_bits imm 12 13 in
    let in_d : d < 32 = omega arith in
    let in_g : g < 128 = omega arith in
    let f = branch_funct3 op in
    let w = b_word 0x63 f a b imm in
    let in_o : 0x63 < 128 = omega arith in
    let field : 2 * bits w 8 12 + 2 ^ 5 * bits w 25 31 + 2 ^ 11 * bits w 7 8 + 2 ^ 12 * bits w 31 32 ≡ imm_bits imm 0 13 =
    omega (
      arith,
      r_rd_high 0x63 g f d a b in_o in_g in_f in_d in_a in_b,
      r_rd_low 0x63 g f d a b in_o in_g in_f in_d in_a in_b,
      r_funct7_low 0x63 g f d a b in_o in_g in_f in_d in_a in_b,
      r_funct7_high 0x63 g f d a b in_o in_g in_f in_d in_a in_b,
      step_13 imm p.2,
    ) in
    found w 0x707F (0x63 + 2 ^ 12 * f) (branch op)
    (mask_funct3 w 0x63 f (r_opcode 0x63 g f d a b in_o in_g in_f in_d in_a in_b) (r_funct3 0x63 g f d a b in_o in_g in_f in_d in_a in_b)) (branch-only op)
    ∙ ap Some (rw (r_rs1 0x63 g f d a b in_o in_g in_f in_d in_a in_b, r_rs2 0x63 g f d a b in_o in_g in_f in_d in_a in_b, field, signed_13 imm p.2) refl)

auipc-decodes : (d : ℕ) (imm : ℤ) → fits (Instr.Auipc d imm) ≡ true → Decodes (Instr.Auipc d imm)
unfolding fits word_of rows
auipc-decodes d imm h =
    let p = and_parts (is_register d) (is_immediate 32 4096 imm) h in
    let in_d = below_32 d p.0 in
    let in_v : imm_bits imm 12 32 < 2 ^ 20 = omega arith in
    let w = u_word 0x17 d imm in
    let field : 2 ^ 12 * bits w 12 32 ≡ imm_bits imm 0 32 = omega (arith, u_field 0x17 d (imm_bits imm 12 32) (omega arith) in_d in_v, step_32 imm p.1) in
    found w 0x7F 0x17 auipc (mask_opcode w 0x17 (u_opcode 0x17 d (imm_bits imm 12 32) (omega arith) in_d in_v)) refl
    ∙ ap Some (rw (u_rd 0x17 d (imm_bits imm 12 32) (omega arith) in_d in_v, field, signed_32 imm p.1) refl)

jal-decodes : (d : ℕ) (imm : ℤ) → fits (Instr.Jal d imm) ≡ true → Decodes (Instr.Jal d imm)
unfolding fits word_of rows
jal-decodes d imm h =
    let p = and_parts (is_register d) (is_immediate 21 2 imm) h in
    let in_o : 0x6F < 128 = omega arith in
    let in_d = below_32 d p.0 in
    let x = imm_bits imm 12 20 in
    let y = imm_bits imm 11 12 in
    let z = imm_bits imm 1 11 in
    let t = imm_bits imm 20 21 in
    let in_x : x < 256 = omega arith in
    let in_y : y < 2 = omega arith in
    let in_z : z < 1024 = omega arith in
    let in_t : t < 2 = omega arith in
    let w = j_word 0x6F d imm in
    let field : 2 * bits w 21 31 + 2 ^ 11 * bits w 20 21 + 2 ^ 12 * bits w 12 20 + 2 ^ 20 * bits w 31 32 ≡ imm_bits imm 0 21 =
    omega (
      arith,
      j_21_31 0x6F d x y z t in_o in_d in_x in_y in_z in_t,
      j_20 0x6F d x y z t in_o in_d in_x in_y in_z in_t,
      j_12_20 0x6F d x y z t in_o in_d in_x in_y in_z in_t,
      j_31 0x6F d x y z t in_o in_d in_x in_y in_z in_t,
      step_21 imm p.1,
    ) in
    found w 0x7F 0x6F jal (mask_opcode w 0x6F (j_opcode 0x6F d x y z t in_o in_d in_x in_y in_z in_t)) refl
    ∙ ap Some (rw (j_rd 0x6F d x y z t in_o in_d in_x in_y in_z in_t, field, signed_21 imm p.1) refl)

jalr-decodes : (d a : ℕ) (imm : ℤ) → fits (Instr.Jalr d a imm) ≡ true → Decodes (Instr.Jalr d a imm)
unfolding fits word_of rows
jalr-decodes d a imm h =
    let p = both_3 (is_register d) (is_register a) (is_immediate 12 1 imm) h in
    let in_o : 0x67 < 128 = omega arith in
    let in_f : 0 < 8 = omega arith in
    let in_d = below_32 d p.0 in
    let in_a = below_32 a p.1 in
    let v = imm_bits imm 0 12 in
    let in_v : v < 4096 = omega arith in
    let w = i_word 0x67 0 d a v in
    found w 0x707F (0x67 + 2 ^ 12 * 0) jalr (mask_funct3 w 0x67 0 (i_opcode 0x67 0 d a v in_o in_f in_d in_a in_v) (i_funct3 0x67 0 d a v in_o in_f in_d in_a in_v)) refl
    ∙ ap Some (rw (i_rd 0x67 0 d a v in_o in_f in_d in_a in_v, i_rs1 0x67 0 d a v in_o in_f in_d in_a in_v, i_field 0x67 0 d a v in_o in_f in_d in_a in_v, signed_12 imm p.2) refl)

load-decodes : (op : LoadOp) (d a : ℕ) (imm : ℤ) → fits (Instr.Load op d a imm) ≡ true → Decodes (Instr.Load op d a imm)
unfolding fits word_of
load-decodes op d a imm h =
    let p = both_3 (is_register d) (is_register a) (is_immediate 12 1 imm) h in
    let in_o : 0x03 < 128 = omega arith in
    let f = load_funct3 op in
    let in_f = load_funct3-below op in
    let in_d = below_32 d p.0 in
    let in_a = below_32 a p.1 in
    let v = imm_bits imm 0 12 in
    let in_v : v < 4096 = omega arith in
    let w = i_word 0x03 f d a v in
    found w 0x707F (0x03 + 2 ^ 12 * f) (load op) (mask_funct3 w 0x03 f (i_opcode 0x03 f d a v in_o in_f in_d in_a in_v) (i_funct3 0x03 f d a v in_o in_f in_d in_a in_v)) (load-only op)
    ∙ ap Some (rw (i_rd 0x03 f d a v in_o in_f in_d in_a in_v, i_rs1 0x03 f d a v in_o in_f in_d in_a in_v, i_field 0x03 f d a v in_o in_f in_d in_a in_v, signed_12 imm p.2) refl)

store-decodes : (op : StoreOp) (a b : ℕ) (imm : ℤ) → fits (Instr.Store op a b imm) ≡ true → Decodes (Instr.Store op a b imm)
unfolding fits word_of
store-decodes op a b imm h =
    let p = both_3 (is_register a) (is_register b) (is_immediate 12 1 imm) h in
    let in_o : 0x23 < 128 = omega arith in
    let f = store_funct3 op in
    let in_f = store_funct3-below op in
    let in_a = below_32 a p.0 in
    let in_b = below_32 b p.1 in
    let d = imm_bits imm 0 5 in
    let g = imm_bits imm 5 12 in
    let in_d : d < 32 = omega arith in
    let in_g : g < 128 = omega arith in
    let w = s_word 0x23 f a b imm in
    let field : bits w 7 12 + 2 ^ 5 * bits w 25 32 ≡ imm_bits imm 0 12 = omega (arith, r_rd 0x23 g f d a b in_o in_g in_f in_d in_a in_b, r_funct7 0x23 g f d a b in_o in_g in_f in_d in_a in_b) in
    found w 0x707F (0x23 + 2 ^ 12 * f) (store op) (mask_funct3 w 0x23 f (r_opcode 0x23 g f d a b in_o in_g in_f in_d in_a in_b) (r_funct3 0x23 g f d a b in_o in_g in_f in_d in_a in_b)) (store-only op)
    ∙ ap Some (rw (r_rs1 0x23 g f d a b in_o in_g in_f in_d in_a in_b, r_rs2 0x23 g f d a b in_o in_g in_f in_d in_a in_b, field, signed_12 imm p.2) refl)

zero_imm : (imm : ℤ) → is_zero imm ≡ true → imm ≡ pos 0
zero_imm (pos n) h = ap pos (eqb-true n 0 h)
zero_imm (negsuc n) h = absurd (omega (arith, eqb-true (suc n) 0 h))

-- a computation that is no shift, and a shift
op_imm-plain : (op : OpImmOp) (d a : ℕ) (imm : ℤ) (n : ℕ) → is_shift op ≡ false → arithmetic_bit op ≡ 0
    → IsOnlyRow 0x707F (0x13 + 2 ^ 12 * op_imm_funct3 op) (op_imm op) → fits (Instr.OpImm op d a imm n) ≡ true → Decodes (Instr.OpImm op d a imm n)
unfolding fits word_of
op_imm-plain op d a imm n no_shift bit only h =
    let p = both_3 (is_register d) (is_register a) (is_operand (is_shift op) 64 imm n) h in
    let operand : is_operand false 64 imm n ≡ true = rw no_shift at p.2 in
    let q = and_parts (is_immediate 12 1 imm) (n == 0) operand in
    let none : n ≡ 0 = eqb-true n 0 q.1 in
    let in_o : 0x13 < 128 = omega arith in
    let f = op_imm_funct3 op in
    let in_f = op_imm_funct3-below op in
    let in_d = below_32 d p.0 in
    let in_a = below_32 a p.1 in
    let v = imm_bits imm 0 12 + n + arithmetic_bit op in
    let same : v ≡ imm_bits imm 0 12 = omega arith in
    let in_v : v < 4096 = omega arith in
    let w = i_word 0x13 f d a v in
    found w 0x707F (0x13 + 2 ^ 12 * f) (op_imm op) (mask_funct3 w 0x13 f (i_opcode 0x13 f d a v in_o in_f in_d in_a in_v) (i_funct3 0x13 f d a v in_o in_f in_d in_a in_v)) only
    ∙ ap Some (rw (i_rd 0x13 f d a v in_o in_f in_d in_a in_v, i_rs1 0x13 f d a v in_o in_f in_d in_a in_v, i_field 0x13 f d a v in_o in_f in_d in_a in_v, same, signed_12 imm q.0, none) refl)

op_imm-shift : (op : OpImmOp) (d a : ℕ) (imm : ℤ) (n g : ℕ) → is_shift op ≡ true → arithmetic_bit op ≡ 64 * g → 64 * g < 2 ^ 11
    → IsOnlyRow 0xFC00707F (0x13 + 2 ^ 12 * op_imm_funct3 op + 2 ^ 26 * g) (shift op) → fits (Instr.OpImm op d a imm n) ≡ true → Decodes (Instr.OpImm op d a imm n)
unfolding fits word_of
op_imm-shift op d a imm n g is_one bit in_g only h =
    let p = both_3 (is_register d) (is_register a) (is_operand (is_shift op) 64 imm n) h in
    let operand : is_operand true 64 imm n ≡ true = rw is_one at p.2 in
    let q = and_parts (is_zero imm) (nat_lt n 64) operand in
    let none = zero_imm imm q.0 in
    let in_n = ltb-true n 64 q.1 in
    let in_o : 0x13 < 128 = omega arith in
    let f = op_imm_funct3 op in
    let in_f = op_imm_funct3-below op in
    let in_d = below_32 d p.0 in
    let in_a = below_32 a p.1 in
    let v = imm_bits imm 0 12 + n + arithmetic_bit op in
    let zero_bits : imm_bits imm 0 12 ≡ 0 = rw none (omega arith) in
    let in_v : v < 4096 = omega arith in
    let w = i_word 0x13 f d a v in
    let count : v % 64 ≡ n = omega arith in
    let high : v / 64 ≡ g = omega arith in
    found w 0xFC00707F (0x13 + 2 ^ 12 * f + 2 ^ 26 * g) (shift op)
    (mask_funct6 w 0x13 f g (i_opcode 0x13 f d a v in_o in_f in_d in_a in_v) (i_funct3 0x13 f d a v in_o in_f in_d in_a in_v) (i_funct6 0x13 f d a v in_o in_f in_d in_a in_v ∙ high)) only
    ∙ ap Some (rw (i_rd 0x13 f d a v in_o in_f in_d in_a in_v, i_rs1 0x13 f d a v in_o in_f in_d in_a in_v, i_count 0x13 f d a v in_o in_f in_d in_a in_v, count, none) refl)

op_imm-decodes : (op : OpImmOp) (d a : ℕ) (imm : ℤ) (n : ℕ) → fits (Instr.OpImm op d a imm n) ≡ true → Decodes (Instr.OpImm op d a imm n)
unfolding rows is_shift is_shift_32 op_imm_funct3 op_imm_32_funct3 arithmetic_bit arithmetic_bit_32
op_imm-decodes Addi d a imm n h = op_imm-plain Addi d a imm n refl refl refl h
op_imm-decodes Slti d a imm n h = op_imm-plain Slti d a imm n refl refl refl h
op_imm-decodes Sltiu d a imm n h = op_imm-plain Sltiu d a imm n refl refl refl h
op_imm-decodes Xori d a imm n h = op_imm-plain Xori d a imm n refl refl refl h
op_imm-decodes Ori d a imm n h = op_imm-plain Ori d a imm n refl refl refl h
op_imm-decodes Andi d a imm n h = op_imm-plain Andi d a imm n refl refl refl h
op_imm-decodes Slli d a imm n h = op_imm-shift Slli d a imm n 0 refl refl (omega arith) refl h
op_imm-decodes Srli d a imm n h = op_imm-shift Srli d a imm n 0 refl refl (omega arith) refl h
op_imm-decodes Srai d a imm n h = op_imm-shift Srai d a imm n 0x10 refl refl (omega arith) refl h

-- a computation that is no shift, and a shift
op_imm_32-plain : (op : OpImm32Op) (d a : ℕ) (imm : ℤ) (n : ℕ) → is_shift_32 op ≡ false → arithmetic_bit_32 op ≡ 0
    → IsOnlyRow 0x707F (0x1B + 2 ^ 12 * op_imm_32_funct3 op) (op_imm_32 op) → fits (Instr.OpImm32 op d a imm n) ≡ true → Decodes (Instr.OpImm32 op d a imm n)
unfolding fits word_of
op_imm_32-plain op d a imm n no_shift bit only h =
    let p = both_3 (is_register d) (is_register a) (is_operand (is_shift_32 op) 32 imm n) h in
    let operand : is_operand false 32 imm n ≡ true = rw no_shift at p.2 in
    let q = and_parts (is_immediate 12 1 imm) (n == 0) operand in
    let none : n ≡ 0 = eqb-true n 0 q.1 in
    let in_o : 0x1B < 128 = omega arith in
    let f = op_imm_32_funct3 op in
    let in_f = op_imm_32_funct3-below op in
    let in_d = below_32 d p.0 in
    let in_a = below_32 a p.1 in
    let v = imm_bits imm 0 12 + n + arithmetic_bit_32 op in
    let same : v ≡ imm_bits imm 0 12 = omega arith in
    let in_v : v < 4096 = omega arith in
    let w = i_word 0x1B f d a v in
    found w 0x707F (0x1B + 2 ^ 12 * f) (op_imm_32 op) (mask_funct3 w 0x1B f (i_opcode 0x1B f d a v in_o in_f in_d in_a in_v) (i_funct3 0x1B f d a v in_o in_f in_d in_a in_v)) only
    ∙ ap Some (rw (i_rd 0x1B f d a v in_o in_f in_d in_a in_v, i_rs1 0x1B f d a v in_o in_f in_d in_a in_v, i_field 0x1B f d a v in_o in_f in_d in_a in_v, same, signed_12 imm q.0, none) refl)

op_imm_32-shift : (op : OpImm32Op) (d a : ℕ) (imm : ℤ) (n g : ℕ) → is_shift_32 op ≡ true → arithmetic_bit_32 op ≡ 32 * g → 32 * g < 2 ^ 11
    → IsOnlyRow 0xFE00707F (0x1B + 2 ^ 12 * op_imm_32_funct3 op + 2 ^ 25 * g) (shift_32 op) → fits (Instr.OpImm32 op d a imm n) ≡ true → Decodes (Instr.OpImm32 op d a imm n)
unfolding fits word_of
op_imm_32-shift op d a imm n g is_one bit in_g only h =
    let p = both_3 (is_register d) (is_register a) (is_operand (is_shift_32 op) 32 imm n) h in
    let operand : is_operand true 32 imm n ≡ true = rw is_one at p.2 in
    let q = and_parts (is_zero imm) (nat_lt n 32) operand in
    let none = zero_imm imm q.0 in
    let in_n = ltb-true n 32 q.1 in
    let in_o : 0x1B < 128 = omega arith in
    let f = op_imm_32_funct3 op in
    let in_f = op_imm_32_funct3-below op in
    let in_d = below_32 d p.0 in
    let in_a = below_32 a p.1 in
    let v = imm_bits imm 0 12 + n + arithmetic_bit_32 op in
    let zero_bits : imm_bits imm 0 12 ≡ 0 = rw none (omega arith) in
    let in_v : v < 4096 = omega arith in
    let w = i_word 0x1B f d a v in
    let count : v % 32 ≡ n = omega arith in
    let high : v / 32 ≡ g = omega arith in
    found w 0xFE00707F (0x1B + 2 ^ 12 * f + 2 ^ 25 * g) (shift_32 op)
    (mask_funct7 w 0x1B f g (i_opcode 0x1B f d a v in_o in_f in_d in_a in_v) (i_funct3 0x1B f d a v in_o in_f in_d in_a in_v) (i_funct7 0x1B f d a v in_o in_f in_d in_a in_v ∙ high)) only
    ∙ ap Some (rw (i_rd 0x1B f d a v in_o in_f in_d in_a in_v, i_rs1 0x1B f d a v in_o in_f in_d in_a in_v, i_count_low 0x1B f d a v in_o in_f in_d in_a in_v, count, none) refl)

op_imm_32-decodes : (op : OpImm32Op) (d a : ℕ) (imm : ℤ) (n : ℕ) → fits (Instr.OpImm32 op d a imm n) ≡ true → Decodes (Instr.OpImm32 op d a imm n)
unfolding rows is_shift is_shift_32 op_imm_funct3 op_imm_32_funct3 arithmetic_bit arithmetic_bit_32
op_imm_32-decodes Addiw d a imm n h = op_imm_32-plain Addiw d a imm n refl refl refl h
op_imm_32-decodes Slliw d a imm n h = op_imm_32-shift Slliw d a imm n 0 refl refl (omega arith) refl h
op_imm_32-decodes Srliw d a imm n h = op_imm_32-shift Srliw d a imm n 0 refl refl (omega arith) refl h
op_imm_32-decodes Sraiw d a imm n h = op_imm_32-shift Sraiw d a imm n 0x20 refl refl (omega arith) refl h

op_op-decodes : (op : OpOp) (d a b : ℕ) → fits (Instr.Op op d a b) ≡ true → Decodes (Instr.Op op d a b)
unfolding fits word_of
op_op-decodes op d a b h =
    let p = both_3 (is_register d) (is_register a) (is_register b) h in
    let in_o : 0x33 < 128 = omega arith in
    let f = op_funct3 op in
    let in_f = op_funct3-below op in
    let g = op_funct7 op in
    let in_g = op_funct7-below op in
    let in_d = below_32 d p.0 in
    let in_a = below_32 a p.1 in
    let in_b = below_32 b p.2 in
    let w = r_word 0x33 g f d a b in
    found w 0xFE00707F (0x33 + 2 ^ 12 * f + 2 ^ 25 * g) (op_op op) (mask_funct7 w 0x33 f g (r_opcode 0x33 g f d a b in_o in_g in_f in_d in_a in_b)
    (r_funct3 0x33 g f d a b in_o in_g in_f in_d in_a in_b) (r_funct7 0x33 g f d a b in_o in_g in_f in_d in_a in_b)) (op_op-only op)
    ∙ ap Some (rw (r_rd 0x33 g f d a b in_o in_g in_f in_d in_a in_b, r_rs1 0x33 g f d a b in_o in_g in_f in_d in_a in_b, r_rs2 0x33 g f d a b in_o in_g in_f in_d in_a in_b) refl)

op_32-decodes : (op : Op32Op) (d a b : ℕ) → fits (Instr.Op32 op d a b) ≡ true → Decodes (Instr.Op32 op d a b)
unfolding fits word_of
op_32-decodes op d a b h =
    let p = both_3 (is_register d) (is_register a) (is_register b) h in
    let in_o : 0x3B < 128 = omega arith in
    let f = op_32_funct3 op in
    let in_f = op_32_funct3-below op in
    let g = op_32_funct7 op in
    let in_g = op_32_funct7-below op in
    let in_d = below_32 d p.0 in
    let in_a = below_32 a p.1 in
    let in_b = below_32 b p.2 in
    let w = r_word 0x3B g f d a b in
    found w 0xFE00707F (0x3B + 2 ^ 12 * f + 2 ^ 25 * g) (op_32 op) (mask_funct7 w 0x3B f g (r_opcode 0x3B g f d a b in_o in_g in_f in_d in_a in_b)
    (r_funct3 0x3B g f d a b in_o in_g in_f in_d in_a in_b) (r_funct7 0x3B g f d a b in_o in_g in_f in_d in_a in_b)) (op_32-only op)
    ∙ ap Some (rw (r_rd 0x3B g f d a b in_o in_g in_f in_d in_a in_b, r_rs1 0x3B g f d a b in_o in_g in_f in_d in_a in_b, r_rs2 0x3B g f d a b in_o in_g in_f in_d in_a in_b) refl)

sfence-decodes : (a b : ℕ) → fits (Instr.SfenceVma a b) ≡ true → Decodes (Instr.SfenceVma a b)
unfolding fits word_of rows
sfence-decodes a b h =
    let p = and_parts (is_register a) (is_register b) h in
    let in_o : 0x73 < 128 = omega arith in
    let in_g : 0x09 < 128 = omega arith in
    let in_f : 0 < 8 = omega arith in
    let in_d : 0 < 32 = omega arith in
    let in_a = below_32 a p.0 in
    let in_b = below_32 b p.1 in
    let w = r_word 0x73 0x09 0 0 a b in
    found w 0xFE007FFF (0x73 + 2 ^ 12 * 0 + 2 ^ 25 * 0x09) sfence
    (mask_funct7_no_rd w 0x73 0 0x09 (r_opcode 0x73 0x09 0 0 a b in_o in_g in_f in_d in_a in_b) (r_funct3 0x73 0x09 0 0 a b in_o in_g in_f in_d in_a in_b)
    (r_funct7 0x73 0x09 0 0 a b in_o in_g in_f in_d in_a in_b) (r_rd 0x73 0x09 0 0 a b in_o in_g in_f in_d in_a in_b)) refl
    ∙ ap Some (rw (r_rs1 0x73 0x09 0 0 a b in_o in_g in_f in_d in_a in_b, r_rs2 0x73 0x09 0 0 a b in_o in_g in_f in_d in_a in_b) refl)

csr-decodes : (op : CsrOp) (d a v : ℕ) → fits (Instr.Csr op d a v) ≡ true → Decodes (Instr.Csr op d a v)
unfolding fits word_of
csr-decodes op d a v h =
    let p = both_3 (is_register d) (is_register a) (nat_lt v 4096) h in
    let in_o : 0x73 < 128 = omega arith in
    let f = csr_funct3 op in
    let in_f = csr_funct3-below op in
    let in_d = below_32 d p.0 in
    let in_a = below_32 a p.1 in
    let in_v = ltb-true v 4096 p.2 in
    let w = i_word 0x73 f d a v in
    found w 0x707F (0x73 + 2 ^ 12 * f) (csr op) (mask_funct3 w 0x73 f (i_opcode 0x73 f d a v in_o in_f in_d in_a in_v) (i_funct3 0x73 f d a v in_o in_f in_d in_a in_v)) (csr-only op)
    ∙ ap Some (rw (i_rd 0x73 f d a v in_o in_f in_d in_a in_v, i_rs1 0x73 f d a v in_o in_f in_d in_a in_v, i_field 0x73 f d a v in_o in_f in_d in_a in_v) refl)

-- ---- atomic operations

ordered-below : (n : ℕ) (q r : Bool) → n < 32 → amo_funct7 n q r < 128
ordered-below n true true h = omega arith
ordered-below n true false h = omega arith
ordered-below n false true h = omega arith
ordered-below n false false h = omega arith

ordered-code : (n : ℕ) (q r : Bool) → amo_funct7 n q r / 4 ≡ n
ordered-code n true true = omega arith
ordered-code n true false = omega arith
ordered-code n false true = omega arith
ordered-code n false false = omega arith

ordered-aq : (n : ℕ) (q r : Bool) → amo_funct7 n q r / 2 % 2 ≡ from_bool q
ordered-aq n true true = omega arith
ordered-aq n true false = omega arith
ordered-aq n false true = omega arith
ordered-aq n false false = omega arith

ordered-rl : (n : ℕ) (q r : Bool) → amo_funct7 n q r % 2 ≡ from_bool r
ordered-rl n true true = omega arith
ordered-rl n true false = omega arith
ordered-rl n false true = omega arith
ordered-rl n false false = omega arith

flag_back : (q : Bool) → (from_bool q == 1) ≡ q
flag_back true = refl
flag_back false = refl

lr-decodes-4 : (d a : ℕ) (q r : Bool) → fits (Instr.Lr d a 4 q r) ≡ true → Decodes (Instr.Lr d a 4 q r)
unfolding fits word_of rows
lr-decodes-4 d a q r h =
    let p = both_3 (is_register d) (is_register a) (is_width 4) h in
    let in_o : 0x2F < 128 = omega arith in
    let in_f : 2 < 8 = omega arith in
    let n : ℕ = 0x02 in
    let g = amo_funct7 n q r in
    let in_g = ordered-below n q r (omega arith) in
    let in_d = below_32 d p.0 in
    let in_a = below_32 a p.1 in
    let in_b : 0 < 32 = omega arith in
    let w = r_word 0x2F g 2 d a 0 in
    found w 0xF9F0707F (0x2F + 2 ^ 12 * 2 + 2 ^ 20 * 0 + 2 ^ 27 * 0x02) (lr 4) (mask_funct5_rs2 w 0x2F 2 0x02 0 (r_opcode 0x2F g 2 d a 0 in_o in_g in_f in_d in_a in_b)
    (r_funct3 0x2F g 2 d a 0 in_o in_g in_f in_d in_a in_b) (r_funct5 0x2F g 2 d a 0 in_o in_g in_f in_d in_a in_b ∙ ordered-code n q r) (r_rs2 0x2F g 2 d a 0 in_o in_g in_f in_d in_a in_b)) refl
    ∙ ap Some (rw (
      r_rd 0x2F g 2 d a 0 in_o in_g in_f in_d in_a in_b,
      r_rs1 0x2F g 2 d a 0 in_o in_g in_f in_d in_a in_b,
      r_aq 0x2F g 2 d a 0 in_o in_g in_f in_d in_a in_b,
      r_rl 0x2F g 2 d a 0 in_o in_g in_f in_d in_a in_b,
      ordered-aq n q r,
      ordered-rl n q r,
      flag_back q,
      flag_back r,
    ) refl)

sc-decodes-4 : (d a b : ℕ) (q r : Bool) → fits (Instr.Sc d a b 4 q r) ≡ true → Decodes (Instr.Sc d a b 4 q r)
unfolding fits word_of rows
sc-decodes-4 d a b q r h =
    let p = both_4 (is_register d) (is_register a) (is_register b) (is_width 4) h in
    let in_o : 0x2F < 128 = omega arith in
    let in_f : 2 < 8 = omega arith in
    let n : ℕ = 0x03 in
    let g = amo_funct7 n q r in
    let in_g = ordered-below n q r (omega arith) in
    let in_d = below_32 d p.0 in
    let in_a = below_32 a p.1 in
    let in_b : b < 32 = below_32 b p.2 in
    let w = r_word 0x2F g 2 d a b in
    found w 0xF800707F (0x2F + 2 ^ 12 * 2 + 2 ^ 27 * 0x03) (sc 4) (mask_funct5 w 0x2F 2 0x03 (r_opcode 0x2F g 2 d a b in_o in_g in_f in_d in_a in_b)
    (r_funct3 0x2F g 2 d a b in_o in_g in_f in_d in_a in_b) (r_funct5 0x2F g 2 d a b in_o in_g in_f in_d in_a in_b ∙ ordered-code n q r)) refl
    ∙ ap Some (rw (
      r_rd 0x2F g 2 d a b in_o in_g in_f in_d in_a in_b,
      r_rs1 0x2F g 2 d a b in_o in_g in_f in_d in_a in_b,
      r_rs2 0x2F g 2 d a b in_o in_g in_f in_d in_a in_b,
      r_aq 0x2F g 2 d a b in_o in_g in_f in_d in_a in_b,
      r_rl 0x2F g 2 d a b in_o in_g in_f in_d in_a in_b,
      ordered-aq n q r,
      ordered-rl n q r,
      flag_back q,
      flag_back r,
    ) refl)

amo-decodes-4 : (op : AmoOp) (d a b : ℕ) (q r : Bool) → fits (Instr.Amo op d a b 4 q r) ≡ true → Decodes (Instr.Amo op d a b 4 q r)
unfolding fits word_of
amo-decodes-4 op d a b q r h =
    let p = both_4 (is_register d) (is_register a) (is_register b) (is_width 4) h in
    let in_o : 0x2F < 128 = omega arith in
    let in_f : 2 < 8 = omega arith in
    let n : ℕ = amo_funct5 op in
    let g = amo_funct7 n q r in
    let in_g = ordered-below n q r (amo_funct5-below op) in
    let in_d = below_32 d p.0 in
    let in_a = below_32 a p.1 in
    let in_b : b < 32 = below_32 b p.2 in
    let w = r_word 0x2F g 2 d a b in
    found w 0xF800707F (0x2F + 2 ^ 12 * 2 + 2 ^ 27 * amo_funct5 op) (amo op 4) (mask_funct5 w 0x2F 2 n (r_opcode 0x2F g 2 d a b in_o in_g in_f in_d in_a in_b)
    (r_funct3 0x2F g 2 d a b in_o in_g in_f in_d in_a in_b) (r_funct5 0x2F g 2 d a b in_o in_g in_f in_d in_a in_b ∙ ordered-code n q r)) (amo_word-only op)
    ∙ ap Some (rw (
      r_rd 0x2F g 2 d a b in_o in_g in_f in_d in_a in_b,
      r_rs1 0x2F g 2 d a b in_o in_g in_f in_d in_a in_b,
      r_rs2 0x2F g 2 d a b in_o in_g in_f in_d in_a in_b,
      r_aq 0x2F g 2 d a b in_o in_g in_f in_d in_a in_b,
      r_rl 0x2F g 2 d a b in_o in_g in_f in_d in_a in_b,
      ordered-aq n q r,
      ordered-rl n q r,
      flag_back q,
      flag_back r,
    ) refl)

lr-decodes-8 : (d a : ℕ) (q r : Bool) → fits (Instr.Lr d a 8 q r) ≡ true → Decodes (Instr.Lr d a 8 q r)
unfolding fits word_of rows
lr-decodes-8 d a q r h =
    let p = both_3 (is_register d) (is_register a) (is_width 8) h in
    let in_o : 0x2F < 128 = omega arith in
    let in_f : 3 < 8 = omega arith in
    let n : ℕ = 0x02 in
    let g = amo_funct7 n q r in
    let in_g = ordered-below n q r (omega arith) in
    let in_d = below_32 d p.0 in
    let in_a = below_32 a p.1 in
    let in_b : 0 < 32 = omega arith in
    let w = r_word 0x2F g 3 d a 0 in
    found w 0xF9F0707F (0x2F + 2 ^ 12 * 3 + 2 ^ 20 * 0 + 2 ^ 27 * 0x02) (lr 8) (mask_funct5_rs2 w 0x2F 3 0x02 0 (r_opcode 0x2F g 3 d a 0 in_o in_g in_f in_d in_a in_b)
    (r_funct3 0x2F g 3 d a 0 in_o in_g in_f in_d in_a in_b) (r_funct5 0x2F g 3 d a 0 in_o in_g in_f in_d in_a in_b ∙ ordered-code n q r) (r_rs2 0x2F g 3 d a 0 in_o in_g in_f in_d in_a in_b)) refl
    ∙ ap Some (rw (
      r_rd 0x2F g 3 d a 0 in_o in_g in_f in_d in_a in_b,
      r_rs1 0x2F g 3 d a 0 in_o in_g in_f in_d in_a in_b,
      r_aq 0x2F g 3 d a 0 in_o in_g in_f in_d in_a in_b,
      r_rl 0x2F g 3 d a 0 in_o in_g in_f in_d in_a in_b,
      ordered-aq n q r,
      ordered-rl n q r,
      flag_back q,
      flag_back r,
    ) refl)

sc-decodes-8 : (d a b : ℕ) (q r : Bool) → fits (Instr.Sc d a b 8 q r) ≡ true → Decodes (Instr.Sc d a b 8 q r)
unfolding fits word_of rows
sc-decodes-8 d a b q r h =
    let p = both_4 (is_register d) (is_register a) (is_register b) (is_width 8) h in
    let in_o : 0x2F < 128 = omega arith in
    let in_f : 3 < 8 = omega arith in
    let n : ℕ = 0x03 in
    let g = amo_funct7 n q r in
    let in_g = ordered-below n q r (omega arith) in
    let in_d = below_32 d p.0 in
    let in_a = below_32 a p.1 in
    let in_b : b < 32 = below_32 b p.2 in
    let w = r_word 0x2F g 3 d a b in
    found w 0xF800707F (0x2F + 2 ^ 12 * 3 + 2 ^ 27 * 0x03) (sc 8) (mask_funct5 w 0x2F 3 0x03 (r_opcode 0x2F g 3 d a b in_o in_g in_f in_d in_a in_b)
    (r_funct3 0x2F g 3 d a b in_o in_g in_f in_d in_a in_b) (r_funct5 0x2F g 3 d a b in_o in_g in_f in_d in_a in_b ∙ ordered-code n q r)) refl
    ∙ ap Some (rw (
      r_rd 0x2F g 3 d a b in_o in_g in_f in_d in_a in_b,
      r_rs1 0x2F g 3 d a b in_o in_g in_f in_d in_a in_b,
      r_rs2 0x2F g 3 d a b in_o in_g in_f in_d in_a in_b,
      r_aq 0x2F g 3 d a b in_o in_g in_f in_d in_a in_b,
      r_rl 0x2F g 3 d a b in_o in_g in_f in_d in_a in_b,
      ordered-aq n q r,
      ordered-rl n q r,
      flag_back q,
      flag_back r,
    ) refl)

amo-decodes-8 : (op : AmoOp) (d a b : ℕ) (q r : Bool) → fits (Instr.Amo op d a b 8 q r) ≡ true → Decodes (Instr.Amo op d a b 8 q r)
unfolding fits word_of
amo-decodes-8 op d a b q r h =
    let p = both_4 (is_register d) (is_register a) (is_register b) (is_width 8) h in
    let in_o : 0x2F < 128 = omega arith in
    let in_f : 3 < 8 = omega arith in
    let n : ℕ = amo_funct5 op in
    let g = amo_funct7 n q r in
    let in_g = ordered-below n q r (amo_funct5-below op) in
    let in_d = below_32 d p.0 in
    let in_a = below_32 a p.1 in
    let in_b : b < 32 = below_32 b p.2 in
    let w = r_word 0x2F g 3 d a b in
    found w 0xF800707F (0x2F + 2 ^ 12 * 3 + 2 ^ 27 * amo_funct5 op) (amo op 8) (mask_funct5 w 0x2F 3 n (r_opcode 0x2F g 3 d a b in_o in_g in_f in_d in_a in_b)
    (r_funct3 0x2F g 3 d a b in_o in_g in_f in_d in_a in_b) (r_funct5 0x2F g 3 d a b in_o in_g in_f in_d in_a in_b ∙ ordered-code n q r)) (amo_double-only op)
    ∙ ap Some (rw (
      r_rd 0x2F g 3 d a b in_o in_g in_f in_d in_a in_b,
      r_rs1 0x2F g 3 d a b in_o in_g in_f in_d in_a in_b,
      r_rs2 0x2F g 3 d a b in_o in_g in_f in_d in_a in_b,
      r_aq 0x2F g 3 d a b in_o in_g in_f in_d in_a in_b,
      r_rl 0x2F g 3 d a b in_o in_g in_f in_d in_a in_b,
      ordered-aq n q r,
      ordered-rl n q r,
      flag_back q,
      flag_back r,
    ) refl)

lr-decodes : (d a v : ℕ) (q r : Bool) → fits (Instr.Lr d a v q r) ≡ true → Decodes (Instr.Lr d a v q r)
unfolding fits
lr-decodes d a v q r h =
    let width = (both_3 (is_register d) (is_register a) (is_width v) h).2 in
    elim (four_or_eight v width) [
      | inl e ↦ subst (λ (x : ℕ). Decodes (Instr.Lr d a x q r)) (sym e) (lr-decodes-4 d a q r (subst (λ (x : ℕ). fits (Instr.Lr d a x q r) ≡ true) e h))
      | inr e ↦ subst (λ (x : ℕ). Decodes (Instr.Lr d a x q r)) (sym e) (lr-decodes-8 d a q r (subst (λ (x : ℕ). fits (Instr.Lr d a x q r) ≡ true) e h))
    ]

sc-decodes : (d a b v : ℕ) (q r : Bool) → fits (Instr.Sc d a b v q r) ≡ true → Decodes (Instr.Sc d a b v q r)
unfolding fits
sc-decodes d a b v q r h =
    let width = (both_4 (is_register d) (is_register a) (is_register b) (is_width v) h).3 in
    elim (four_or_eight v width) [
      | inl e ↦ subst (λ (x : ℕ). Decodes (Instr.Sc d a b x q r)) (sym e) (sc-decodes-4 d a b q r (subst (λ (x : ℕ). fits (Instr.Sc d a b x q r) ≡ true) e h))
      | inr e ↦ subst (λ (x : ℕ). Decodes (Instr.Sc d a b x q r)) (sym e) (sc-decodes-8 d a b q r (subst (λ (x : ℕ). fits (Instr.Sc d a b x q r) ≡ true) e h))
    ]

amo-decodes : (op : AmoOp) (d a b v : ℕ) (q r : Bool) → fits (Instr.Amo op d a b v q r) ≡ true → Decodes (Instr.Amo op d a b v q r)
unfolding fits
amo-decodes op d a b v q r h =
    let width = (both_4 (is_register d) (is_register a) (is_register b) (is_width v) h).3 in
    elim (four_or_eight v width) [
      | inl e ↦ subst (λ (x : ℕ). Decodes (Instr.Amo op d a b x q r)) (sym e) (amo-decodes-4 op d a b q r (subst (λ (x : ℕ). fits (Instr.Amo op d a b x q r) ≡ true) e h))
      | inr e ↦ subst (λ (x : ℕ). Decodes (Instr.Amo op d a b x q r)) (sym e) (amo-decodes-8 op d a b q r (subst (λ (x : ℕ). fits (Instr.Amo op d a b x q r) ≡ true) e h))
    ]

-- ---- hypervisor instructions

hyper_load-decodes : (op : HyperOp) (d a b n : ℕ) → is_hyper_load op ≡ true → hyper_number op ≡ n → n < 32
    → IsOnlyRow 0xFFF0707F (0x73 + 2 ^ 12 * hyper_funct3 op + 2 ^ 20 * n + 2 ^ 25 * hyper_funct7 op) (hyper_load op)
    → fits (Instr.Hyper op d a b) ≡ true → Decodes (Instr.Hyper op d a b)
unfolding fits word_of
hyper_load-decodes op d a b n is_load number in_n only h =
    let p = both_4 (is_register d) (is_register a) (is_register b) (if is_hyper_load op then b == 0 else d == 0) h in
    let fixed : (b == 0) ≡ true = rw is_load at p.3 in
    let none : b ≡ 0 = eqb-true b 0 fixed in
    let in_o : 0x73 < 128 = omega arith in
    let f = hyper_funct3 op in
    let in_f = hyper_funct3-below op in
    let g = hyper_funct7 op in
    let in_g = hyper_funct7-below op in
    let in_d = below_32 d p.0 in
    let in_a = below_32 a p.1 in
    let v = b + hyper_number op in
    let same : v ≡ n = omega arith in
    let in_v : v < 32 = omega arith in
    let w = r_word 0x73 g f d a v in
    found w 0xFFF0707F (0x73 + 2 ^ 12 * f + 2 ^ 20 * n + 2 ^ 25 * g) (hyper_load op)
    (mask_funct7_rs2 w 0x73 f g n (r_opcode 0x73 g f d a v in_o in_g in_f in_d in_a in_v) (r_funct3 0x73 g f d a v in_o in_g in_f in_d in_a in_v)
    (r_funct7 0x73 g f d a v in_o in_g in_f in_d in_a in_v) (r_rs2 0x73 g f d a v in_o in_g in_f in_d in_a in_v ∙ same)) only
    ∙ ap Some (rw (r_rd 0x73 g f d a v in_o in_g in_f in_d in_a in_v, r_rs1 0x73 g f d a v in_o in_g in_f in_d in_a in_v, none) refl)

hyper_store-decodes : (op : HyperOp) (d a b : ℕ) → is_hyper_load op ≡ false → hyper_number op ≡ 0
    → IsOnlyRow 0xFE007FFF (0x73 + 2 ^ 12 * hyper_funct3 op + 2 ^ 25 * hyper_funct7 op) (hyper_store op)
    → fits (Instr.Hyper op d a b) ≡ true → Decodes (Instr.Hyper op d a b)
unfolding fits word_of
hyper_store-decodes op d a b no_load number only h =
    let p = both_4 (is_register d) (is_register a) (is_register b) (if is_hyper_load op then b == 0 else d == 0) h in
    let fixed : (d == 0) ≡ true = rw no_load at p.3 in
    let none : d ≡ 0 = eqb-true d 0 fixed in
    let in_o : 0x73 < 128 = omega arith in
    let f = hyper_funct3 op in
    let in_f = hyper_funct3-below op in
    let g = hyper_funct7 op in
    let in_g = hyper_funct7-below op in
    let in_d = below_32 d p.0 in
    let in_a = below_32 a p.1 in
    let in_b = below_32 b p.2 in
    let v = b + hyper_number op in
    let same : v ≡ b = omega arith in
    let in_v : v < 32 = omega arith in
    let w = r_word 0x73 g f d a v in
    found w 0xFE007FFF (0x73 + 2 ^ 12 * f + 2 ^ 25 * g) (hyper_store op)
    (mask_funct7_no_rd w 0x73 f g (r_opcode 0x73 g f d a v in_o in_g in_f in_d in_a in_v) (r_funct3 0x73 g f d a v in_o in_g in_f in_d in_a in_v)
    (r_funct7 0x73 g f d a v in_o in_g in_f in_d in_a in_v) (r_rd 0x73 g f d a v in_o in_g in_f in_d in_a in_v ∙ none)) only
    ∙ ap Some (rw (r_rs1 0x73 g f d a v in_o in_g in_f in_d in_a in_v, r_rs2 0x73 g f d a v in_o in_g in_f in_d in_a in_v, same, none) refl)

hyper-decodes : (op : HyperOp) (d a b : ℕ) → fits (Instr.Hyper op d a b) ≡ true → Decodes (Instr.Hyper op d a b)
unfolding rows is_hyper_load hyper_funct3 hyper_funct7 hyper_number
hyper-decodes HlvB d a b h = hyper_load-decodes HlvB d a b 0 refl refl (omega arith) refl h
hyper-decodes HlvBu d a b h = hyper_load-decodes HlvBu d a b 1 refl refl (omega arith) refl h
hyper-decodes HlvH d a b h = hyper_load-decodes HlvH d a b 0 refl refl (omega arith) refl h
hyper-decodes HlvHu d a b h = hyper_load-decodes HlvHu d a b 1 refl refl (omega arith) refl h
hyper-decodes HlvxHu d a b h = hyper_load-decodes HlvxHu d a b 3 refl refl (omega arith) refl h
hyper-decodes HlvW d a b h = hyper_load-decodes HlvW d a b 0 refl refl (omega arith) refl h
hyper-decodes HlvWu d a b h = hyper_load-decodes HlvWu d a b 1 refl refl (omega arith) refl h
hyper-decodes HlvxWu d a b h = hyper_load-decodes HlvxWu d a b 3 refl refl (omega arith) refl h
hyper-decodes HlvD d a b h = hyper_load-decodes HlvD d a b 0 refl refl (omega arith) refl h
hyper-decodes HsvB d a b h = hyper_store-decodes HsvB d a b refl refl refl h
hyper-decodes HsvH d a b h = hyper_store-decodes HsvH d a b refl refl refl h
hyper-decodes HsvW d a b h = hyper_store-decodes HsvW d a b refl refl refl h
hyper-decodes HsvD d a b h = hyper_store-decodes HsvD d a b refl refl refl h
hyper-decodes HfenceVvma d a b h = hyper_store-decodes HfenceVvma d a b refl refl refl h
hyper-decodes HfenceGvma d a b h = hyper_store-decodes HfenceGvma d a b refl refl refl h

-- ---- all instructions

pub word_of-decodes : (instr : Instr) → fits instr ≡ true → instruction_of (word_of instr) ≡ Some instr
unfolding word_of rows
word_of-decodes (Instr.Lui d imm) h = lui-decodes d imm h
word_of-decodes (Instr.Auipc d imm) h = auipc-decodes d imm h
word_of-decodes (Instr.Jal d imm) h = jal-decodes d imm h
word_of-decodes (Instr.Jalr d a imm) h = jalr-decodes d a imm h
word_of-decodes (Instr.Branch op a b imm) h = branch-decodes op a b imm h
word_of-decodes (Instr.Load op d a imm) h = load-decodes op d a imm h
word_of-decodes (Instr.Store op a b imm) h = store-decodes op a b imm h
word_of-decodes (Instr.OpImm op d a imm n) h = op_imm-decodes op d a imm n h
word_of-decodes (Instr.OpImm32 op d a imm n) h = op_imm_32-decodes op d a imm n h
word_of-decodes (Instr.Op op d a b) h = op_op-decodes op d a b h
word_of-decodes (Instr.Op32 op d a b) h = op_32-decodes op d a b h
word_of-decodes Instr.Fence h = found 0x0000000F 0x707F 0x000F (plain Instr.Fence) refl refl
word_of-decodes Instr.FenceI h = found 0x0000100F 0x707F 0x100F (plain Instr.FenceI) refl refl
word_of-decodes Instr.Ecall h = found 0x00000073 0xFFFFFFFF 0x00000073 (plain Instr.Ecall) refl refl
word_of-decodes Instr.Ebreak h = found 0x00100073 0xFFFFFFFF 0x00100073 (plain Instr.Ebreak) refl refl
word_of-decodes Instr.Sret h = found 0x10200073 0xFFFFFFFF 0x10200073 (plain Instr.Sret) refl refl
word_of-decodes Instr.Wfi h = found 0x10500073 0xFFFFFFFF 0x10500073 (plain Instr.Wfi) refl refl
word_of-decodes (Instr.SfenceVma a b) h = sfence-decodes a b h
word_of-decodes (Instr.Csr op d a v) h = csr-decodes op d a v h
word_of-decodes (Instr.Lr d a v q r) h = lr-decodes d a v q r h
word_of-decodes (Instr.Sc d a b v q r) h = sc-decodes d a b v q r h
word_of-decodes (Instr.Amo op d a b v q r) h = amo-decodes op d a b v q r h
word_of-decodes (Instr.Hyper op d a b) h = hyper-decodes op d a b h
