-- The mnemonics of instructions, and the names of registers.
-- RISC-V Unprivileged manual, "RV32/64G Instruction Set Listings"; Privileged manual, "RISC-V Privileged Instruction Set Listings"
-- and "CSR Listing"; RISC-V ABIs Specification, "Integer Register Convention".
use Rattle.std.specs.Prelude.{ℕ, ◌==◌, if◌then◌else◌, Bool, true, false, List, [], ◌∷◌, Option, Some, None, codes, slice_get}
use Rattle.spec_processor.specs.declared.instruction.BranchOp.{BranchOp}
use Rattle.spec_processor.specs.declared.instruction.BranchOp.TheVariants.{Beq, Bne, Blt, Bge, Bltu, Bgeu}
use Rattle.spec_processor.specs.declared.instruction.LoadOp.{LoadOp}
use Rattle.spec_processor.specs.declared.instruction.LoadOp.TheVariants.{Lb, Lh, Lw, Ld, Lbu, Lhu, Lwu}
use Rattle.spec_processor.specs.declared.instruction.StoreOp.{StoreOp}
use Rattle.spec_processor.specs.declared.instruction.StoreOp.TheVariants.{Sb, Sh, Sw, Sd}
use Rattle.spec_processor.specs.declared.instruction.OpImmOp.{OpImmOp}
use Rattle.spec_processor.specs.declared.instruction.OpImmOp.TheVariants.{Addi, Slti, Sltiu, Xori, Ori, Andi, Slli, Srli, Srai}
use Rattle.spec_processor.specs.declared.instruction.OpImm32Op.{OpImm32Op}
use Rattle.spec_processor.specs.declared.instruction.OpImm32Op.TheVariants.{Addiw, Slliw, Srliw, Sraiw}
use Rattle.spec_processor.specs.declared.instruction.OpOp.{OpOp}
use Rattle.spec_processor.specs.declared.instruction.OpOp.TheVariants.{Add, Sll, Slt, Sltu, Xor, Srl, Or, And, Sub, Sra, Mul, Mulh, Mulhsu}
use Rattle.spec_processor.specs.declared.instruction.OpOp.TheVariants.{Mulhu, Div, Divu, Rem, Remu}
use Rattle.spec_processor.specs.declared.instruction.Op32Op.{Op32Op}
use Rattle.spec_processor.specs.declared.instruction.Op32Op.TheVariants.{Addw, Sllw, Srlw, Subw, Sraw, Mulw, Divw, Divuw, Remw, Remuw}
use Rattle.spec_processor.specs.declared.instruction.CsrOp.{CsrOp}
use Rattle.spec_processor.specs.declared.instruction.CsrOp.TheVariants.{Csrrw, Csrrs, Csrrc, Csrrwi, Csrrsi, Csrrci}
use Rattle.spec_processor.specs.declared.instruction.AmoOp.{AmoOp}
use Rattle.spec_processor.specs.declared.instruction.AmoOp.TheVariants.{Amoswap, Amoadd, Amoxor, Amoand, Amoor, Amomin, Amomax, Amominu, Amomaxu}
use Rattle.spec_processor.specs.declared.instruction.HyperOp.{HyperOp}
use Rattle.spec_processor.specs.declared.instruction.HyperOp.TheVariants.{HlvB, HlvBu, HlvH, HlvHu, HlvxHu, HlvW, HlvWu, HlvxWu, HlvD, HsvB}
use Rattle.spec_processor.specs.declared.instruction.HyperOp.TheVariants.{HsvH, HsvW, HsvD, HfenceVvma, HfenceGvma}
use Rattle.spec_processor.specs.declared.csr.Csr.{Csr}

-- ---- mnemonics

-- branches
abbrev pub branch_name : BranchOp → List ℕ
branch_name Beq = codes "beq"
branch_name Bne = codes "bne"
branch_name Blt = codes "blt"
branch_name Bge = codes "bge"
branch_name Bltu = codes "bltu"
branch_name Bgeu = codes "bgeu"

-- loads
abbrev pub load_name : LoadOp → List ℕ
load_name Lb = codes "lb"
load_name Lh = codes "lh"
load_name Lw = codes "lw"
load_name Ld = codes "ld"
load_name Lbu = codes "lbu"
load_name Lhu = codes "lhu"
load_name Lwu = codes "lwu"

-- stores
abbrev pub store_name : StoreOp → List ℕ
store_name Sb = codes "sb"
store_name Sh = codes "sh"
store_name Sw = codes "sw"
store_name Sd = codes "sd"

-- computations with an immediate
abbrev pub op_imm_name : OpImmOp → List ℕ
op_imm_name Addi = codes "addi"
op_imm_name Slti = codes "slti"
op_imm_name Sltiu = codes "sltiu"
op_imm_name Xori = codes "xori"
op_imm_name Ori = codes "ori"
op_imm_name Andi = codes "andi"
op_imm_name Slli = codes "slli"
op_imm_name Srli = codes "srli"
op_imm_name Srai = codes "srai"

-- their W forms
abbrev pub op_imm_32_name : OpImm32Op → List ℕ
op_imm_32_name Addiw = codes "addiw"
op_imm_32_name Slliw = codes "slliw"
op_imm_32_name Srliw = codes "srliw"
op_imm_32_name Sraiw = codes "sraiw"

-- computations
abbrev pub op_name : OpOp → List ℕ
op_name Add = codes "add"
op_name Sll = codes "sll"
op_name Slt = codes "slt"
op_name Sltu = codes "sltu"
op_name Xor = codes "xor"
op_name Srl = codes "srl"
op_name Or = codes "or"
op_name And = codes "and"
op_name Sub = codes "sub"
op_name Sra = codes "sra"
op_name Mul = codes "mul"
op_name Mulh = codes "mulh"
op_name Mulhsu = codes "mulhsu"
op_name Mulhu = codes "mulhu"
op_name Div = codes "div"
op_name Divu = codes "divu"
op_name Rem = codes "rem"
op_name Remu = codes "remu"

-- their W forms
abbrev pub op_32_name : Op32Op → List ℕ
op_32_name Addw = codes "addw"
op_32_name Sllw = codes "sllw"
op_32_name Srlw = codes "srlw"
op_32_name Subw = codes "subw"
op_32_name Sraw = codes "sraw"
op_32_name Mulw = codes "mulw"
op_32_name Divw = codes "divw"
op_32_name Divuw = codes "divuw"
op_32_name Remw = codes "remw"
op_32_name Remuw = codes "remuw"

-- register accesses
abbrev pub csr_op_name : CsrOp → List ℕ
csr_op_name Csrrw = codes "csrrw"
csr_op_name Csrrs = codes "csrrs"
csr_op_name Csrrc = codes "csrrc"
csr_op_name Csrrwi = codes "csrrwi"
csr_op_name Csrrsi = codes "csrrsi"
csr_op_name Csrrci = codes "csrrci"

-- atomic operations, without width and ordering
abbrev pub amo_name : AmoOp → List ℕ
amo_name Amoswap = codes "amoswap"
amo_name Amoadd = codes "amoadd"
amo_name Amoxor = codes "amoxor"
amo_name Amoand = codes "amoand"
amo_name Amoor = codes "amoor"
amo_name Amomin = codes "amomin"
amo_name Amomax = codes "amomax"
amo_name Amominu = codes "amominu"
amo_name Amomaxu = codes "amomaxu"

-- the hypervisor's loads, stores and fences
abbrev pub hyper_name : HyperOp → List ℕ
hyper_name HlvB = codes "hlv.b"
hyper_name HlvBu = codes "hlv.bu"
hyper_name HlvH = codes "hlv.h"
hyper_name HlvHu = codes "hlv.hu"
hyper_name HlvxHu = codes "hlvx.hu"
hyper_name HlvW = codes "hlv.w"
hyper_name HlvWu = codes "hlv.wu"
hyper_name HlvxWu = codes "hlvx.wu"
hyper_name HlvD = codes "hlv.d"
hyper_name HsvB = codes "hsv.b"
hyper_name HsvH = codes "hsv.h"
hyper_name HsvW = codes "hsv.w"
hyper_name HsvD = codes "hsv.d"
hyper_name HfenceVvma = codes "hfence.vvma"
hyper_name HfenceGvma = codes "hfence.gvma"

-- of 4 bytes, else of 8
abbrev pub width_suffix : ℕ → List ℕ
width_suffix width = if width == 4 then codes ".w" else codes ".d"

-- acquire and release
abbrev pub order_suffix : Bool → Bool → List ℕ
order_suffix false false = []
order_suffix true false = codes ".aq"
order_suffix false true = codes ".rl"
order_suffix true true = codes ".aqrl"

-- ---- registers

abbrev pub register_names : List (List ℕ)
register_names =
    codes "zero" ∷ codes "ra" ∷ codes "sp" ∷ codes "gp" ∷ codes "tp" ∷ codes "t0" ∷ codes "t1" ∷ codes "t2" ∷
    codes "s0" ∷ codes "s1" ∷ codes "a0" ∷ codes "a1" ∷ codes "a2" ∷ codes "a3" ∷ codes "a4" ∷ codes "a5" ∷
    codes "a6" ∷ codes "a7" ∷ codes "s2" ∷ codes "s3" ∷ codes "s4" ∷ codes "s5" ∷ codes "s6" ∷ codes "s7" ∷
    codes "s8" ∷ codes "s9" ∷ codes "s10" ∷ codes "s11" ∷ codes "t3" ∷ codes "t4" ∷ codes "t5" ∷ codes "t6" ∷ []

abbrev pub or_question : Option (List ℕ) → List ℕ
or_question None = codes "?"
or_question (Some name) = name

-- there are 32
unfoldable pub register_name : ℕ → List ℕ
register_name number = or_question (slice_get register_names number)

-- the supervisor's registers and the time
abbrev pub csr_name : Csr → List ℕ
csr_name Csr.Sstatus = codes "sstatus"
csr_name Csr.Sie = codes "sie"
csr_name Csr.Stvec = codes "stvec"
csr_name Csr.Scounteren = codes "scounteren"
csr_name Csr.Sscratch = codes "sscratch"
csr_name Csr.Sepc = codes "sepc"
csr_name Csr.Scause = codes "scause"
csr_name Csr.Stval = codes "stval"
csr_name Csr.Sip = codes "sip"
csr_name Csr.Satp = codes "satp"
csr_name Csr.Time = codes "time"
