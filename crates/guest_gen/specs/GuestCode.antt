-- The generated guest as instructions. Its kernel sets the trap vector, tells the disk to write over the kernel's text,
-- and enters the user's loop, which calls it over and over. After so many calls the kernel prints K and shuts down.
-- RISC-V Unprivileged manual, "Integer Register-Immediate Instructions"; RISC-V ELF psABI, "Integer Register
-- Convention".
use Rattle.std.specs.Prelude.{ℕ, ◌+◌, ◌*◌, ◌/◌, ℤ, pos, neg_ℤ, ◌-ℤ◌, List, [], ◌∷◌}
use Rattle.spec_processor.specs.Bytes.{page_size}
use Rattle.spec_processor.specs.IntegerRegisters.{x0, t0, t1, t2, t3, t4, s0, s1, a0, a7}
use Rattle.spec_processor.specs.Registers.{csr_number}
use Rattle.spec_processor.specs.declared.csr.Csr.{Csr}
use Rattle.spec_processor.specs.declared.csr.Csr.TheVariants.{Stvec, Sepc}
use Rattle.spec_processor.specs.declared.instruction.Instr.{Instr}
use Rattle.spec_processor.specs.declared.instruction.BranchOp.TheVariants.{Beq}
use Rattle.spec_processor.specs.declared.instruction.StoreOp.TheVariants.{Sw, Sd}
use Rattle.spec_processor.specs.declared.instruction.OpImmOp.TheVariants.{Addi}
use Rattle.spec_processor.specs.declared.instruction.OpImm32Op.TheVariants.{Addiw}
use Rattle.spec_processor.specs.declared.instruction.OpOp.TheVariants.{Add}
use Rattle.spec_processor.specs.declared.instruction.CsrOp.TheVariants.{Csrrw}
use Rattle.sv_types.specs.BlockNumbers.{address_offset, count_offset, command_offset, command_number}
use Rattle.sv_types.specs.DevicePlaces.{disk_base}
use Rattle.sv_types.specs.declared.block.BlockCommand.TheVariants.{DiskToMemory}
use Rattle.sv_types.specs.SbiExtensions.{put_char_extension, shut_down_extension}

-- the most calls of the user
abbrev pub max_calls : ℕ
max_calls = 1000000

-- ---- instructions, with their operands in the assembler's order

abbrev pub minus : ℕ → ℤ
minus n = neg_ℤ (pos n)

abbrev pub addi : (rd rs1 : ℕ) → ℤ → Instr
addi rd rs1 imm = Instr.OpImm Addi rd rs1 imm 0

abbrev pub addiw : (rd rs1 : ℕ) → ℤ → Instr
addiw rd rs1 imm = Instr.OpImm32 Addiw rd rs1 imm 0

-- the first register is stored at a place after the second
abbrev pub sw : (rs2 : ℕ) → ℤ → (rs1 : ℕ) → Instr
sw rs2 imm rs1 = Instr.Store Sw rs1 rs2 imm

abbrev pub sd : (rs2 : ℕ) → ℤ → (rs1 : ℕ) → Instr
sd rs2 imm rs1 = Instr.Store Sd rs1 rs2 imm

-- a control register is set
abbrev pub csrw : Csr → (rs1 : ℕ) → Instr
csrw csr rs1 = Instr.Csr Csrrw x0 rs1 (csr_number csr)

-- ---- a number in two instructions: its upper bits, rounded so that the rest is one of 12 bits with a sign

-- the values of an instruction's low 12 bits
abbrev pub low_values : ℕ
low_values = 4096

unfoldable pub upper : ℕ → ℤ
upper n = pos ((n + low_values / 2) / low_values * low_values)

unfoldable pub lower : ℕ → ℤ
lower n = pos n -ℤ upper n

-- ---- the kernel

-- the trap vector's place in the text
abbrev pub trap_offset : ℕ
trap_offset = 0x100

-- the byte that is printed
abbrev pub letter_k : ℕ
letter_k = 75

-- the kernel's begin: the trap vector into t0, the user's loop, which lies after the text, into s1, and the number of
-- calls into s0. Two sectors from the first one on are to go to 512 bytes below the text; then the user's loop is
-- entered
unfoldable pub setup : (calls : ℕ) → List Instr
setup calls =
    Instr.Auipc t0 (pos 0) ∷ addi t0 t0 (pos trap_offset) ∷ csrw Stvec t0
    ∷ Instr.Auipc s1 (pos page_size) ∷ addi s1 s1 (minus 12)
    ∷ Instr.Lui s0 (upper calls) ∷ addiw s0 s0 (lower calls)
    ∷ Instr.Lui t2 (pos disk_base) ∷ addi t3 t0 (minus 768) ∷ sd t3 (pos address_offset) t2
    ∷ addi t4 x0 (pos 2) ∷ sw t4 (pos count_offset) t2
    ∷ addi t4 x0 (pos (command_number DiskToMemory)) ∷ sw t4 (pos command_offset) t2
    ∷ csrw Sepc s1 ∷ Instr.Sret ∷ []

-- the trap vector: the number of calls left is stored a page after the user's loop and counted down. While some are
-- left the user's loop is entered again; at the end K is printed, and the machine shut down
unfoldable pub trap_handler : List Instr
trap_handler =
    Instr.Lui t1 (pos page_size) ∷ Instr.Op Add t1 t1 s1 ∷ sd s0 (pos 0) t1
    ∷ addi s0 s0 (minus 1) ∷ Instr.Branch Beq s0 x0 (pos 12)
    ∷ csrw Sepc s1 ∷ Instr.Sret
    ∷ addi a0 x0 (pos letter_k) ∷ addi a7 x0 (pos put_char_extension) ∷ Instr.Ecall
    ∷ addi a7 x0 (pos shut_down_extension) ∷ Instr.Ecall ∷ []

-- ---- the user: it calls the kernel over and over

unfoldable pub user_loop : List Instr
user_loop = Instr.Ecall ∷ Instr.Jal x0 (minus 4) ∷ []
