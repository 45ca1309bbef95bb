-- The major opcodes, the lowest seven bits of an instruction's word.
-- RISC-V Unprivileged manual, "RV32/64G Instruction Set Listings": the RISC-V base opcode map.
use Rattle.std.specs.Prelude.{ℕ}

abbrev pub load_opcode : ℕ
load_opcode = 0x03

abbrev pub misc_mem_opcode : ℕ
misc_mem_opcode = 0x0F

abbrev pub op_imm_opcode : ℕ
op_imm_opcode = 0x13

abbrev pub auipc_opcode : ℕ
auipc_opcode = 0x17

abbrev pub op_imm_32_opcode : ℕ
op_imm_32_opcode = 0x1B

abbrev pub store_opcode : ℕ
store_opcode = 0x23

abbrev pub amo_opcode : ℕ
amo_opcode = 0x2F

abbrev pub op_opcode : ℕ
op_opcode = 0x33

abbrev pub lui_opcode : ℕ
lui_opcode = 0x37

abbrev pub op_32_opcode : ℕ
op_32_opcode = 0x3B

abbrev pub branch_opcode : ℕ
branch_opcode = 0x63

abbrev pub jalr_opcode : ℕ
jalr_opcode = 0x67

abbrev pub jal_opcode : ℕ
jal_opcode = 0x6F

abbrev pub system_opcode : ℕ
system_opcode = 0x73
