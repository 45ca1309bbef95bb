use Rattle.std.proofs.Common.{sym, ◌∙◌, refl, arith}
use Rattle.spec_processor.specs.Instructions as table
use Rattle.spec_processor.specs.Instructions.{rows}
use Rattle.spec_processor.specs.declared.instruction.OpImmOp.TheVariants as OpImm
use Rattle.rv64_decode.proofs.FoundRows.{row_funct3}
use Rattle.rv64_decode.proofs.integer.op_imm.Goals as goal
use Rattle.rv64_decode.proofs.integer.op_imm.Goals.{in-0, in-2, in-3, in-4, in-6, in_default}

pub returns : goal.returns
unfolding rows
returns c = elim c.match-funct3.branch [
  | in-0 w ↦ row_funct3 c.args.word table.op_imm OpImm.Addi c.match-funct3.op c.op_imm.result c.op_imm.ensures w.op-is 0x13 0 c.requires (sym c.funct3.ensures.value ∙ w.in-0.is) refl
  | in-2 w ↦ row_funct3 c.args.word table.op_imm OpImm.Slti c.match-funct3.op c.op_imm.result c.op_imm.ensures w.op-is 0x13 2 c.requires (sym c.funct3.ensures.value ∙ w.in-2.is) refl
  | in-3 w ↦ row_funct3 c.args.word table.op_imm OpImm.Sltiu c.match-funct3.op c.op_imm.result c.op_imm.ensures w.op-is 0x13 3 c.requires (sym c.funct3.ensures.value ∙ w.in-3.is) refl
  | in-4 w ↦ row_funct3 c.args.word table.op_imm OpImm.Xori c.match-funct3.op c.op_imm.result c.op_imm.ensures w.op-is 0x13 4 c.requires (sym c.funct3.ensures.value ∙ w.in-4.is) refl
  | in-6 w ↦ row_funct3 c.args.word table.op_imm OpImm.Ori c.match-funct3.op c.op_imm.result c.op_imm.ensures w.op-is 0x13 6 c.requires (sym c.funct3.ensures.value ∙ w.in-6.is) refl
  | in_default w ↦ row_funct3 c.args.word table.op_imm OpImm.Andi c.match-funct3.op c.op_imm.result c.op_imm.ensures w.op-is 0x13 7 c.requires (omega arith) refl
]
