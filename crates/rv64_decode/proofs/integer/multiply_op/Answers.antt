use Rattle.std.proofs.Common.{sym, ◌∙◌, refl, arith}
use Rattle.spec_processor.specs.Instructions as table
use Rattle.spec_processor.specs.Instructions.{rows}
use Rattle.spec_processor.specs.declared.instruction.OpOp.TheVariants as Op
use Rattle.rv64_decode.proofs.FoundRows.{row_funct7}
use Rattle.rv64_decode.proofs.integer.multiply_op.Goals as goal
use Rattle.rv64_decode.proofs.integer.multiply_op.Goals.{in-0, in-1, in-2, in-3, in-4, in-5, in-6, in_default}

pub returns : goal.returns
unfolding rows
returns c = elim c.match-funct3.branch [
  | in-0 w ↦ row_funct7 c.args.word table.op_op Op.Mul c.match-funct3.op c.op.result c.op.ensures w.op-is 0x33 0 0x01 c.requires.opcode (sym c.funct3.ensures.value ∙ w.in-0.is) c.requires.funct7 refl
  | in-1 w ↦ row_funct7 c.args.word table.op_op Op.Mulh c.match-funct3.op c.op.result c.op.ensures w.op-is 0x33 1 0x01 c.requires.opcode (sym c.funct3.ensures.value ∙ w.in-1.is) c.requires.funct7 refl
  | in-2 w ↦ row_funct7 c.args.word table.op_op Op.Mulhsu c.match-funct3.op c.op.result c.op.ensures w.op-is 0x33 2 0x01 c.requires.opcode (sym c.funct3.ensures.value ∙
      w.in-2.is) c.requires.funct7 refl
  | in-3 w ↦ row_funct7 c.args.word table.op_op Op.Mulhu c.match-funct3.op c.op.result c.op.ensures w.op-is 0x33 3 0x01 c.requires.opcode (sym c.funct3.ensures.value ∙
      w.in-3.is) c.requires.funct7 refl
  | in-4 w ↦ row_funct7 c.args.word table.op_op Op.Div c.match-funct3.op c.op.result c.op.ensures w.op-is 0x33 4 0x01 c.requires.opcode (sym c.funct3.ensures.value ∙ w.in-4.is) c.requires.funct7 refl
  | in-5 w ↦ row_funct7 c.args.word table.op_op Op.Divu c.match-funct3.op c.op.result c.op.ensures w.op-is 0x33 5 0x01 c.requires.opcode (sym c.funct3.ensures.value ∙ w.in-5.is) c.requires.funct7 refl
  | in-6 w ↦ row_funct7 c.args.word table.op_op Op.Rem c.match-funct3.op c.op.result c.op.ensures w.op-is 0x33 6 0x01 c.requires.opcode (sym c.funct3.ensures.value ∙ w.in-6.is) c.requires.funct7 refl
  | in_default w ↦ row_funct7 c.args.word table.op_op Op.Remu c.match-funct3.op c.op.result c.op.ensures w.op-is 0x33 7 0x01 c.requires.opcode (omega arith) c.requires.funct7 refl
]
