use Rattle.std.proofs.Common.{sym, ◌∙◌, refl, arith, [], ◌∷◌}
use Rattle.spec_processor.specs.Instructions as table
use Rattle.spec_processor.specs.Instructions.{rows}
use Rattle.laws_processor.proofs.Decoding.{missing, mask_opcode_funct7}
use Rattle.spec_processor.specs.declared.instruction.Op32Op.TheVariants as Op32
use Rattle.std.specs.Prelude.{◌+◌, ◌*◌, ◌^◌}
use Rattle.rv64_decode.proofs.FoundRows.{row_funct7}
use Rattle.rv64_decode.proofs.integer.multiply_op_32.Goals as goal
use Rattle.rv64_decode.proofs.integer.multiply_op_32.Goals.{in-0, in-4, in-5, in-6, in-7}

pub returns-in_default : goal.returns-in_default
unfolding rows
returns-in_default c = sym (missing c.args.word 0xFE00007F (0x3B + 2 ^ 25 * 0x01) 12 15 (0 ∷ 4 ∷ 5 ∷ 6 ∷ 7 ∷ []) (mask_opcode_funct7 c.args.word 0x3B 0x01 c.requires.opcode
    c.requires.funct7) (omega arith, (omega arith, (omega arith, (omega arith, (omega arith, tt))))) refl)

pub returns : goal.returns
unfolding rows
returns c = elim c.match-funct3.branch [
  | in-0 w ↦ row_funct7 c.args.word table.op_32 Op32.Mulw c.match-funct3.op c.op_32.result c.op_32.ensures w.op-is 0x3B 0 0x01 c.requires.opcode (sym c.funct3.ensures.value ∙
      w.in-0.is) c.requires.funct7 refl
  | in-4 w ↦ row_funct7 c.args.word table.op_32 Op32.Divw c.match-funct3.op c.op_32.result c.op_32.ensures w.op-is 0x3B 4 0x01 c.requires.opcode (sym c.funct3.ensures.value ∙
      w.in-4.is) c.requires.funct7 refl
  | in-5 w ↦ row_funct7 c.args.word table.op_32 Op32.Divuw c.match-funct3.op c.op_32.result c.op_32.ensures w.op-is 0x3B 5 0x01 c.requires.opcode (sym c.funct3.ensures.value ∙
      w.in-5.is) c.requires.funct7 refl
  | in-6 w ↦ row_funct7 c.args.word table.op_32 Op32.Remw c.match-funct3.op c.op_32.result c.op_32.ensures w.op-is 0x3B 6 0x01 c.requires.opcode (sym c.funct3.ensures.value ∙
      w.in-6.is) c.requires.funct7 refl
  | in-7 w ↦ row_funct7 c.args.word table.op_32 Op32.Remuw c.match-funct3.op c.op_32.result c.op_32.ensures w.op-is 0x3B 7 0x01 c.requires.opcode (sym c.funct3.ensures.value ∙
      w.in-7.is) c.requires.funct7 refl
]
