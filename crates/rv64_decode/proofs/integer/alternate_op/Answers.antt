use Rattle.std.proofs.Common.{sym, ◌∙◌, refl, arith, [], ◌∷◌}
use Rattle.spec_processor.specs.Instructions as table
use Rattle.spec_processor.specs.Instructions.{rows}
use Rattle.laws_processor.proofs.Decoding.{missing, mask_opcode_funct7}
use Rattle.rv64_decode.proofs.FoundRows.{row_funct7}
use Rattle.std.specs.Prelude.{◌+◌, ◌*◌, ◌^◌}
use Rattle.spec_processor.specs.declared.instruction.OpOp.TheVariants as Op
use Rattle.rv64_decode.proofs.integer.alternate_op.Goals as goal

pub returns-in-0 : goal.returns-in-0
unfolding rows
returns-in-0 c = row_funct7 c.args.word table.op_op Op.Sub Op.Sub c.op.result c.op.ensures refl 0x33 0 0x20 c.requires.opcode (sym c.funct3.ensures.value ∙ c.in-0.is) c.requires.funct7 refl

pub returns-in-5 : goal.returns-in-5
unfolding rows
returns-in-5 c = row_funct7 c.args.word table.op_op Op.Sra Op.Sra c.op-in-5.result c.op-in-5.ensures refl 0x33 5 0x20 c.requires.opcode (sym c.funct3.ensures.value ∙ c.in-5.is) c.requires.funct7 refl

pub returns-in_default : goal.returns-in_default
unfolding rows
returns-in_default c = sym (missing c.args.word 0xFE00007F (0x33 + 2 ^ 25 * 0x20) 12 15 (0 ∷ 5 ∷ []) (mask_opcode_funct7 c.args.word 0x33 0x20 c.requires.opcode c.requires.funct7)
    (omega arith, (omega arith, tt)) refl)
