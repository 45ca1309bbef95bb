use Rattle.std.proofs.Common.{sym, ◌∙◌, refl, arith, [], ◌∷◌}
use Rattle.spec_processor.specs.Instructions as table
use Rattle.spec_processor.specs.Instructions.{rows}
use Rattle.laws_processor.proofs.Decoding.{missing, mask_opcode_funct7}
use Rattle.rv64_decode.proofs.FoundRows.{row_funct7}
use Rattle.std.specs.Prelude.{◌+◌, ◌*◌, ◌^◌}
use Rattle.spec_processor.specs.declared.instruction.Op32Op.TheVariants as Op32
use Rattle.rv64_decode.proofs.integer.alternate_op_32.Goals as goal

pub returns-in-0 : goal.returns-in-0
unfolding rows
returns-in-0 c = row_funct7 c.args.word table.op_32 Op32.Subw Op32.Subw c.op_32.result c.op_32.ensures refl 0x3B 0 0x20 c.requires.opcode (sym c.funct3.ensures.value ∙
    c.in-0.is) c.requires.funct7 refl

pub returns-in-5 : goal.returns-in-5
unfolding rows
returns-in-5 c = row_funct7 c.args.word table.op_32 Op32.Sraw Op32.Sraw c.op_32-in-5.result c.op_32-in-5.ensures refl 0x3B 5 0x20 c.requires.opcode (sym c.funct3.ensures.value ∙
    c.in-5.is) c.requires.funct7 refl

pub returns-in_default : goal.returns-in_default
unfolding rows
returns-in_default c = sym (missing c.args.word 0xFE00007F (0x3B + 2 ^ 25 * 0x20) 12 15 (0 ∷ 5 ∷ []) (mask_opcode_funct7 c.args.word 0x3B 0x20 c.requires.opcode c.requires.funct7)
    (omega arith, (omega arith, tt)) refl)
