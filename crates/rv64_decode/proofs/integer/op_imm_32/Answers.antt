use Rattle.std.proofs.Common.{sym, ◌∙◌, refl, arith, [], ◌∷◌}
use Rattle.spec_processor.specs.Instructions as table
use Rattle.spec_processor.specs.Instructions.{rows}
use Rattle.laws_processor.proofs.Decoding.{missing, mask_opcode}
use Rattle.rv64_decode.proofs.FoundRows.{row_funct3}
use Rattle.spec_processor.specs.declared.instruction.OpImm32Op.TheVariants as OpImm32
use Rattle.rv64_decode.proofs.integer.op_imm_32.Goals as goal

pub returns-in-0 : goal.returns-in-0
unfolding rows
returns-in-0 c = row_funct3 c.args.word table.op_imm_32 OpImm32.Addiw OpImm32.Addiw c.op_imm_32.result c.op_imm_32.ensures refl 0x1B 0 c.requires (sym c.funct3.ensures.value ∙ c.in-0.is) refl

pub returns-in_default : goal.returns-in_default
unfolding rows
returns-in_default c = sym (missing c.args.word 0x7F (0x1B) 12 15 (0 ∷ 1 ∷ 5 ∷ []) (mask_opcode c.args.word 0x1B c.requires) (omega arith, (omega arith, (omega arith, tt))) refl)
