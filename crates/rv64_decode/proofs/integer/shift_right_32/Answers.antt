use Rattle.std.proofs.Common.{sym, ◌∙◌, refl, arith, [], ◌∷◌}
use Rattle.spec_processor.specs.Instructions as table
use Rattle.spec_processor.specs.Instructions.{rows}
use Rattle.laws_processor.proofs.Decoding.{missing, mask_funct3}
use Rattle.rv64_decode.proofs.FoundRows.{row_funct7}
use Rattle.std.specs.Prelude.{◌+◌, ◌*◌, ◌^◌}
use Rattle.spec_processor.specs.declared.instruction.OpImm32Op.TheVariants as OpImm32
use Rattle.rv64_decode.proofs.integer.shift_right_32.Goals as goal

pub returns-in-0 : goal.returns-in-0
unfolding rows
returns-in-0 c = row_funct7 c.args.word table.shift_32 OpImm32.Srliw OpImm32.Srliw c.shift_32.result c.shift_32.ensures refl 0x1B 5 0 c.requires.opcode c.requires.funct3
    (sym c.funct7.ensures ∙ c.in-0.is) refl

pub returns-in-32 : goal.returns-in-32
unfolding rows
returns-in-32 c = row_funct7 c.args.word table.shift_32 OpImm32.Sraiw OpImm32.Sraiw c.shift_32-in-32.result c.shift_32-in-32.ensures refl 0x1B 5 0x20 c.requires.opcode
    c.requires.funct3 (sym c.funct7.ensures ∙ c.in-32.is) refl

pub returns-in_default : goal.returns-in_default
unfolding rows
returns-in_default c = sym (missing c.args.word 0x707F (0x1B + 2 ^ 12 * 5) 25 32 (0 ∷ 0x20 ∷ []) (mask_funct3 c.args.word 0x1B 5 c.requires.opcode c.requires.funct3) (
  omega arith,
  (omega arith, tt),
) refl)
