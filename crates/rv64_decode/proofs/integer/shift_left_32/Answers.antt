use Rattle.std.proofs.Common.{sym, ◌∙◌, refl, arith, [], ◌∷◌}
use Rattle.spec_processor.specs.Instructions as table
use Rattle.spec_processor.specs.Instructions.{rows}
use Rattle.laws_processor.proofs.Decoding.{missing, mask_funct3}
use Rattle.rv64_decode.proofs.FoundRows.{row_funct7}
use Rattle.std.specs.Prelude.{◌+◌, ◌*◌, ◌^◌}
use Rattle.spec_processor.specs.declared.instruction.OpImm32Op.TheVariants as OpImm32
use Rattle.rv64_decode.proofs.integer.shift_left_32.Goals as goal

pub returns-then-funct7-eq0 : goal.returns-then-funct7-eq0
unfolding rows
returns-then-funct7-eq0 c = row_funct7 c.args.word table.shift_32 OpImm32.Slliw OpImm32.Slliw c.shift_32.result c.shift_32.ensures refl 0x1B 1 0 c.requires.opcode
    c.requires.funct3 (sym c.funct7.ensures ∙ c.if-funct7-eq0.true) refl

pub returns-else-funct7-eq0 : goal.returns-else-funct7-eq0
unfolding rows
returns-else-funct7-eq0 c = sym (missing c.args.word 0x707F (0x1B + 2 ^ 12 * 1) 25 32 (0 ∷ []) (mask_funct3 c.args.word 0x1B 1 c.requires.opcode c.requires.funct3) (omega arith, tt) refl)
