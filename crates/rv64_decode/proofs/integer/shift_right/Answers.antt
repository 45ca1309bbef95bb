use Rattle.std.proofs.Common.{sym, ◌∙◌, refl, arith, [], ◌∷◌}
use Rattle.spec_processor.specs.Instructions as table
use Rattle.spec_processor.specs.Instructions.{rows}
use Rattle.laws_processor.proofs.Decoding.{missing, mask_funct3}
use Rattle.rv64_decode.proofs.FoundRows.{row_funct6}
use Rattle.spec_processor.specs.declared.instruction.OpImmOp.TheVariants as OpImm
use Rattle.std.specs.Prelude.{◌+◌, ◌*◌, ◌^◌}
use Rattle.rv64_decode.proofs.integer.shift_right.Goals as goal

pub returns-in-0 : goal.returns-in-0
unfolding rows
returns-in-0 c = row_funct6 c.args.word table.shift OpImm.Srli OpImm.Srli c.shift.result c.shift.ensures refl 0x13 5 0 c.requires.opcode c.requires.funct3 (sym c.bits.ensures.value ∙ c.in-0.is) refl

pub returns-in-16 : goal.returns-in-16
unfolding rows
returns-in-16 c = row_funct6 c.args.word table.shift OpImm.Srai OpImm.Srai c.shift-in-16.result c.shift-in-16.ensures refl 0x13 5 0x10 c.requires.opcode c.requires.funct3
    (sym c.bits.ensures.value ∙ c.in-16.is) refl

pub returns-in_default : goal.returns-in_default
unfolding rows
returns-in_default c = sym (missing c.args.word 0x707F (0x13 + 2 ^ 12 * 5) 26 32 (0 ∷ 0x10 ∷ []) (mask_funct3 c.args.word 0x13 5 c.requires.opcode c.requires.funct3) (
  omega arith,
  (omega arith, tt),
) refl)
