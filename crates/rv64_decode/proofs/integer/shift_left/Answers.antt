use Rattle.std.proofs.Common.{sym, ◌∙◌, refl, arith, [], ◌∷◌}
use Rattle.spec_processor.specs.Instructions as table
use Rattle.spec_processor.specs.Instructions.{rows}
use Rattle.laws_processor.proofs.Decoding.{missing, mask_funct3}
use Rattle.rv64_decode.proofs.FoundRows.{row_funct6}
use Rattle.spec_processor.specs.declared.instruction.OpImmOp.TheVariants as OpImm
use Rattle.std.specs.Prelude.{◌+◌, ◌*◌, ◌^◌}
use Rattle.rv64_decode.proofs.integer.shift_left.Goals as goal

pub returns-then-bits-eq0 : goal.returns-then-bits-eq0
unfolding rows
returns-then-bits-eq0 c = row_funct6 c.args.word table.shift OpImm.Slli OpImm.Slli c.shift.result c.shift.ensures refl 0x13 1 0 c.requires.opcode c.requires.funct3
    (sym c.bits.ensures.value ∙ c.if-bits-eq0.true) refl

pub returns-else-bits-eq0 : goal.returns-else-bits-eq0
unfolding rows
returns-else-bits-eq0 c = sym (missing c.args.word 0x707F (0x13 + 2 ^ 12 * 1) 26 32 (0 ∷ []) (mask_funct3 c.args.word 0x13 1 c.requires.opcode c.requires.funct3) (omega arith, tt) refl)
