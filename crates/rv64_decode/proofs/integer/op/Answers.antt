use Rattle.std.proofs.Common.{sym, refl, arith, [], ◌∷◌}
use Rattle.spec_processor.specs.Instructions.{rows}
use Rattle.laws_processor.proofs.Decoding.{missing, mask_opcode}
use Rattle.rv64_decode.proofs.integer.op.Goals as goal

pub returns-in_default : goal.returns-in_default
unfolding rows
returns-in_default c = sym (missing c.args.word 0x7F (0x33) 25 32 (0 ∷ 1 ∷ 0x20 ∷ []) (mask_opcode c.args.word 0x33 c.requires) (omega arith, (omega arith, (omega arith, tt))) refl)
