use Rattle.std.proofs.Common.{sym, ◌∙◌, refl, arith, [], ◌∷◌}
use Rattle.spec_processor.specs.Instructions as table
use Rattle.spec_processor.specs.Instructions.{rows}
use Rattle.laws_processor.proofs.Decoding.{missing, mask_none}
use Rattle.rv64_decode.proofs.FoundRows.{row_opcode}
use Rattle.rv64_decode.proofs.by_opcode.Goals as goal

pub returns-in-55 : goal.returns-in-55
unfolding rows
returns-in-55 c = row_opcode c.args.word table.lui c.lui.result 55 c.lui.ensures (sym c.opcode.ensures ∙ c.in-55.is) refl

pub returns-in-23 : goal.returns-in-23
unfolding rows
returns-in-23 c = row_opcode c.args.word table.auipc c.auipc.result 23 c.auipc.ensures (sym c.opcode.ensures ∙ c.in-23.is) refl

pub returns-in-111 : goal.returns-in-111
unfolding rows
returns-in-111 c = row_opcode c.args.word table.jal c.jal.result 111 c.jal.ensures (sym c.opcode.ensures ∙ c.in-111.is) refl

pub returns-in_default : goal.returns-in_default
unfolding rows
returns-in_default c = sym (missing c.args.word 0 (0) 0 7 (0x37 ∷ 0x17 ∷ 0x6f ∷ 0x67 ∷ 0x63 ∷ 3 ∷ 0x23 ∷ 0x13 ∷ 0x1b ∷ 0x33 ∷ 0x3b ∷ 0xf ∷ 0x2f ∷ 0x73 ∷ [])
    (mask_none c.args.word) (
      omega arith,
      (
        omega arith,
        (omega arith, (omega arith, (omega arith, (omega arith, (omega arith, (omega arith, (omega arith, (omega arith, (omega arith, (omega arith, (omega arith, (omega arith, tt)))))))))))),
      ),
    ) refl)
