use Rattle.std.proofs.Common.{sym, ◌∙◌, refl, arith, [], ◌∷◌}
use Rattle.spec_processor.specs.Instructions as table
use Rattle.spec_processor.specs.Instructions.{rows}
use Rattle.laws_processor.proofs.Decoding.{missing, mask_opcode}
use Rattle.spec_processor.specs.declared.instruction.LoadOp.TheVariants as Load
use Rattle.rv64_decode.proofs.FoundRows.{row_funct3}
use Rattle.rv64_decode.proofs.memory.load.Goals as goal
use Rattle.rv64_decode.proofs.memory.load.Goals.{in-0, in-1, in-2, in-3, in-4, in-5, in-6}

pub returns-in_default : goal.returns-in_default
unfolding rows
returns-in_default c = sym (missing c.args.word 0x7F 0x03 12 15 (0 ∷ 1 ∷ 2 ∷ 3 ∷ 4 ∷ 5 ∷ 6 ∷ []) (mask_opcode c.args.word 0x03 c.requires) (
  omega arith,
  (omega arith, (omega arith, (omega arith, (omega arith, (omega arith, (omega arith, tt)))))),
) refl)

pub returns : goal.returns
unfolding rows
returns c = elim c.match-funct3.branch [
  | in-0 w ↦ row_funct3 c.args.word table.load Load.Lb c.match-funct3.op c.load.result c.load.ensures w.op-is 0x03 0 c.requires (sym c.funct3.ensures.value ∙ w.in-0.is) refl
  | in-1 w ↦ row_funct3 c.args.word table.load Load.Lh c.match-funct3.op c.load.result c.load.ensures w.op-is 0x03 1 c.requires (sym c.funct3.ensures.value ∙ w.in-1.is) refl
  | in-2 w ↦ row_funct3 c.args.word table.load Load.Lw c.match-funct3.op c.load.result c.load.ensures w.op-is 0x03 2 c.requires (sym c.funct3.ensures.value ∙ w.in-2.is) refl
  | in-3 w ↦ row_funct3 c.args.word table.load Load.Ld c.match-funct3.op c.load.result c.load.ensures w.op-is 0x03 3 c.requires (sym c.funct3.ensures.value ∙ w.in-3.is) refl
  | in-4 w ↦ row_funct3 c.args.word table.load Load.Lbu c.match-funct3.op c.load.result c.load.ensures w.op-is 0x03 4 c.requires (sym c.funct3.ensures.value ∙ w.in-4.is) refl
  | in-5 w ↦ row_funct3 c.args.word table.load Load.Lhu c.match-funct3.op c.load.result c.load.ensures w.op-is 0x03 5 c.requires (sym c.funct3.ensures.value ∙ w.in-5.is) refl
  | in-6 w ↦ row_funct3 c.args.word table.load Load.Lwu c.match-funct3.op c.load.result c.load.ensures w.op-is 0x03 6 c.requires (sym c.funct3.ensures.value ∙ w.in-6.is) refl
]
