use Rattle.std.proofs.Common.{sym, ◌∙◌, refl, arith, [], ◌∷◌}
use Rattle.spec_processor.specs.Instructions as table
use Rattle.spec_processor.specs.Instructions.{rows}
use Rattle.laws_processor.proofs.Decoding.{missing, mask_opcode}
use Rattle.spec_processor.specs.declared.instruction.BranchOp.TheVariants as Branch
use Rattle.rv64_decode.proofs.FoundRows.{row_funct3}
use Rattle.rv64_decode.proofs.integer.branch.Goals as goal
use Rattle.rv64_decode.proofs.integer.branch.Goals.{in-0, in-1, in-4, in-5, in-6, in-7}

pub returns-in_default : goal.returns-in_default
unfolding rows
returns-in_default c = sym (missing c.args.word 0x7F 0x63 12 15 (0 ∷ 1 ∷ 4 ∷ 5 ∷ 6 ∷ 7 ∷ []) (mask_opcode c.args.word 0x63 c.requires) (
  omega arith,
  (omega arith, (omega arith, (omega arith, (omega arith, (omega arith, tt))))),
) refl)

pub returns : goal.returns
unfolding rows
returns c = elim c.match-funct3.branch [
  | in-0 w ↦ row_funct3 c.args.word table.branch Branch.Beq c.match-funct3.op c.branch-op.result c.branch-op.ensures w.op-is 0x63 0 c.requires (sym c.funct3.ensures.value ∙ w.in-0.is) refl
  | in-1 w ↦ row_funct3 c.args.word table.branch Branch.Bne c.match-funct3.op c.branch-op.result c.branch-op.ensures w.op-is 0x63 1 c.requires (sym c.funct3.ensures.value ∙ w.in-1.is) refl
  | in-4 w ↦ row_funct3 c.args.word table.branch Branch.Blt c.match-funct3.op c.branch-op.result c.branch-op.ensures w.op-is 0x63 4 c.requires (sym c.funct3.ensures.value ∙ w.in-4.is) refl
  | in-5 w ↦ row_funct3 c.args.word table.branch Branch.Bge c.match-funct3.op c.branch-op.result c.branch-op.ensures w.op-is 0x63 5 c.requires (sym c.funct3.ensures.value ∙ w.in-5.is) refl
  | in-6 w ↦ row_funct3 c.args.word table.branch Branch.Bltu c.match-funct3.op c.branch-op.result c.branch-op.ensures w.op-is 0x63 6 c.requires (sym c.funct3.ensures.value ∙ w.in-6.is) refl
  | in-7 w ↦ row_funct3 c.args.word table.branch Branch.Bgeu c.match-funct3.op c.branch-op.result c.branch-op.ensures w.op-is 0x63 7 c.requires (sym c.funct3.ensures.value ∙ w.in-7.is) refl
]
