use Rattle.std.proofs.Common.{sym, ◌∙◌, refl, arith, [], ◌∷◌}
use Rattle.spec_processor.specs.Instructions as table
use Rattle.spec_processor.specs.Instructions.{rows}
use Rattle.laws_processor.proofs.Decoding.{missing, mask_opcode}
use Rattle.spec_processor.specs.declared.instruction.StoreOp.TheVariants as Store
use Rattle.rv64_decode.proofs.FoundRows.{row_funct3}
use Rattle.rv64_decode.proofs.memory.store.Goals as goal
use Rattle.rv64_decode.proofs.memory.store.Goals.{in-0, in-1, in-2, in-3}

pub returns-in_default : goal.returns-in_default
unfolding rows
returns-in_default c = sym (missing c.args.word 0x7F 0x23 12 15 (0 ∷ 1 ∷ 2 ∷ 3 ∷ []) (mask_opcode c.args.word 0x23 c.requires) (omega arith, (omega arith, (omega arith, (omega arith, tt)))) refl)

pub returns : goal.returns
unfolding rows
returns c = elim c.match-funct3.branch [
  | in-0 w ↦ row_funct3 c.args.word table.store Store.Sb c.match-funct3.op c.store.result c.store.ensures w.op-is 0x23 0 c.requires (sym c.funct3.ensures.value ∙ w.in-0.is) refl
  | in-1 w ↦ row_funct3 c.args.word table.store Store.Sh c.match-funct3.op c.store.result c.store.ensures w.op-is 0x23 1 c.requires (sym c.funct3.ensures.value ∙ w.in-1.is) refl
  | in-2 w ↦ row_funct3 c.args.word table.store Store.Sw c.match-funct3.op c.store.result c.store.ensures w.op-is 0x23 2 c.requires (sym c.funct3.ensures.value ∙ w.in-2.is) refl
  | in-3 w ↦ row_funct3 c.args.word table.store Store.Sd c.match-funct3.op c.store.result c.store.ensures w.op-is 0x23 3 c.requires (sym c.funct3.ensures.value ∙ w.in-3.is) refl
]
