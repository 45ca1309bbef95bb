use Rattle.std.proofs.Common.{sym, ◌∙◌, refl, arith, [], ◌∷◌}
use Rattle.spec_processor.specs.Instructions as table
use Rattle.spec_processor.specs.Instructions.{rows}
use Rattle.laws_processor.proofs.Decoding.{missing, mask_opcode}
use Rattle.rv64_decode.proofs.FoundRows.{row_atomic, row_conditional}
use Rattle.spec_processor.specs.declared.instruction.AmoOp.TheVariants as Amo
use Rattle.rv64_decode.proofs.memory.atomic_of_width.Goals as goal
use Rattle.rv64_decode.proofs.memory.atomic_of_width.Goals.{in-0, in-1, in-4, in-8, in-12, in-16, in-20, in-24, in-28}

pub returns-in-3 : goal.returns-in-3
unfolding rows
returns-in-3 c = row_conditional c.args.word c.args.width c.sc.result c.sc.ensures c.requires.opcode c.requires.funct3 (sym c.bits.ensures.value ∙ c.in-3.is)

pub returns-in_default : goal.returns-in_default
unfolding rows
returns-in_default c = sym (missing c.args.word 0x7F (0x2F) 27 32 (0 ∷ 1 ∷ 2 ∷ 3 ∷ 4 ∷ 8 ∷ 0xc ∷ 0x10 ∷ 0x14 ∷ 0x18 ∷ 0x1c ∷ []) (mask_opcode c.args.word 0x2F c.requires.opcode)
    (omega arith, (omega arith, (omega arith, (omega arith, (omega arith, (omega arith, (omega arith, (omega arith, (omega arith, (omega arith, (omega arith, tt))))))))))) refl)

pub returns : goal.returns
unfolding rows
returns c = elim c.match-bits.branch [
  | in-0 w ↦ row_atomic c.args.word c.args.width table.amo Amo.Amoadd c.match-bits.op c.amo.result c.amo.ensures w.op-is 0 c.requires.opcode c.requires.funct3
      (sym c.bits.ensures.value ∙ w.in-0.is) refl refl
  | in-1 w ↦ row_atomic c.args.word c.args.width table.amo Amo.Amoswap c.match-bits.op c.amo.result c.amo.ensures w.op-is 1 c.requires.opcode c.requires.funct3
      (sym c.bits.ensures.value ∙ w.in-1.is) refl refl
  | in-4 w ↦ row_atomic c.args.word c.args.width table.amo Amo.Amoxor c.match-bits.op c.amo.result c.amo.ensures w.op-is 4 c.requires.opcode c.requires.funct3
      (sym c.bits.ensures.value ∙ w.in-4.is) refl refl
  | in-8 w ↦ row_atomic c.args.word c.args.width table.amo Amo.Amoor c.match-bits.op c.amo.result c.amo.ensures w.op-is 8 c.requires.opcode c.requires.funct3
      (sym c.bits.ensures.value ∙ w.in-8.is) refl refl
  | in-12 w ↦ row_atomic c.args.word c.args.width table.amo Amo.Amoand c.match-bits.op c.amo.result c.amo.ensures w.op-is 12 c.requires.opcode c.requires.funct3
      (sym c.bits.ensures.value ∙ w.in-12.is) refl refl
  | in-16 w ↦ row_atomic c.args.word c.args.width table.amo Amo.Amomin c.match-bits.op c.amo.result c.amo.ensures w.op-is 16 c.requires.opcode c.requires.funct3
      (sym c.bits.ensures.value ∙ w.in-16.is) refl refl
  | in-20 w ↦ row_atomic c.args.word c.args.width table.amo Amo.Amomax c.match-bits.op c.amo.result c.amo.ensures w.op-is 20 c.requires.opcode c.requires.funct3
      (sym c.bits.ensures.value ∙ w.in-20.is) refl refl
  | in-24 w ↦ row_atomic c.args.word c.args.width table.amo Amo.Amominu c.match-bits.op c.amo.result c.amo.ensures w.op-is 24 c.requires.opcode c.requires.funct3
      (sym c.bits.ensures.value ∙ w.in-24.is) refl refl
  | in-28 w ↦ row_atomic c.args.word c.args.width table.amo Amo.Amomaxu c.match-bits.op c.amo.result c.amo.ensures w.op-is 28 c.requires.opcode c.requires.funct3
      (sym c.bits.ensures.value ∙ w.in-28.is) refl refl
]
