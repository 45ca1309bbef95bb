use Rattle.std.proofs.Common.{sym, ◌∙◌, refl, arith, [], ◌∷◌}
use Rattle.spec_processor.specs.Instructions as table
use Rattle.spec_processor.specs.Instructions.{rows}
use Rattle.laws_processor.proofs.Decoding.{missing, mask_funct7}
use Rattle.rv64_decode.proofs.FoundRows.{row_funct7_rs2}
use Rattle.std.specs.Prelude.{◌+◌, ◌*◌, ◌^◌}
use Rattle.spec_processor.specs.declared.instruction.HyperOp.TheVariants as Hyper
use Rattle.rv64_decode.proofs.system.load_byte.Goals as goal
use Rattle.rv64_decode.proofs.system.load_byte.Goals.{in-0, in-1}

pub returns-in_default : goal.returns-in_default
unfolding rows
returns-in_default c = sym (missing c.args.word 0xFE00707F (0x73 + 2 ^ 12 * 4 +
    2 ^ 25 * 0x30) 20 25 (0 ∷ 1 ∷ []) (mask_funct7 c.args.word 0x73 4 0x30 c.requires.opcode c.requires.funct3 c.requires.funct7) (omega arith, (omega arith, tt)) refl)

pub returns : goal.returns
unfolding rows
returns c = elim c.match-rs2.branch [
  | in-0 w ↦ row_funct7_rs2 c.args.word table.hyper_load Hyper.HlvB c.match-rs2.op c.hyper_load.result c.hyper_load.ensures w.op-is 0x73 4 0x30 0 c.requires.opcode
      c.requires.funct3 c.requires.funct7 (sym c.rs2.ensures ∙ w.in-0.is) refl
  | in-1 w ↦ row_funct7_rs2 c.args.word table.hyper_load Hyper.HlvBu c.match-rs2.op c.hyper_load.result c.hyper_load.ensures w.op-is 0x73 4 0x30 1 c.requires.opcode
      c.requires.funct3 c.requires.funct7 (sym c.rs2.ensures ∙ w.in-1.is) refl
]
