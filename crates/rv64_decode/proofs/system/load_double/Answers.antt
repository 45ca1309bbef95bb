use Rattle.std.proofs.Common.{sym, ◌∙◌, refl, arith, [], ◌∷◌}
use Rattle.spec_processor.specs.Instructions as table
use Rattle.spec_processor.specs.Instructions.{rows}
use Rattle.laws_processor.proofs.Decoding.{missing, mask_funct7}
use Rattle.rv64_decode.proofs.FoundRows.{row_funct7_rs2}
use Rattle.std.specs.Prelude.{◌+◌, ◌*◌, ◌^◌}
use Rattle.spec_processor.specs.declared.instruction.HyperOp.TheVariants as Hyper
use Rattle.rv64_decode.proofs.system.load_double.Goals as goal

pub returns-then-rs2-eq0 : goal.returns-then-rs2-eq0
unfolding rows
returns-then-rs2-eq0 c = row_funct7_rs2 c.args.word table.hyper_load Hyper.HlvD Hyper.HlvD c.hyper_load.result c.hyper_load.ensures refl 0x73 4 0x36 0 c.requires.opcode
    c.requires.funct3 c.requires.funct7 (sym c.rs2.ensures ∙ c.if-rs2-eq0.true) refl

pub returns-else-rs2-eq0 : goal.returns-else-rs2-eq0
unfolding rows
returns-else-rs2-eq0 c = sym (missing c.args.word 0xFE00707F (0x73 + 2 ^ 12 * 4 +
    2 ^ 25 * 0x36) 20 25 (0 ∷ []) (mask_funct7 c.args.word 0x73 4 0x36 c.requires.opcode c.requires.funct3 c.requires.funct7) (omega arith, tt) refl)
