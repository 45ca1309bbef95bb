use Rattle.std.proofs.Common.{sym, ◌∙◌, refl, arith, [], ◌∷◌}
use Rattle.spec_processor.specs.Instructions.{rows}
use Rattle.laws_processor.proofs.Decoding.{missing, mask_opcode_funct5}
use Rattle.rv64_decode.proofs.FoundRows.{row_reserved}
use Rattle.std.specs.Prelude.{◌+◌, ◌*◌, ◌^◌}
use Rattle.rv64_decode.proofs.memory.load_reserved.Goals as goal

pub returns-then-rs2-eq0 : goal.returns-then-rs2-eq0
unfolding rows
returns-then-rs2-eq0 c = row_reserved c.args.word c.args.width c.lr.result c.lr.ensures c.requires.opcode c.requires.funct3 c.requires.funct5 (sym c.rs2.ensures ∙ c.if-rs2-eq0.true)

pub returns-else-rs2-eq0 : goal.returns-else-rs2-eq0
unfolding rows
returns-else-rs2-eq0 c = sym (missing c.args.word 0xF800007F (0x2F + 2 ^ 27 * 2) 20 25 (0 ∷ []) (mask_opcode_funct5 c.args.word 0x2F 2 c.requires.opcode c.requires.funct5) (omega arith, tt) refl)
