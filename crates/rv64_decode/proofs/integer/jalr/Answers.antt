use Rattle.std.proofs.Common.{ℕ, sym, ◌∙◌, refl, arith, [], ◌∷◌}
use Rattle.spec_processor.specs.Instructions as table
use Rattle.spec_processor.specs.Instructions.{rows}
use Rattle.laws_processor.proofs.Decoding.{missing, mask_opcode}
use Rattle.rv64_decode.proofs.FoundRows.{row_funct3}
use Rattle.rv64_decode.proofs.integer.jalr.Goals as goal

pub returns-then-funct3-eq0 : goal.returns-then-funct3-eq0
unfolding rows
returns-then-funct3-eq0 c = row_funct3 c.args.word (λ (n : ℕ). table.jalr) 0 0 c.jalr.result c.jalr.ensures refl 0x67 0 c.requires (sym c.funct3.ensures.value ∙ c.if-funct3-eq0.true) refl

pub returns-else-funct3-eq0 : goal.returns-else-funct3-eq0
unfolding rows
returns-else-funct3-eq0 c = sym (missing c.args.word 0x7F (0x67) 12 15 (0 ∷ []) (mask_opcode c.args.word 0x67 c.requires) (omega arith, tt) refl)
