use Rattle.std.proofs.Common.{sym, ◌∙◌, refl, arith, [], ◌∷◌}
use Rattle.spec_processor.specs.Instructions.{rows}
use Rattle.laws_processor.proofs.Decoding.{missing, mask_funct3, mask_funct7}
use Rattle.rv64_decode.proofs.FoundRows.{row_no_rd}
use Rattle.std.specs.Prelude.{◌+◌, ◌*◌, ◌^◌}
use Rattle.spec_processor.specs.declared.instruction.HyperOp.TheVariants as Hyper
use Rattle.rv64_decode.proofs.system.hyper.Goals as goal

pub returns-in-49 : goal.returns-in-49
unfolding rows
returns-in-49 c = c.store_without_rd.ensures ∙ row_no_rd c.args.word Hyper.HsvB 4 49 c.requires.opcode c.requires.funct3 (sym c.funct7.ensures ∙
    c.in-49.is) refl (λ h. missing c.args.word 0xFE00707F (0x73 + 2 ^ 12 * 4 +
    2 ^ 25 * 49) 7 12 (0 ∷ []) (mask_funct7 c.args.word 0x73 4 49 c.requires.opcode c.requires.funct3 (sym c.funct7.ensures ∙ c.in-49.is)) (h, tt) refl)

pub returns-in-51 : goal.returns-in-51
unfolding rows
returns-in-51 c = c.store_without_rd-in-51.ensures ∙ row_no_rd c.args.word Hyper.HsvH 4 51 c.requires.opcode c.requires.funct3 (sym c.funct7.ensures ∙
    c.in-51.is) refl (λ h. missing c.args.word 0xFE00707F (0x73 + 2 ^ 12 * 4 +
    2 ^ 25 * 51) 7 12 (0 ∷ []) (mask_funct7 c.args.word 0x73 4 51 c.requires.opcode c.requires.funct3 (sym c.funct7.ensures ∙ c.in-51.is)) (h, tt) refl)

pub returns-in-53 : goal.returns-in-53
unfolding rows
returns-in-53 c = c.store_without_rd-in-53.ensures ∙ row_no_rd c.args.word Hyper.HsvW 4 53 c.requires.opcode c.requires.funct3 (sym c.funct7.ensures ∙
    c.in-53.is) refl (λ h. missing c.args.word 0xFE00707F (0x73 + 2 ^ 12 * 4 +
    2 ^ 25 * 53) 7 12 (0 ∷ []) (mask_funct7 c.args.word 0x73 4 53 c.requires.opcode c.requires.funct3 (sym c.funct7.ensures ∙ c.in-53.is)) (h, tt) refl)

pub returns-in-55 : goal.returns-in-55
unfolding rows
returns-in-55 c = c.store_without_rd-in-55.ensures ∙ row_no_rd c.args.word Hyper.HsvD 4 55 c.requires.opcode c.requires.funct3 (sym c.funct7.ensures ∙
    c.in-55.is) refl (λ h. missing c.args.word 0xFE00707F (0x73 + 2 ^ 12 * 4 +
    2 ^ 25 * 55) 7 12 (0 ∷ []) (mask_funct7 c.args.word 0x73 4 55 c.requires.opcode c.requires.funct3 (sym c.funct7.ensures ∙ c.in-55.is)) (h, tt) refl)

pub returns-in_default : goal.returns-in_default
unfolding rows
returns-in_default c = sym (missing c.args.word 0x707F (0x73 + 2 ^ 12 * 4) 25 32 (0x30 ∷ 0x31 ∷ 0x32 ∷ 0x33 ∷ 0x34 ∷ 0x35 ∷ 0x36 ∷ 0x37 ∷ [])
    (mask_funct3 c.args.word 0x73 4 c.requires.opcode c.requires.funct3) (
      omega arith,
      (omega arith, (omega arith, (omega arith, (omega arith, (omega arith, (omega arith, (omega arith, tt))))))),
    ) refl)
