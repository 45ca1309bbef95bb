use Rattle.std.proofs.Common.{ℕ, sym, ◌∙◌, refl, arith, [], ◌∷◌}
use Rattle.spec_processor.specs.Instructions as table
use Rattle.spec_processor.specs.Instructions.{rows}
use Rattle.laws_processor.proofs.Decoding.{missing, missing_either, mask_funct3}
use Rattle.rv64_decode.proofs.FoundRows.{row_funct7_no_rd}
use Rattle.std.specs.Prelude.{◌+◌, ◌*◌, ◌^◌}
use Rattle.spec_processor.specs.declared.instruction.HyperOp.TheVariants as Hyper
use Rattle.rv64_decode.proofs.system.translation_fence.Goals as goal

pub returns-then-rd-ne0 : goal.returns-then-rd-ne0
unfolding rows
returns-then-rd-ne0 c = sym (missing c.args.word 0x707F (0x73 + 2 ^ 12 * 0) 7 12 (0 ∷ []) (mask_funct3 c.args.word 0x73 0 c.requires.opcode c.requires.funct3) (omega arith, tt) refl)

pub returns-in-9 : goal.returns-in-9
unfolding rows
returns-in-9 c = row_funct7_no_rd c.args.word (λ (n : ℕ). table.sfence) 0 0 c.sfence.result c.sfence.ensures refl 0x73 0 9 c.requires.opcode c.requires.funct3
    (sym c.funct7.ensures ∙ c.in-9.is) (omega arith) refl

pub returns-in-17 : goal.returns-in-17
unfolding rows
returns-in-17 c = row_funct7_no_rd c.args.word table.hyper_store Hyper.HfenceVvma Hyper.HfenceVvma c.hyper_store.result c.hyper_store.ensures refl 0x73 0 17 c.requires.opcode
    c.requires.funct3 (sym c.funct7.ensures ∙ c.in-17.is) (omega arith) refl

pub returns-in-49 : goal.returns-in-49
unfolding rows
returns-in-49 c = row_funct7_no_rd c.args.word table.hyper_store Hyper.HfenceGvma Hyper.HfenceGvma c.hyper_store-in-49.result c.hyper_store-in-49.ensures refl 0x73 0 49
    c.requires.opcode c.requires.funct3 (sym c.funct7.ensures ∙ c.in-49.is) (omega arith) refl

pub returns-in_default : goal.returns-in_default
unfolding rows
returns-in_default c = sym (missing_either c.args.word 0x707F (0x73 + 2 ^ 12 * 0) 25 32 0 32 (0x09 ∷ 0x11 ∷ 0x31 ∷ []) (0x00000073 ∷ 0x00100073 ∷ 0x10200073 ∷ 0x10500073 ∷ [])
    (mask_funct3 c.args.word 0x73 0 c.requires.opcode c.requires.funct3) (omega arith, (omega arith, (omega arith, tt))) (omega arith, (omega arith, (omega arith, (omega arith, tt)))) refl)
