use Rattle.std.proofs.Common.{sym, ◌∙◌, refl, arith, [], ◌∷◌}
use Rattle.spec_processor.specs.Instructions as table
use Rattle.spec_processor.specs.Instructions.{rows}
use Rattle.laws_processor.proofs.Decoding.{missing, mask_opcode}
use Rattle.rv64_decode.proofs.FoundRows.{row_funct3}
use Rattle.spec_processor.specs.declared.instruction.Instr.TheVariants as Instr
use Rattle.rv64_decode.proofs.memory.fence.Goals as goal

pub returns-in-0 : goal.returns-in-0
unfolding rows
returns-in-0 c = row_funct3 c.args.word table.plain Instr.Fence Instr.Fence Instr.Fence refl refl 0x0F 0 c.requires (sym c.funct3.ensures.value ∙ c.in-0.is) refl

pub returns-in-1 : goal.returns-in-1
unfolding rows
returns-in-1 c = row_funct3 c.args.word table.plain Instr.FenceI Instr.FenceI Instr.FenceI refl refl 0x0F 1 c.requires (sym c.funct3.ensures.value ∙ c.in-1.is) refl

pub returns-in_default : goal.returns-in_default
unfolding rows
returns-in_default c = sym (missing c.args.word 0x7F (0x0F) 12 15 (0 ∷ 1 ∷ []) (mask_opcode c.args.word 0x0F c.requires) (omega arith, (omega arith, tt)) refl)
