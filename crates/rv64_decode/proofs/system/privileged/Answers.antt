use Rattle.std.proofs.Common.{refl, arith}
use Rattle.spec_processor.specs.Instructions as table
use Rattle.spec_processor.specs.Instructions.{rows}
use Rattle.rv64_decode.proofs.FoundRows.{row_whole}
use Rattle.spec_processor.specs.declared.instruction.Instr.TheVariants as Instr
use Rattle.rv64_decode.proofs.system.privileged.Goals as goal

pub returns-in-115 : goal.returns-in-115
unfolding rows
returns-in-115 c = row_whole c.args.word (table.plain Instr.Ecall) Instr.Ecall 115 refl (omega arith) c.in-115.is refl

pub returns-in-1048691 : goal.returns-in-1048691
unfolding rows
returns-in-1048691 c = row_whole c.args.word (table.plain Instr.Ebreak) Instr.Ebreak 1048691 refl (omega arith) c.in-1048691.is refl

pub returns-in-270532723 : goal.returns-in-270532723
unfolding rows
returns-in-270532723 c = row_whole c.args.word (table.plain Instr.Sret) Instr.Sret 270532723 refl (omega arith) c.in-270532723.is refl

pub returns-in-273678451 : goal.returns-in-273678451
unfolding rows
returns-in-273678451 c = row_whole c.args.word (table.plain Instr.Wfi) Instr.Wfi 273678451 refl (omega arith) c.in-273678451.is refl
