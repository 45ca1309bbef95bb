-- The instruction's word decodes to it, by the law of the table.
use Rattle.std.proofs.Common.{ap, ◌∙◌}
use Rattle.spec_processor.specs.Instructions.{instruction_of}
use Rattle.laws_processor.proofs.WordDecodes.{word_of-decodes}
use Rattle.rv64_encode.proofs.encode.Goals as goal

pub returns-clause-decodes : goal.returns-clause-decodes
returns-clause-decodes c = ap instruction_of c.word.ensures ∙ word_of-decodes c.args.instr.now c.requires
