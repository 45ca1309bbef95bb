use Rattle.std.proofs.Common.{◌∙◌}
use Rattle.elf64_load.proofs.Words.{word_read}
use Rattle.elf64_load.proofs.sections.fields.word.Goals as goal

pub returns : goal.returns
returns c = c.read_u32.ensures ∙ word_read 4 c.args.at c.args.file.now c.requires
