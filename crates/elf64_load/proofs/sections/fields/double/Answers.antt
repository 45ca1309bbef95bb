use Rattle.std.proofs.Common.{◌∙◌}
use Rattle.elf64_load.proofs.Words.{word_read}
use Rattle.elf64_load.proofs.sections.fields.double.Goals as goal

pub returns : goal.returns
returns c = c.read_u64.ensures ∙ word_read 8 c.args.at c.args.file.now c.requires
