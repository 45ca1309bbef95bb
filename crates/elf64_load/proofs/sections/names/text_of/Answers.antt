use Rattle.elf64_load.proofs.Fronts.{utf8_text, no_text}
use Rattle.elf64_load.proofs.sections.names.text_of.Goals as goal

pub returns-in-Ok-clause-text : goal.returns-in-Ok-clause-text
returns-in-Ok-clause-text c = utf8_text c.args.bytes.now c.in-Ok.text.now c.in-Ok.ensures.cases.0 c.in-Ok.ensures.cases.1

pub returns-in-Err-clause-text : goal.returns-in-Err-clause-text
returns-in-Err-clause-text c = no_text c.args.bytes.now c.in-Err.ensures.cases.0
