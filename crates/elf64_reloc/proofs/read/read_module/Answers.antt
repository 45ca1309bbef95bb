use Rattle.elf64_reloc.proofs.ModuleLimits.{image_within}
use Rattle.elf64_reloc.proofs.read.read_module.Goals as goal

pub returns-clause-fits : goal.returns-clause-fits
returns-clause-fits c = λ short. image_within c.args.bytes.now c.args.exports.now _ c.in_ok-object.ensures.ok c.module_of.result c.module_of.ensures.ok short
