use Rattle.std.proofs.Common.{◌∙◌}
use Rattle.module_gate.proofs.Lists.{found_is}
use Rattle.module_gate.proofs.loaded.find_module.Goals as goal

pub returns : goal.returns
returns c = c.first_of.ensures ∙ found_is c.args.modules.now c.args.id
