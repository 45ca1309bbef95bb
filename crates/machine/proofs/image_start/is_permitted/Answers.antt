use Rattle.std.proofs.Common.{arith}
use Rattle.machine.proofs.ImageStarting.{are_words}
use Rattle.machine.proofs.image_start.is_permitted.Goals as goal

pub returns-clause-words : goal.returns-clause-words
returns-clause-words c = are_words c.args.entries.now (λ i. omega (arith, c.type_inv.entries i))
