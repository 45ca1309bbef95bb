use Rattle.std.proofs.Common.{arith}
use Rattle.machine.proofs.ImageStarting.{are_words}
use Rattle.machine.proofs.resume.entries_are_words.Goals as goal

pub returns : goal.returns
returns c = are_words c.args.entries.now (λ i. omega (arith, c.type_inv.entries i))
