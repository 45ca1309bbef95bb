use Rattle.std.proofs.Common.{arith}
use Rattle.policy.proofs.Lengths.{init_of_others}
use Rattle.policy.proofs.kernel.init_of_items.Goals as goal

pub returns-in_default : goal.returns-in_default
returns-in_default c = init_of_others c.args.ram_pages c.args.items.now (λ two. omega arith)

pub returns-in_default-2 : goal.returns-in_default-2
returns-in_default-2 c = init_of_others c.args.ram_pages c.args.items.now (λ two. omega arith)
