use Rattle.std.proofs.Common.{arith}
use Rattle.policy.proofs.Lengths.{binding_of_others}
use Rattle.policy.proofs.binding.binding_of_items.Goals as goal

pub returns-in_default : goal.returns-in_default
returns-in_default c = binding_of_others c.args.ram_pages c.args.before.now c.args.items.now (λ two. omega arith)

pub returns-in_default-2 : goal.returns-in_default-2
returns-in_default-2 c = binding_of_others c.args.ram_pages c.args.before.now c.args.items.now (λ two. omega arith)
