use Rattle.std.proofs.Common.{arith}
use Rattle.policy.proofs.Lengths.{site_of_others}
use Rattle.policy.proofs.sites.site_of_items.Goals as goal

pub returns-in_default : goal.returns-in_default
returns-in_default c = site_of_others c.args.bounds.pages c.args.bounds.exports c.args.before.now c.args.items.now (λ five. omega arith)

pub returns-in_default-2 : goal.returns-in_default-2
returns-in_default-2 c = site_of_others c.args.bounds.pages c.args.bounds.exports c.args.before.now c.args.items.now (λ five. omega arith)
