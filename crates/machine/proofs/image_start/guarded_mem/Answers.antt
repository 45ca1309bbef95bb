use Rattle.std.proofs.Common.{arith}
use Rattle.sv_types.specs.Policies.{rules_of}
use Rattle.sv_types.proofs.PolicyLimits.{bound_few, few_pages}
use Rattle.machine.proofs.image_start.guarded_mem.Goals as goal

pub image_region-requires-clause-bound : goal.image_region-requires-clause-bound
image_region-requires-clause-bound c =
    let few = bound_few (rules_of c.args.policy.now) c.requires.within in omega (arith, few, c.in_ok-bound.ensures.number, c.len.ensures)

pub image_guard-requires-clause-few : goal.image_guard-requires-clause-few
image_guard-requires-clause-few c =
    let few = bound_few (rules_of c.args.policy.now) c.requires.within in omega (arith, few, c.in_ok-bound.ensures.number, c.deref.ensures.len)

pub image_region-requires-clause-few : goal.image_region-requires-clause-few
image_region-requires-clause-few c = few_pages (rules_of c.args.policy.now) c.requires.within
