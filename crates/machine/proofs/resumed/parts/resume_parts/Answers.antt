use Rattle.std.proofs.Common.{◌∙◌, ap, length}
use Rattle.sv_types.specs.Policies.{rules_of}
use Rattle.snapshot_format.specs.Snapshots.{contents}
use Rattle.machine.proofs.Accepted.{bound_pages_few, known}
use Rattle.machine.proofs.resumed.parts.resume_parts.Goals as goal

pub region_of-requires-clause-bound : goal.region_of-requires-clause-bound
region_of-requires-clause-bound c = bound_pages_few (rules_of c.args.policy.now) c.args.bound.now c.requires.within c.requires.bound

pub region_of-requires-clause-size : goal.region_of-requires-clause-size
region_of-requires-clause-size c =
    let rules = rules_of c.args.policy.now in
    let s = contents c.args.snapshot in
    let k = known rules s c.requires.within c.requires.form c.requires.accepted in
    ap length c.deref.ensures.value ∙ k.ram

pub approved_guard-requires-clause-few : goal.approved_guard-requires-clause-few
approved_guard-requires-clause-few c = bound_pages_few (rules_of c.args.policy.now) c.args.bound.now c.requires.within c.requires.bound

pub approved_guard-requires-clause-ram : goal.approved_guard-requires-clause-ram
approved_guard-requires-clause-ram c =
    let rules = rules_of c.args.policy.now in
    let s = contents c.args.snapshot in
    let k = known rules s c.requires.within c.requires.form c.requires.accepted in
    ap length (c.in_ok-mem.ensures.ram ∙ c.deref.ensures.value) ∙ k.ram

pub approved_guard-requires-clause-modules : goal.approved_guard-requires-clause-modules
approved_guard-requires-clause-modules c = (known (rules_of c.args.policy.now) (contents c.args.snapshot) c.requires.within c.requires.form c.requires.accepted).fitting

pub approved_guard-requires-clause-right : goal.approved_guard-requires-clause-right
approved_guard-requires-clause-right c = (known (rules_of c.args.policy.now) (contents c.args.snapshot) c.requires.within c.requires.form c.requires.accepted).right
