use Rattle.std.proofs.Common.{◌≡◌, drop, map}
use Rattle.std.specs.Prelude.{nat_le}
use Rattle.sv_types.specs.Policies.{module_rule, sites_of}
use Rattle.policy_making.specs.Making.{few_sites}
use Rattle.policy_making.proofs.policy.few_sites.Given as goal

abbrev pub invariant-modules : goal.invariant-modules
invariant-modules l = few_sites (map module_rule l.modules) ≡ nat_le (sites_of (map module_rule (drop l.module-index l.modules))) l.room
