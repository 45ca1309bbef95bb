use Rattle.std.proofs.Common.{◌≡◌, ◌≤◌, take, drop, map}
use Rattle.sv_types.specs.Policies.{each_within, module_within, modules_within, module_rule, sites_of}
use Rattle.policy_limits.proofs.limits.modules_within.Given as goal
use Rattle.sv_types.specs.Limits.{max_sites}

abbrev pub invariant-loop-i : goal.invariant-loop-i
invariant-loop-i l = record {
  rest : each_within (module_within l.exports) (map module_rule (take l.i l.modules)) (map module_rule (drop l.i l.modules)) ≡ modules_within l.exports (map module_rule l.modules);
  sites_of : l.sites ≡ sites_of (map module_rule (take l.i l.modules));
  few : l.sites ≤ max_sites;
}
