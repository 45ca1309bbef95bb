use Rattle.std.proofs.Common.{◌≡◌, ◌≤◌, [], drop, map}
use Rattle.toml.specs.View.{items_view}
use Rattle.sv_types.specs.Policies.{module_rule, sites_of}
use Rattle.policy.specs.Text.{each_module}
use Rattle.policy.proofs.modules.each_module.Given as goal
use Rattle.sv_types.specs.Limits.{max_sites}

abbrev pub invariant-loop-item : goal.invariant-loop-item
invariant-loop-item l = record {
  rest : each_module l.exports (map module_rule l.modules.items) (items_view (drop l.item-index l.items)) ≡ each_module l.exports [] (items_view l.items);
  sites_of : l.sites ≡ sites_of (map module_rule l.modules.items);
  few : l.sites ≤ max_sites;
}
