use Rattle.std.proofs.Common.{◌≡◌, map, take}
use Rattle.std.specs.List.{All}
use Rattle.toml.specs.View.{view}
use Rattle.sv_types.specs.Policies.{module_rule}
use Rattle.policy.specs.Printed.{module_data}
use Rattle.policy.specs.Ranges.{IsModule}
use Rattle.policy.proofs.printing.modules.Given as goal

abbrev pub invariant-loop-item : goal.invariant-loop-item
invariant-loop-item l = record {
  printed : map view l.values.items ≡ map (λ m. module_data (module_rule m)) (take l.item-index l.modules);
  typed : All (λ m. IsModule (module_rule m)) (take l.item-index l.modules);
}
