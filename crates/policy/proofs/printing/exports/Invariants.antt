use Rattle.std.proofs.Common.{◌≡◌, map, take}
use Rattle.std.specs.List.{All}
use Rattle.toml.specs.View.{view}
use Rattle.policy.specs.Printed.{export_data}
use Rattle.policy.specs.Ranges.{IsExport}
use Rattle.policy.proofs.printing.exports.Given as goal

abbrev pub invariant-loop-item : goal.invariant-loop-item
invariant-loop-item l = record {
  printed : map view l.values.items ≡ map export_data (take l.item-index l.exports);
  typed : All IsExport (take l.item-index l.exports);
}
