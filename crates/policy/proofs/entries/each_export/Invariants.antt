use Rattle.std.proofs.Common.{◌≡◌, [], drop, length}
use Rattle.toml.specs.View.{items_view}
use Rattle.policy.specs.Text.{each_export}
use Rattle.policy.specs.ExportNames.{HasNames}
use Rattle.policy.proofs.entries.each_export.Given as goal

abbrev pub invariant-loop-item : goal.invariant-loop-item
invariant-loop-item l = record {
  rest : each_export l.exports.items (items_view (drop l.item-index l.items)) ≡ each_export [] (items_view l.items);
  names : HasNames l.names l.exports.items;
  count : length l.exports.items ≡ l.item-index;
}
