use Rattle.std.proofs.Common.{◌≡◌, [], drop}
use Rattle.toml.specs.View.{items_view}
use Rattle.policy.specs.Text.{each_entry}
use Rattle.policy.proofs.entries.each_entry.Given as goal

abbrev pub invariant-loop-item : goal.invariant-loop-item
invariant-loop-item l = each_entry l.entries.items (items_view (drop l.item-index l.items)) ≡ each_entry [] (items_view l.items)
