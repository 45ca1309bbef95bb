use Rattle.std.proofs.Common.{◌≡◌, [], drop, length}
use Rattle.toml.specs.View.{items_view}
use Rattle.policy.specs.Text.{each_site}
use Rattle.policy.proofs.sites.each_site.Given as goal

abbrev pub invariant-loop-item : goal.invariant-loop-item
invariant-loop-item l = record {
  rest : each_site l.bounds.pages l.bounds.exports l.sites.items (items_view (drop l.item-index l.items)) ≡ each_site l.bounds.pages l.bounds.exports [] (items_view l.items);
  count : length l.sites.items ≡ l.item-index;
}
