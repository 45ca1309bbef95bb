use Rattle.std.proofs.Common.{◌≡◌, [], drop}
use Rattle.toml.specs.View.{items_view}
use Rattle.policy.specs.Bindings.{each_binding}
use Rattle.policy.proofs.binding.each_binding.Given as goal

abbrev pub invariant-loop-item : goal.invariant-loop-item
invariant-loop-item l = each_binding l.ram_pages l.bindings.items (items_view (drop l.item-index l.items)) ≡ each_binding l.ram_pages [] (items_view l.items)
