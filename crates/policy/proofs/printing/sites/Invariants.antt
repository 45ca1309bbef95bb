use Rattle.std.proofs.Common.{◌≡◌, map, take}
use Rattle.toml.specs.View.{view}
use Rattle.policy.specs.Printed.{site_data}
use Rattle.policy.proofs.printing.sites.Given as goal

abbrev pub invariant-loop-item : goal.invariant-loop-item
invariant-loop-item l = map view l.values.items ≡ map site_data (take l.item-index l.sites)
