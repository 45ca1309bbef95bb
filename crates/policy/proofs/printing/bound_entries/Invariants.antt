use Rattle.std.proofs.Common.{◌≡◌, map, take}
use Rattle.toml.specs.View.{view}
use Rattle.policy.specs.Bindings.{bindings_of}
use Rattle.policy.specs.Printed.{binding_data}
use Rattle.policy.proofs.printing.bound_entries.Given as goal

abbrev pub invariant-loop-i : goal.invariant-loop-i
invariant-loop-i l = map view l.values.items ≡ map binding_data (take l.i (bindings_of l.entries l.bound))
