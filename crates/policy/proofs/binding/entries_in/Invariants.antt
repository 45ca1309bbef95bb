use Rattle.std.proofs.Common.{◌≡◌, take}
use Rattle.policy.specs.Bindings.{entries_in}
use Rattle.policy.proofs.binding.entries_in.Given as goal

abbrev pub invariant-loop-binding : goal.invariant-loop-binding
invariant-loop-binding l = l.entries.items ≡ entries_in (take l.binding-index l.bindings)
