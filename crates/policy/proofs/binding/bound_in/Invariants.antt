use Rattle.std.proofs.Common.{◌≡◌, take}
use Rattle.policy.specs.Bindings.{bound_in}
use Rattle.policy.proofs.binding.bound_in.Given as goal

abbrev pub invariant-loop-binding : goal.invariant-loop-binding
invariant-loop-binding l = l.bound.items ≡ bound_in (take l.binding-index l.bindings)
