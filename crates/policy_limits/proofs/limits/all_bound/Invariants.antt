use Rattle.std.proofs.Common.{◌≡◌, [], take, drop}
use Rattle.sv_types.specs.Policies.{all_bound}
use Rattle.policy_limits.proofs.limits.all_bound.Given as goal

abbrev pub invariant-loop-i : goal.invariant-loop-i
invariant-loop-i l = all_bound l.ram_pages (take l.i l.entries) (drop l.i l.entries) (drop l.i l.bound) ≡ all_bound l.ram_pages [] l.entries l.bound
