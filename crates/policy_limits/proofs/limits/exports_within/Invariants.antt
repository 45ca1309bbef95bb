use Rattle.std.proofs.Common.{◌≡◌, take, drop}
use Rattle.sv_types.specs.Policies.{each_within, export_within, exports_within}
use Rattle.policy_limits.proofs.limits.exports_within.Given as goal

abbrev pub invariant-loop-i : goal.invariant-loop-i
invariant-loop-i l = each_within export_within (take l.i l.exports) (drop l.i l.exports) ≡ exports_within l.exports
