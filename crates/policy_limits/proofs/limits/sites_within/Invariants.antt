use Rattle.std.proofs.Common.{◌≡◌, take, drop}
use Rattle.sv_types.specs.Policies.{each_within, next_site_within, sites_within}
use Rattle.policy_limits.proofs.limits.sites_within.Given as goal

abbrev pub invariant-loop-i : goal.invariant-loop-i
invariant-loop-i l = each_within (next_site_within l.pages l.exports) (take l.i l.sites) (drop l.i l.sites) ≡ sites_within l.pages l.exports l.sites
