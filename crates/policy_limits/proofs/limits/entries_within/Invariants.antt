use Rattle.std.proofs.Common.{◌≡◌, take, drop}
use Rattle.sv_types.specs.Policies.{each_within, entry_within, entries_within}
use Rattle.policy_limits.proofs.limits.entries_within.Given as goal

abbrev pub invariant-loop-entry : goal.invariant-loop-entry
invariant-loop-entry l =
    each_within (λ before entry. entry_within entry) (take l.entry-index l.entries) (drop l.entry-index l.entries) ≡ entries_within l.entries
