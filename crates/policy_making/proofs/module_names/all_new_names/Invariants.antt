use Rattle.std.proofs.Common.{◌≡◌, take, drop, map, string_bytes}
use Rattle.sv_types.specs.Policies.{each_within}
use Rattle.policy_making.specs.WordRanges.{is_new_name, all_new_names}
use Rattle.policy_making.proofs.module_names.all_new_names.Given as goal

abbrev pub invariant-loop-i : goal.invariant-loop-i
invariant-loop-i l = each_within is_new_name (map string_bytes (take l.i l.words)) (map string_bytes (drop l.i l.words)) ≡ all_new_names (map string_bytes l.words)
