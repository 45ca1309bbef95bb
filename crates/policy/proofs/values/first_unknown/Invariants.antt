use Rattle.std.proofs.Common.{◌≡◌, not, map, string_bytes}
use Rattle.std.specs.List.{list_any}
use Rattle.std.specs.Str.{bytes_eq}
use Rattle.std.specs.Map.{keys_of}
use Rattle.policy.proofs.values.first_unknown.Given as goal

-- each key before is known
abbrev pub invariant-loop-key : goal.invariant-loop-key
invariant-loop-key l = record {
  can_next : (goal.iterator-loop-key).can_next l.key-iterator;
  is_finite : (goal.iterator-loop-key).is_finite l.key-iterator;
  rest : list_any (λ k. not (list_any (bytes_eq (string_bytes k)) (map (λ k. k.now) l.keys))) l.key-iterator ≡
      list_any (λ k. not (list_any (bytes_eq (string_bytes k)) (map (λ k. k.now) l.keys))) (keys_of l.table.entries);
}
