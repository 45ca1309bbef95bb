use Rattle.std.proofs.Common.{◌≡◌, map, take}
use Rattle.std.specs.List.{All}
use Rattle.toml.specs.View.{view}
use Rattle.policy.specs.Printed.{address_data}
use Rattle.policy.specs.Ranges.{IsAddress}
use Rattle.policy.proofs.printing.plain_entries.Given as goal

abbrev pub invariant-loop-entry : goal.invariant-loop-entry
invariant-loop-entry l = record {
  printed : map view l.values.items ≡ map address_data (take l.entry-index l.entries);
  typed : All IsAddress (take l.entry-index l.entries);
}
