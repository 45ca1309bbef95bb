use Rattle.std.proofs.Common.{◌≡◌, [], drop}
use Rattle.std.specs.List.{fold}
use Rattle.policy_making.specs.Binding.{with_entry}
use Rattle.policy_making.proofs.bound_entries.each_once.Given as goal

abbrev pub invariant-entries : goal.invariant-entries
invariant-entries l = fold with_entry l.once.items (drop l.entry-index l.entries) ≡ fold with_entry [] l.entries
