use Rattle.std.proofs.Common.{◌≡◌, drop}
use Rattle.elf64_reloc.specs.NameKeys.{names_of, AreNamed}
use Rattle.policy_making.specs.Making.{once_from, each_once}
use Rattle.policy_making.proofs.names.each_once.Given as goal

abbrev pub invariant-names : goal.invariant-names
invariant-names l = record {
  named : AreNamed l.once;
  rest : once_from (names_of l.once) (drop l.name-index l.names) ≡ each_once l.names;
}
