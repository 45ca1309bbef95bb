use Rattle.std.proofs.Common.{◌≡◌, [], drop, map}
use Rattle.elf64_load.specs.Judged.{each}
use Rattle.sv_types.specs.Policies.{module_rule}
use Rattle.policy_making.specs.Making.{module_made, file_of}
use Rattle.policy_making.proofs.modules.made_modules.Given as goal

abbrev pub invariant-objects : goal.invariant-objects
invariant-objects g l = each (module_made l.exports) (map module_rule l.made.items) (map file_of (drop l.object-index l.objects)) ≡ each (module_made l.exports) [] (map file_of l.objects)
