use Rattle.std.proofs.Common.{◌≡◌, [], drop, map}
use Rattle.elf64_load.specs.Judged.{each}
use Rattle.elf64_load.specs.Images.{segment_of}
use Rattle.policy_making.specs.Binding.{bound_place}
use Rattle.policy_making.proofs.bound_entries.bound_places.Given as goal

abbrev pub invariant-entries : goal.invariant-entries
invariant-entries l =
    each (bound_place (map segment_of l.segments)) l.places.items (drop l.entry-index l.entries) ≡ each (bound_place (map segment_of l.segments)) [] l.entries
