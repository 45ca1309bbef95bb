use Rattle.std.proofs.Common.{◌≡◌, filter, map, take}
use Rattle.std.specs.Option.{option_to_list}
use Rattle.std.specs.Prelude.{option_map}
use Rattle.elf64_load.specs.Images.{is_text, segment_of}
use Rattle.elf64_load.proofs.whole_text.only_text.Given as goal

abbrev pub invariant-segments : goal.invariant-segments
invariant-segments l = filter is_text (map segment_of (take l.i l.segments)) ≡ option_to_list (option_map segment_of l.only)
