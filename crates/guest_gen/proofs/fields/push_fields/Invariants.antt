use Rattle.std.proofs.Common.{◌≡◌, ◌++◌, flat_map, take}
use Rattle.guest_gen.specs.Images.{field_bytes}
use Rattle.guest_gen.proofs.fields.push_fields.Given as goal

-- the fields so far are put after
abbrev pub invariant-loop-field : goal.invariant-loop-field
invariant-loop-field l = l.file.items ≡ l.initial.file.items ++ flat_map field_bytes (take l.field-index l.fields)
