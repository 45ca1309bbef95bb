use Rattle.std.proofs.Common.{◌≡◌, ℕ, ◌++◌, [], take, true}
use Rattle.std.specs.List.{list_all}
use Rattle.snapshot_format.specs.Forms.{encode_all}
use Rattle.snapshot_format.specs.Typed.{is_typed_part}
use Rattle.snapshot_format.specs.VirtioForms.{next_descriptor}
use Rattle.snapshot_format.proofs.writer.virtio.write_descriptors.Given as goal

abbrev pub invariant-parts : goal.invariant-parts
invariant-parts l =
    ((count reached : ℕ) → l.out.items ≡ l.fn.out.items ++ encode_all (next_descriptor count reached) [] (take l.part-index l.parts))
    × (list_all is_typed_part (take l.part-index l.parts) ≡ true)
