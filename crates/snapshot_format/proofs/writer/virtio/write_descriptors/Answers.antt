use Rattle.std.proofs.Common.{refl}
use Rattle.snapshot_format.specs.Typed.{is_typed_part}
use Rattle.snapshot_format.specs.VirtioForms.{descriptors, next_descriptor}
use Rattle.snapshot_format.proofs.WrittenLists.{nothing_yet, one_more, all_written, one_more_typed, all_typed}
use Rattle.snapshot_format.proofs.writer.virtio.write_descriptors.Goals as goal

pub parts-init : goal.parts-init
parts-init c = (λ count reached. nothing_yet (next_descriptor count reached) c.args.out.now.items, refl)

pub parts-preserved : goal.parts-preserved
unfolding next_descriptor
parts-preserved c = (
  λ count reached. one_more _ (next_descriptor count reached) c.args.parts.now c.parts.part-index c.args.out.now.items c.parts.out.items _ c.parts-test.true
      (c.parts.invariant.0 count reached) c.in_ok-write_descriptor.ensures.encoded,
  one_more_typed _ is_typed_part c.args.parts.now c.parts.part-index c.parts-test.true c.parts.invariant.1 c.in_ok-write_descriptor.ensures.typed,
)

pub returns-clause-encoded : goal.returns-clause-encoded
unfolding descriptors
returns-clause-encoded c count reached = all_written (next_descriptor count reached) c.args.parts.now c.parts.part-index c.args.out.now.items c.parts.out.items c.parts-test.false
    (c.parts.invariant.0 count reached)

pub returns-clause-typed : goal.returns-clause-typed
returns-clause-typed c = all_typed is_typed_part c.args.parts.now c.parts.part-index c.parts-test.false c.parts.invariant.1
