use Rattle.std.proofs.Common.{[], take, Ok, Err, ◌∙◌}
use Rattle.std.proofs.lemmas.List.{length-set}
use Rattle.snapshot_format.specs.Forms.{all_taken}
use Rattle.snapshot_format.specs.VirtioForms.{descriptors, next_descriptor}
use Rattle.snapshot_format.proofs.ReadLists.{gives_refusal, ends}
use Rattle.snapshot_format.proofs.ReadRows.{row_read, row_done}
use Rattle.snapshot_format.proofs.VirtioReads.{descriptor_at}
use Rattle.snapshot_format.proofs.reader.virtio.read_descriptors.Goals as goal

pub parts-preserved : goal.parts-preserved
parts-preserved c =
    let here = c.parts.invariant in
    let f = next_descriptor c.args.count c.args.reached in
    record {
      so_far = row_read f 34 c.parts.i c.in_ok-part.part c.parts.parts c.parts.rest.now c.in_ok-part.after.now (all_taken f [] 34 c.args.bytes.now) c.parts-test.true here.size
          (descriptor_at c.args.count c.args.reached c.parts.i c.parts.parts c.parts.rest.now (Ok (c.in_ok-part.part, c.in_ok-part.after.now)) c.parts-test.true here.size
          c.in_ok-part.ensures) here.so_far;
      size = length-set c.parts.parts c.parts.i c.in_ok-part.part ∙ here.size;
    }

pub returns-in_err-part : goal.returns-in_err-part
unfolding descriptors
returns-in_err-part c =
    let f = next_descriptor c.args.count c.args.reached in
    gives_refusal _ c.from_residual.result c.in_err-part.field-0.0 _ c.from_residual.ensures.1
    (ends f c.in_err-part.field-0.0 (take c.parts.i c.parts.parts) 34 c.parts.i c.parts.rest.now (all_taken f [] 34 c.args.bytes.now) c.parts-test.true
    (descriptor_at c.args.count c.args.reached c.parts.i c.parts.parts c.parts.rest.now (Err c.in_err-part.field-0.0) c.parts-test.true c.parts.invariant.size c.in_err-part.ensures)
    c.parts.invariant.so_far)

pub returns : goal.returns
unfolding descriptors
returns c =
    let f = next_descriptor c.args.count c.args.reached in
    row_done f 34 c.parts.i c.parts.parts c.parts.rest.now (all_taken f [] 34 c.args.bytes.now) c.parts-test.false c.parts.invariant.size c.parts.invariant.so_far
