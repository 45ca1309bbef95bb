use Rattle.std.proofs.Common.{◌≡◌, [], length}
use Rattle.snapshot_format.specs.Forms.{all_taken}
use Rattle.snapshot_format.specs.VirtioForms.{next_descriptor}
use Rattle.snapshot_format.proofs.ReadRows.{HasRow}
use Rattle.snapshot_format.proofs.reader.virtio.read_descriptors.Given as goal

abbrev pub invariant-parts : goal.invariant-parts
invariant-parts l = record {
  so_far : HasRow (next_descriptor l.count l.reached) 34 l.i l.parts l.rest (all_taken (next_descriptor l.count l.reached) [] 34 l.bytes);
  size : length l.parts ≡ 34;
}
