use Rattle.std.proofs.Common.{◌≡◌, [], length}
use Rattle.snapshot_format.specs.Forms.{all_taken}
use Rattle.snapshot_format.specs.JournalForms.{count}
use Rattle.snapshot_format.proofs.ReadRows.{HasRow}
use Rattle.snapshot_format.proofs.reader.counts.read_row.Given as goal

abbrev pub invariant-row : goal.invariant-row
invariant-row l = record {
  so_far : HasRow (λ before. count l.events) 15 l.i l.row l.rest (all_taken (λ before. count l.events) [] 15 l.bytes);
  size : length l.row ≡ 15;
}
