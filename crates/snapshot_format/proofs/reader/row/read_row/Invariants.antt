use Rattle.std.proofs.Common.{◌≡◌, length}
use Rattle.snapshot_format.specs.Rows.{row_taken}
use Rattle.snapshot_format.proofs.ReadRows.{HasRead}
use Rattle.snapshot_format.proofs.reader.row.read_row.Given as goal

abbrev pub invariant-row : goal.invariant-row
invariant-row g l = record {
  so_far : HasRead l.i l.ranges l.row l.rest (row_taken l.ranges l.bytes);
  size : length l.row ≡ length l.ranges;
}
