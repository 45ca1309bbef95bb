use Rattle.std.proofs.Common.{◌≡◌, [], length}
use Rattle.snapshot_format.specs.Forms.{all_taken}
use Rattle.snapshot_format.specs.Rows.{register_after}
use Rattle.snapshot_format.proofs.ReadRows.{HasRow}
use Rattle.snapshot_format.proofs.reader.supervisor.read_row.Given as goal

abbrev pub invariant-row : goal.invariant-row
invariant-row l = record {
  so_far : HasRow register_after 10 l.i l.row l.rest (all_taken register_after [] 10 l.bytes);
  size : length l.row ≡ 10;
}
