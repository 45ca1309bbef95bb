use Rattle.std.proofs.Common.{refl}
use Rattle.snapshot_format.proofs.ReadLists.{gives_refusal}
use Rattle.snapshot_format.proofs.ReadRows.{counts_by_row}
use Rattle.snapshot_format.proofs.reader.counts.read_counts.Goals as goal

pub returns-in_err-row : goal.returns-in_err-row
returns-in_err-row c =
    gives_refusal _ c.from_residual.result c.in_err-row.field-0.0 _ c.from_residual.ensures.1
    (rw (counts_by_row c.args.events c.args.bytes.now, c.in_err-row.ensures) refl)

pub returns : goal.returns
returns c = rw (counts_by_row c.args.events c.args.bytes.now, c.in_ok-row.ensures, c.counts_of_row.ensures) refl
