use Rattle.std.proofs.Common.{refl, arith}
use Rattle.snapshot_format.specs.Rows.{entry_ranges}
use Rattle.snapshot_format.proofs.ReadLists.{gives_refusal}
use Rattle.snapshot_format.proofs.ReadRows.{entry_by_row, row_within, is_below}
use Rattle.snapshot_format.proofs.reader.verdict.read_stopped_entry.Goals as goal

pub overflow_cast-stopped : goal.overflow_cast-stopped
overflow_cast-stopped c = omega (
  arith,
  is_below _ _ (row_within (entry_ranges c.args.harts) c.args.bytes.now c.in_ok-target.field-0-0 c.in_ok-target.rest.now (rw c.from.ensures at c.in_ok-target.ensures) 1 (omega arith)),
)

pub returns-in_err-target : goal.returns-in_err-target
returns-in_err-target c =
    gives_refusal _ c.from_residual.result c.in_err-target.field-0.0 _ c.from_residual.ensures.1
    (rw (entry_by_row c.args.harts c.args.bytes.now, (rw c.from.ensures at c.in_err-target.ensures)) refl)

pub returns : goal.returns
returns c = rw (entry_by_row c.args.harts c.args.bytes.now, (rw c.from.ensures at c.in_ok-target.ensures)) refl
