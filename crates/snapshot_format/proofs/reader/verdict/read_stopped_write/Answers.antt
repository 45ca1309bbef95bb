use Rattle.std.proofs.Common.{refl, arith}
use Rattle.snapshot_format.specs.Rows.{write_ranges}
use Rattle.snapshot_format.proofs.ReadLists.{gives_refusal}
use Rattle.snapshot_format.proofs.ReadRows.{write_by_row, row_within, is_below}
use Rattle.snapshot_format.proofs.reader.verdict.read_stopped_write.Goals as goal

pub overflow_cast-stopped : goal.overflow_cast-stopped
overflow_cast-stopped c = omega (
  arith,
  is_below _ _ (row_within (write_ranges c.args.harts) c.args.bytes.now c.in_ok-pc.field-0-0 c.in_ok-pc.rest.now (rw c.from.ensures at c.in_ok-pc.ensures) 2 (omega arith)),
)

pub returns-in_err-pc : goal.returns-in_err-pc
returns-in_err-pc c =
    gives_refusal _ c.from_residual.result c.in_err-pc.field-0.0 _ c.from_residual.ensures.1
    (rw (write_by_row c.args.harts c.args.bytes.now, (rw c.from.ensures at c.in_err-pc.ensures)) refl)

pub returns : goal.returns
returns c = rw (write_by_row c.args.harts c.args.bytes.now, (rw c.from.ensures at c.in_ok-pc.ensures)) refl
