use Rattle.std.proofs.Common.{refl, arith}
use Rattle.snapshot_format.specs.Rows.{retire_ranges}
use Rattle.snapshot_format.proofs.ReadLists.{gives_refusal}
use Rattle.snapshot_format.proofs.ReadRows.{retire_by_row, row_within, is_below}
use Rattle.snapshot_format.proofs.reader.notes.read_retire.Goals as goal

pub overflow_cast-result : goal.overflow_cast-result
overflow_cast-result c = omega (
  arith,
  is_below _ _ (row_within (retire_ranges c.args.harts) c.args.bytes.now c.in_ok-hart.field-0-0 c.in_ok-hart.rest.now (rw c.from.ensures at c.in_ok-hart.ensures) 0 (omega arith)),
)

pub returns-in_err-hart : goal.returns-in_err-hart
returns-in_err-hart c =
    gives_refusal _ c.from_residual.result c.in_err-hart.field-0.0 _ c.from_residual.ensures.1
    (rw (retire_by_row c.args.harts c.args.bytes.now, (rw c.from.ensures at c.in_err-hart.ensures)) refl)

pub returns-in_err-code : goal.returns-in_err-code
returns-in_err-code c =
    gives_refusal _ c.from_residual-in_err-code.result c.in_err-code.field-0.0 _ c.from_residual-in_err-code.ensures.1
    (rw (retire_by_row c.args.harts c.args.bytes.now, (rw c.from.ensures at c.in_ok-hart.ensures), c.in_err-code.ensures) refl)

pub returns : goal.returns
returns c = rw (retire_by_row c.args.harts c.args.bytes.now, (rw c.from.ensures at c.in_ok-hart.ensures), c.in_ok-code.ensures) refl
