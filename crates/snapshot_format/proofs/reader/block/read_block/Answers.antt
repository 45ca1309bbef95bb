use Rattle.std.proofs.Common.{refl, arith}
use Rattle.snapshot_format.specs.Rows.{block_ranges}
use Rattle.snapshot_format.proofs.ReadLists.{gives_refusal}
use Rattle.snapshot_format.proofs.ReadRows.{block_by_row, row_within, is_below}
use Rattle.snapshot_format.proofs.reader.block.read_block.Goals as goal

pub overflow_cast-result : goal.overflow_cast-result
overflow_cast-result c = omega (arith, is_below _ _ (row_within block_ranges c.args.bytes.now c.in_ok-sector.field-0-0 c.in_ok-sector.rest.now c.in_ok-sector.ensures 2 (omega arith)))

pub read_standing-requires : goal.read_standing-requires
read_standing-requires c = omega (arith, is_below _ _ (row_within block_ranges c.args.bytes.now c.in_ok-sector.field-0-0 c.in_ok-sector.rest.now c.in_ok-sector.ensures 2 (omega arith)))

pub returns-in_err-sector : goal.returns-in_err-sector
returns-in_err-sector c =
    gives_refusal _ c.from_residual.result c.in_err-sector.field-0.0 _ c.from_residual.ensures.1
    (rw (block_by_row c.args.bytes.now, c.in_err-sector.ensures) refl)

pub returns-in_err-status : goal.returns-in_err-status
returns-in_err-status c =
    gives_refusal _ c.from_residual-in_err-status.result c.in_err-status.field-0.0 _ c.from_residual-in_err-status.ensures.1
    (rw (block_by_row c.args.bytes.now, c.in_ok-sector.ensures, c.in_err-status.ensures) refl)

pub returns : goal.returns
returns c = rw (block_by_row c.args.bytes.now, c.in_ok-sector.ensures, c.in_ok-status.ensures) refl
