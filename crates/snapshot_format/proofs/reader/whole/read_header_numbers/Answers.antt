use Rattle.std.proofs.Common.{get_or, refl, arith}
use Rattle.spec_processor.specs.Regions.{max_ram_pages}
use Rattle.sv_types.specs.Limits.{min_ram_pages, max_harts}
use Rattle.snapshot_format.specs.Rows.{header_ranges}
use Rattle.snapshot_format.proofs.ReadLists.{gives_refusal}
use Rattle.snapshot_format.proofs.ReadRows.{header_by_row, row_within, is_no_more}
use Rattle.snapshot_format.proofs.reader.whole.read_header_numbers.Goals as goal

pub overflow_cast-result : goal.overflow_cast-result
overflow_cast-result c = omega (
  arith,
  is_no_more (get_or c.in_ok-events.field-0-0 1 0) 1 max_harts (row_within header_ranges c.args.bytes.now c.in_ok-events.field-0-0 c.in_ok-events.rest.now (rw (
    c.from.ensures,
    c.from-2.ensures,
    c.from-3.ensures,
  ) at c.in_ok-events.ensures) 1 (omega arith)),
)

pub overflow_cast-result-2 : goal.overflow_cast-result-2
overflow_cast-result-2 c = omega (
  arith,
  is_no_more (get_or c.in_ok-events.field-0-0 2 0) min_ram_pages max_ram_pages (row_within header_ranges c.args.bytes.now c.in_ok-events.field-0-0 c.in_ok-events.rest.now
      (rw (c.from.ensures, c.from-2.ensures, c.from-3.ensures) at c.in_ok-events.ensures) 2 (omega arith)),
)

pub returns-in_err-events-clause-numbers : goal.returns-in_err-events-clause-numbers
returns-in_err-events-clause-numbers c =
    gives_refusal _ c.from_residual.result c.in_err-events.field-0.0 _ c.from_residual.ensures.1
    (rw (header_by_row c.args.bytes.now, (rw (c.from.ensures, c.from-2.ensures, c.from-3.ensures) at c.in_err-events.ensures)) refl)

pub returns-clause-numbers : goal.returns-clause-numbers
returns-clause-numbers c = rw (header_by_row c.args.bytes.now, (rw (c.from.ensures, c.from-2.ensures, c.from-3.ensures) at c.in_ok-events.ensures)) refl

pub returns-clause-range : goal.returns-clause-range
returns-clause-range c = is_no_more _ _ _ (row_within header_ranges c.args.bytes.now c.in_ok-events.field-0-0 c.in_ok-events.rest.now (rw (
  c.from.ensures,
  c.from-2.ensures,
  c.from-3.ensures,
) at c.in_ok-events.ensures) 1 (omega arith))
