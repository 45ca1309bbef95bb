use Rattle.std.proofs.Common.{◌<◌, ◌≤◌, length, ◌∙◌, arith}
use Rattle.std.proofs.lemmas.List.{length-set}
use Rattle.snapshot_format.specs.Rows.{row_taken}
use Rattle.snapshot_format.proofs.ReadLists.{gives_refusal}
use Rattle.snapshot_format.proofs.ReadRows.{one_more, none_more, all_read}
use Rattle.snapshot_format.proofs.reader.row.read_row.Goals as goal

pub row-preserved : goal.row-preserved
row-preserved g c =
    let here = c.row.invariant in
    let lt : c.row.i < length c.args.ranges = omega arith in
    record {
      so_far = one_more c.row.i c.in_ok-n.n c.args.ranges c.row.row c.row.rest.now c.in_ok-n.after.now (row_taken c.args.ranges c.args.bytes.now) lt here.size c.in_ok-n.ensures here.so_far;
      size = length-set c.row.row c.row.i c.in_ok-n.n ∙ here.size;
    }

pub returns-in_err-n : goal.returns-in_err-n
returns-in_err-n g c =
    let lt : c.row.i < length c.args.ranges = omega arith in
    gives_refusal _ c.from_residual.result c.in_err-n.field-0.0 _ c.from_residual.ensures.1
    (none_more c.in_err-n.field-0.0 c.row.i c.args.ranges c.row.row c.row.rest.now (row_taken c.args.ranges c.args.bytes.now) lt c.in_err-n.ensures c.row.invariant.so_far)

pub returns : goal.returns
returns g c =
    let le : length c.args.ranges ≤ c.row.i = omega arith in
    all_read c.row.i c.args.ranges c.row.row c.row.rest.now (row_taken c.args.ranges c.args.bytes.now) le c.row.invariant.size c.row.invariant.so_far
