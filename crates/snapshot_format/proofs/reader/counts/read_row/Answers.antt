use Rattle.std.proofs.Common.{[], take, ◌∙◌}
use Rattle.std.proofs.lemmas.List.{length-set}
use Rattle.snapshot_format.specs.Forms.{all_taken}
use Rattle.snapshot_format.specs.JournalForms.{count}
use Rattle.snapshot_format.proofs.ReadLists.{gives_refusal, ends}
use Rattle.snapshot_format.proofs.ReadRows.{row_read, row_done}
use Rattle.snapshot_format.proofs.reader.counts.read_row.Goals as goal

pub row-preserved : goal.row-preserved
row-preserved c =
    let here = c.row.invariant in
    record {
      so_far = row_read (λ before. count c.args.events) 15 c.row.i c.in_ok-n.n c.row.row c.row.rest.now c.in_ok-n.after.now
          (all_taken (λ before. count c.args.events) [] 15 c.args.bytes.now) c.row-test.true here.size c.in_ok-n.ensures here.so_far;
      size = length-set c.row.row c.row.i c.in_ok-n.n ∙ here.size;
    }

pub returns-in_err-n : goal.returns-in_err-n
returns-in_err-n c =
    gives_refusal _ c.from_residual.result c.in_err-n.field-0.0 _ c.from_residual.ensures.1
    (ends (λ before. count c.args.events) c.in_err-n.field-0.0 (take c.row.i c.row.row) 15 c.row.i c.row.rest.now
    (all_taken (λ before. count c.args.events) [] 15 c.args.bytes.now) c.row-test.true c.in_err-n.ensures c.row.invariant.so_far)

pub returns : goal.returns
returns c =
    row_done (λ before. count c.args.events) 15 c.row.i c.row.row c.row.rest.now (all_taken (λ before. count c.args.events) [] 15 c.args.bytes.now) c.row-test.false
    c.row.invariant.size c.row.invariant.so_far
