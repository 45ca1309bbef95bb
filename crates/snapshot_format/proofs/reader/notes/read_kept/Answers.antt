use Rattle.std.proofs.Common.{[]}
use Rattle.snapshot_format.specs.Forms.{all_taken}
use Rattle.snapshot_format.specs.JournalForms.{note_form}
use Rattle.snapshot_format.proofs.ReadLists.{goes_on, ends, is_done, reads_refusal}
use Rattle.snapshot_format.proofs.reader.notes.read_kept.Goals as goal

pub notes-preserved : goal.notes-preserved
notes-preserved c = rw c.in_ok-push.ensures.items (goes_on (λ before. note_form c.args.harts) c.notes.read.items c.args.count c.notes.counter c.notes.rest.now _ _
    (all_taken (λ before. note_form c.args.harts) [] c.args.count c.args.bytes.now) c.notes-test.true c.in_ok-kept.ensures c.notes.invariant)

pub returns-in_err-kept : goal.returns-in_err-kept
returns-in_err-kept c =
    reads_refusal _ c.from_residual.result c.in_err-kept.field-0.0 _ c.from_residual.ensures.1
    (ends (λ before. note_form c.args.harts) c.in_err-kept.field-0.0 c.notes.read.items c.args.count c.notes.counter c.notes.rest.now
    (all_taken (λ before. note_form c.args.harts) [] c.args.count c.args.bytes.now) c.notes-test.true c.in_err-kept.ensures c.notes.invariant)

pub returns : goal.returns
returns c = is_done (λ before. note_form c.args.harts) c.notes.read.items c.args.count c.notes.counter c.notes.rest.now
    (all_taken (λ before. note_form c.args.harts) [] c.args.count c.args.bytes.now) c.notes-test.false c.notes.invariant
