use Rattle.std.proofs.Common.{[]}
use Rattle.snapshot_format.specs.Forms.{all_taken}
use Rattle.snapshot_format.specs.PageForms.{text_page}
use Rattle.snapshot_format.proofs.ReadLists.{goes_on, ends, is_done, reads_refusal}
use Rattle.snapshot_format.proofs.reader.pages.read_text_pages.Goals as goal

pub pages-preserved : goal.pages-preserved
pages-preserved c = rw c.in_ok-push.ensures.items (goes_on (text_page c.args.ram_pages) c.pages.read.items c.args.count c.pages.counter c.pages.rest.now _ _
    (all_taken (text_page c.args.ram_pages) [] c.args.count c.args.bytes.now) c.pages-test.true (rw c.deref.ensures.value at c.in_ok-page.ensures) c.pages.invariant)

pub returns-in_err-page : goal.returns-in_err-page
returns-in_err-page c =
    reads_refusal _ c.from_residual.result c.in_err-page.field-0.0 _ c.from_residual.ensures.1
    (ends (text_page c.args.ram_pages) c.in_err-page.field-0.0 c.pages.read.items c.args.count c.pages.counter c.pages.rest.now
    (all_taken (text_page c.args.ram_pages) [] c.args.count c.args.bytes.now) c.pages-test.true (rw c.deref.ensures.value at c.in_err-page.ensures) c.pages.invariant)

pub returns : goal.returns
returns c = is_done (text_page c.args.ram_pages) c.pages.read.items c.args.count c.pages.counter c.pages.rest.now
    (all_taken (text_page c.args.ram_pages) [] c.args.count c.args.bytes.now) c.pages-test.false c.pages.invariant
