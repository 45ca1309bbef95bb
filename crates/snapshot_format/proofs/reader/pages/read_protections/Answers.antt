use Rattle.std.proofs.Common.{[]}
use Rattle.snapshot_format.specs.Forms.{all_taken}
use Rattle.snapshot_format.specs.PageForms.{protection_form, protections}
use Rattle.snapshot_format.proofs.ReadLists.{goes_on, ends, is_done, reads_refusal}
use Rattle.snapshot_format.proofs.reader.pages.read_protections.Goals as goal

pub pages-preserved : goal.pages-preserved
pages-preserved c = rw c.in_ok-push.ensures.items (goes_on (λ before. protection_form) c.pages.read.items c.args.ram_pages c.pages.counter c.pages.rest.now _ _
    (all_taken (λ before. protection_form) [] c.args.ram_pages c.args.bytes.now) c.pages-test.true c.in_ok-page.ensures c.pages.invariant)

pub returns-in_err-page : goal.returns-in_err-page
unfolding protections
returns-in_err-page c =
    reads_refusal _ c.from_residual.result c.in_err-page.field-0.0 _ c.from_residual.ensures.1
    (ends (λ before. protection_form) c.in_err-page.field-0.0 c.pages.read.items c.args.ram_pages c.pages.counter c.pages.rest.now
    (all_taken (λ before. protection_form) [] c.args.ram_pages c.args.bytes.now) c.pages-test.true c.in_err-page.ensures c.pages.invariant)

pub returns : goal.returns
unfolding protections
returns c = is_done (λ before. protection_form) c.pages.read.items c.args.ram_pages c.pages.counter c.pages.rest.now (all_taken (λ before. protection_form) [] c.args.ram_pages
    c.args.bytes.now) c.pages-test.false c.pages.invariant
