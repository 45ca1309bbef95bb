use Rattle.std.proofs.Common.{◌++◌, length, refl}
use Rattle.snapshot_format.specs.Forms.{encode_number}
use Rattle.snapshot_format.specs.PageForms.{text, text_page}
use Rattle.snapshot_format.specs.Typed.{is_typed_page}
use Rattle.snapshot_format.proofs.WrittenLists.{nothing_yet, one_more, all_counted, one_more_typed, all_typed}
use Rattle.snapshot_format.proofs.writer.pages.write_text.Goals as goal

pub pages-init : goal.pages-init
pages-init c = (λ ram_pages. rw (← c.in_ok-write_number.ensures) (nothing_yet (text_page ram_pages) c.write_number.new.out.items), refl)

pub pages-preserved : goal.pages-preserved
pages-preserved c = (
  λ ram_pages. one_more _ (text_page ram_pages) c.args.text_pages.now c.pages.page-index (c.args.out.now.items ++ encode_number (length c.args.text_pages.now))
      c.pages.out.items _ c.pages-test.true (c.pages.invariant.0 ram_pages) (c.in_ok-write_text_page.ensures.encoded ram_pages _),
  one_more_typed _ is_typed_page c.args.text_pages.now c.pages.page-index c.pages-test.true c.pages.invariant.1 c.in_ok-write_text_page.ensures.typed,
)

pub returns-clause-encoded : goal.returns-clause-encoded
unfolding text
returns-clause-encoded c ram_pages = all_counted (text_page ram_pages) c.args.text_pages.now c.pages.page-index c.args.out.now.items (encode_number (length c.args.text_pages.now))
    c.pages.out.items c.pages-test.false (c.pages.invariant.0 ram_pages)

pub returns-clause-typed : goal.returns-clause-typed
returns-clause-typed c = all_typed is_typed_page c.args.text_pages.now c.pages.page-index c.pages-test.false c.pages.invariant.1
