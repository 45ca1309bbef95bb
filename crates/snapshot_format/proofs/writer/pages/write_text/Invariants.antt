use Rattle.std.proofs.Common.{◌≡◌, ℕ, ◌++◌, [], take, length, true}
use Rattle.std.specs.List.{list_all}
use Rattle.snapshot_format.specs.Forms.{encode_all, encode_number}
use Rattle.snapshot_format.specs.PageForms.{text_page}
use Rattle.snapshot_format.specs.Typed.{is_typed_page}
use Rattle.snapshot_format.proofs.writer.pages.write_text.Given as goal

abbrev pub invariant-pages : goal.invariant-pages
invariant-pages l =
    ((ram_pages : ℕ) → l.out.items ≡ (l.fn.out.items ++ encode_number (length l.text_pages)) ++ encode_all (text_page ram_pages) [] (take l.page-index l.text_pages))
    × (list_all is_typed_page (take l.page-index l.text_pages) ≡ true)
