use Rattle.std.proofs.Common.{◌≡◌, ◌-◌, []}
use Rattle.snapshot_format.specs.Forms.{all_taken}
use Rattle.snapshot_format.specs.PageForms.{text_page}
use Rattle.snapshot_format.proofs.ReadLists.{with_front}
use Rattle.snapshot_format.proofs.reader.pages.read_text_pages.Given as goal

abbrev pub invariant-pages : goal.invariant-pages
invariant-pages l = with_front l.read.items (all_taken (text_page l.ram_pages) l.read.items (l.count - l.counter) l.rest) ≡ all_taken (text_page l.ram_pages) [] l.count l.bytes
