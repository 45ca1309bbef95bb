use Rattle.std.proofs.Common.{◌≡◌, ◌-◌, []}
use Rattle.snapshot_format.specs.Forms.{all_taken}
use Rattle.snapshot_format.specs.PageForms.{protection_form}
use Rattle.snapshot_format.proofs.ReadLists.{with_front}
use Rattle.snapshot_format.proofs.reader.pages.read_protections.Given as goal

abbrev pub invariant-pages : goal.invariant-pages
invariant-pages l = with_front l.read.items (all_taken (λ before. protection_form) l.read.items (l.ram_pages - l.counter) l.rest) ≡ all_taken (λ before. protection_form) [] l.ram_pages l.bytes
