use Rattle.std.proofs.Common.{◌≡◌, ◌-◌, []}
use Rattle.snapshot_format.specs.Forms.{all_taken}
use Rattle.snapshot_format.specs.JournalForms.{note_form}
use Rattle.snapshot_format.proofs.ReadLists.{with_front}
use Rattle.snapshot_format.proofs.reader.notes.read_kept.Given as goal

abbrev pub invariant-notes : goal.invariant-notes
invariant-notes l = with_front l.read.items (all_taken (λ before. note_form l.harts) l.read.items (l.count - l.counter) l.rest) ≡ all_taken (λ before. note_form l.harts) [] l.count l.bytes
