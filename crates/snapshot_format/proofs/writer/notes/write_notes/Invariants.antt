use Rattle.std.proofs.Common.{◌≡◌, ℕ, ◌++◌, [], take, length, true}
use Rattle.std.specs.List.{list_all}
use Rattle.snapshot_format.specs.Forms.{encode_all, encode_number}
use Rattle.snapshot_format.specs.JournalForms.{note_form}
use Rattle.snapshot_format.specs.Typed.{is_typed_note}
use Rattle.snapshot_format.proofs.writer.notes.write_notes.Given as goal

abbrev pub invariant-notes : goal.invariant-notes
invariant-notes l =
    ((harts : ℕ) → l.out.items ≡ (l.fn.out.items ++ encode_number (length l.kept)) ++ encode_all (λ before. note_form harts) [] (take l.n-index l.kept))
    × (list_all is_typed_note (take l.n-index l.kept) ≡ true)
