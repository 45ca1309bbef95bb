-- The lines of notes, one note after another.
use Rattle.std.proofs.Common.{◌≡◌, ◌<◌, ◌+◌, List, [], ◌∷◌, ◌++◌, ℕ, sym, ◌∙◌, ap, append_assoc, length, take, slice_index_or}
use Rattle.std.proofs.lemmas.List.{append-nil, take_more}
use Rattle.sv_types.specs.declared.event.Note.{Note}
use Rattle.spec_reference.specs.Report.{note_line, note_lines}

note_lines_after : (notes : List Note) (note : Note) → note_lines (notes ++ note ∷ []) ≡ note_lines notes ++ note_line note
note_lines_after [] note = append-nil (note_line note)
note_lines_after (first ∷ notes) note =
    ap (λ (lines : List ℕ). note_line first ++ lines) (note_lines_after notes note)
    ∙ sym (append_assoc (note_line first) (note_lines notes) (note_line note))

note_lines_more : (notes : List Note) (i : ℕ) (d : Note) → i < length notes →
    note_lines (take (i + 1) notes) ≡ note_lines (take i notes) ++ note_line (slice_index_or notes i d)
note_lines_more notes i d inside = ap note_lines (take_more notes i d inside) ∙ note_lines_after (take i notes) (slice_index_or notes i d)

-- one note's line more after the lines so far
pub line_pushed : (notes : List Note) (i : ℕ) (d : Note) (first before after text line : List ℕ) → i < length notes →
    before ≡ first ++ note_lines (take i notes) → after ≡ before ++ text → text ≡ line → line ≡ note_line (slice_index_or notes i d) →
    after ≡ first ++ note_lines (take (i + 1) notes)
line_pushed notes i d first before after text line inside so_far pushed text_is line_is =
    pushed ∙ ap (λ (b : List ℕ). before ++ b) (text_is ∙ line_is)
    ∙ ap (λ (b : List ℕ). b ++ note_line (slice_index_or notes i d)) so_far
    ∙ append_assoc first (note_lines (take i notes)) (note_line (slice_index_or notes i d))
    ∙ ap (λ (lines : List ℕ). first ++ lines) (sym (note_lines_more notes i d inside))
