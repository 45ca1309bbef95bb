use Rattle.std.proofs.Common.{◌≡◌, ◌++◌, string_bytes, take}
use Rattle.spec_reference.specs.Report.{note_lines}
use Rattle.report.proofs.notes.push_notes.Given as goal

abbrev pub invariant-loop-note : goal.invariant-loop-note
invariant-loop-note l = string_bytes l.text ≡ string_bytes l.initial.text ++ note_lines (take l.note-index l.notes)
