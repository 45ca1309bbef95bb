use Rattle.std.proofs.Common.{arith}
use Rattle.report.proofs.NoteLists.{line_pushed}
use Rattle.report.proofs.notes.push_notes.Goals as goal

pub loop-note-preserved : goal.loop-note-preserved
loop-note-preserved c =
    line_pushed c.args.notes.now c.loop-note.note-index _ _ _ _ _ _ (omega arith) c.loop-note.invariant c.in_ok-push_str.ensures.bytes c.as_str.ensures.value c.in_ok-note_line.ensures
