use Rattle.std.proofs.Common.{◌++◌, length, refl}
use Rattle.snapshot_format.specs.Forms.{encode_number}
use Rattle.snapshot_format.specs.JournalForms.{note_form, notes}
use Rattle.snapshot_format.specs.Typed.{is_typed_note}
use Rattle.snapshot_format.proofs.WrittenLists.{nothing_yet, one_more, all_counted, one_more_typed, all_typed}
use Rattle.snapshot_format.proofs.writer.notes.write_notes.Goals as goal

pub notes-init : goal.notes-init
notes-init c = (λ harts. rw (← c.in_ok-write_number.ensures) (nothing_yet (λ before. note_form harts) c.write_number.new.out.items), refl)

pub notes-preserved : goal.notes-preserved
notes-preserved c = (
  λ harts. one_more _ (λ before. note_form harts) c.args.kept.now c.notes.n-index (c.args.out.now.items ++ encode_number (length c.args.kept.now))
      c.notes.out.items _ c.notes-test.true (c.notes.invariant.0 harts) (c.in_ok-write_note.ensures.encoded harts),
  one_more_typed _ is_typed_note c.args.kept.now c.notes.n-index c.notes-test.true c.notes.invariant.1 c.in_ok-write_note.ensures.typed,
)

pub returns-clause-encoded : goal.returns-clause-encoded
unfolding notes
returns-clause-encoded c harts all = all_counted (λ before. note_form harts) c.args.kept.now c.notes.n-index c.args.out.now.items (encode_number (length c.args.kept.now))
    c.notes.out.items c.notes-test.false (c.notes.invariant.0 harts)

pub returns-clause-typed : goal.returns-clause-typed
returns-clause-typed c = all_typed is_typed_note c.args.kept.now c.notes.n-index c.notes-test.false c.notes.invariant.1
