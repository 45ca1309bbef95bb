-- The notes that are kept, and the room that they have. This project's own.
use Rattle.std.specs.Prelude.{◌≤◌, List, length, vec_capacity}
use Rattle.sv_types.specs.Limits.{max_notes}
use Rattle.sv_types.specs.declared.event.Note.{Note}
use Rattle.machine_journal.specs.declared.notes.Notes.TheInside.{Inside}

abbrev pub notes_of : Inside → List Note
notes_of n = n.items.items

-- notes are kept without taking memory
pub record HasRoom (n : Inside) : Type 0 where
  pub room : max_notes ≤ vec_capacity n.items
  pub few : length n.items.items ≤ max_notes
