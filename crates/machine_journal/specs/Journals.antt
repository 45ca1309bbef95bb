-- A journal's fields as one record, and the room that they have. This project's own.
use Rattle.std.specs.Prelude.{ℕ, ◌+◌, ◌≤◌, List, vec_capacity}
use Rattle.sv_types.specs.declared.event.Counts.{Counts}
use Rattle.sv_types.specs.declared.event.Note.{Note}
use Rattle.sv_types.specs.Limits.{max_printed}
use Rattle.spec_reference.specs.States.{Journal}
use Rattle.machine_journal.specs.declared.journal.Journal.TheInside.{Inside}

abbrev pub journal_of : Inside → Journal
journal_of j = record { printed = j.printed.items; notes = j.notes; counts = j.counts; verdict = j.verdict }

-- bytes are kept without taking memory
abbrev pub HasRoom : Inside → Type 0
HasRoom j = max_printed ≤ vec_capacity j.printed

-- other notes in the place of those that are kept
abbrev pub with_notes : List Note → Journal → Journal
with_notes notes j = record j { notes = notes }

-- so many turns of a hart, in each of which an instruction was carried out
abbrev pub count_batch : ℕ → Counts → Counts
count_batch n c = record c { turns = c.turns + n; retired = c.retired + n }
