-- What a report tells of, as a journal. This project's own.
use Rattle.std.specs.Prelude.{List, []}
use Rattle.sv_types.specs.declared.event.Counts.{Counts}
use Rattle.sv_types.specs.declared.event.Note.{Note}
use Rattle.sv_types.specs.declared.event.Verdict.{Verdict}
use Rattle.spec_reference.specs.States.{Journal}

-- the printed bytes stand before a report and aren't part of it
abbrev pub journal_with : List Note → Verdict → Counts → Journal
journal_with notes verdict counts = record { printed = []; notes = notes; counts = counts; verdict = verdict }
