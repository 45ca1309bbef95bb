-- What was found by notes, and the room that it has. This project's own.
use Rattle.std.specs.Prelude.{◌≤◌, vec_capacity}
use Rattle.report.specs.Findings.{FoundByNotes, max_findings}
use Rattle.report.specs.declared.findings.noted.NotesFound.TheInside.{Inside}

abbrev pub found_of : Inside → FoundByNotes
found_of f = record { demotions = f.demotions.items; denied = f.denied.items }

-- findings are kept without taking memory
pub record HasRoom (f : Inside) : Type 0 where
  pub demotions : max_findings ≤ vec_capacity f.demotions
  pub denied : max_findings ≤ vec_capacity f.denied
