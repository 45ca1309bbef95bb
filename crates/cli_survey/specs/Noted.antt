-- The notes of a survey's events, all of them, whether the machine keeps them or not. This project's own.
use Rattle.std.specs.Prelude.{◌≡◌, List, [], ◌∷◌, ◌++◌, length, Option, None, Some}
use Rattle.sv_types.specs.Limits.{max_notes}
use Rattle.sv_types.specs.declared.event.Event.{Event}
use Rattle.sv_types.specs.declared.event.Note.{Note}
use Rattle.spec_reference.specs.Run.{step}
use Rattle.spec_reference.specs.States.{State}
use Rattle.laws_simulation.specs.Passing.{survey_step}
use Rattle.machine.specs.Noting.{noting}
use Rattle.report.specs.Findings.{FoundByNotes, found_by}

-- the note of an event, where it makes one: it is the first after none
abbrev pub notes_of : State → Event → List Note
notes_of r e = (step (noting [] r) e).journal.notes

abbrev pub noted : State → List Event → List Note
noted r [] = []
noted r (e ∷ events) = notes_of r e ++ noted (survey_step r e) events

-- no room is left among the notes that are kept, and what was found by all is
pub record IsFoundByAll (kept all : List Note) (found : FoundByNotes) : Type 0 where
  pub full : length kept ≡ max_notes
  pub all_found : found ≡ found_by all

-- of all notes either each is kept, or what was found by them is
abbrev pub Tells : Option FoundByNotes → (kept all : List Note) → Type 0
Tells None kept all = kept ≡ all
Tells (Some found) kept all = IsFoundByAll kept all found
