-- What an event notes doesn't hang on the notes before it, and nothing else of the state does.
use Rattle.std.proofs.Common.{◌≡◌, Bool, true, false, List, [], ◌∷◌, ◌++◌, take, refl, ◌∙◌}
use Rattle.std.specs.Prelude.{Option, Some, None, if◌then◌else◌}
use Rattle.sv_types.specs.Limits.{max_notes}
use Rattle.sv_types.specs.declared.event.Note.{Note}
use Rattle.spec_reference.specs.Counting.{note, with_note}
use Rattle.spec_reference.specs.States.{State, Journal}
use Rattle.machine.specs.Noting.{noting}
use Rattle.machine_journal.specs.Journals.{with_notes}

-- the notes that are kept after one more, or none
abbrev pub kept : Option Note → List Note → List Note
kept None notes = notes
kept (Some note) notes = take max_notes (notes ++ note ∷ [])

-- from each list of notes it is the same state, with the same note after these
pub record Notes (from : List Note → State) (after : State) : Type 0 where
  pub new : Option Note
  pub same : (notes : List Note) → from notes ≡ noting (kept new notes) after

-- the same of journals
pub record JournalNotes (from : List Note → Journal) (after : Journal) : Type 0 where
  pub new : Option Note
  pub same : (notes : List Note) → from notes ≡ with_notes (kept new notes) after

pub quiet : (r : State) → Notes (λ notes. noting notes r) r
quiet r = record { new = None; same = λ notes. refl }

pub choose : (b : Bool) (f g : List Note → State) (x y : State) → Notes f x → Notes g y → Notes (λ notes. if b then f notes else g notes) (if b then x else y)
choose true f g x y s t = s
choose false f g x y s t = t

-- the same by another way
pub through : (f g : List Note → State) (after : State) → ((notes : List Note) → f notes ≡ g notes) → Notes g after → Notes f after
through f g after is n = record { new = n.new; same = λ notes. is notes ∙ n.same notes }

-- one note more
pub one : (line : Note) (r : State) → Notes (λ notes. note (noting notes r) line) (note r line)
one line r = record { new = Some line; same = λ notes. refl }

pub none_noted : (j : Journal) → JournalNotes (λ notes. with_notes notes j) j
none_noted j = record { new = None; same = λ notes. refl }

pub one_noted : (line : Note) (j : Journal) → JournalNotes (λ notes. with_note line (with_notes notes j)) (with_note line j)
one_noted line j = record { new = Some line; same = λ notes. refl }
