-- The states of a run that are kept. This project's own.
use Rattle.std.specs.Prelude.{ℕ, if◌then◌else◌, List, Option, Some, None, IfSome, nat_le}
use Rattle.sv_types.specs.declared.event.Event.{Event}
use Rattle.spec_reference.specs.States.{State}
use Rattle.cli_debug.specs.Keeping.{IsKept}
use Rattle.cli_debug.specs.declared.target.kept.Kept.{Kept}
use Rattle.cli_debug.specs.declared.target.shelf.Shelf.{Shelf}

-- it, where it is after so many events at most
abbrev pub by : Option Kept → (number : ℕ) → Option Kept
by None number = None
by (Some kept) number = if nat_le kept.made number then Some kept else None

abbrev pub or_else : Option Kept → Option Kept → Option Kept
or_else None other = other
or_else (Some kept) other = Some kept

-- the latest of them after so many events at most
abbrev pub latest : Shelf → (number : ℕ) → Option Kept
latest shelf number = or_else (by shelf.last number) (by shelf.before number)

-- all of them are states of this run
pub record AreKept (start : State) (events : List Event) (shelf : Shelf) : Type 0 where
  pub before : IfSome shelf.before (IsKept start events)
  pub last : IfSome shelf.last (IsKept start events)
