-- The states of a run that are kept.
use Rattle.std.proofs.Common.{◌≡◌, ℕ, ◌≤◌, List, Bool, true, false, if◌then◌else◌, refl, sym, subst, Option, Some, None}
use Rattle.std.specs.Prelude.{IfSome, is_some, nat_le}
use Rattle.std.proofs.lemmas.Bool.{leb-true}
use Rattle.sv_types.specs.declared.event.Event.{Event}
use Rattle.spec_reference.specs.States.{State}
use Rattle.cli_debug.specs.Keeping.{IsKept}
use Rattle.cli_debug.specs.Shelves.{AreKept, by, latest, or_else}
use Rattle.cli_debug.specs.declared.target.kept.Kept.{Kept}
use Rattle.cli_debug.specs.declared.target.shelf.Shelf.{Shelf}

if_some : (start : State) (events : List Event) (kept other : Option Kept) → other ≡ kept → IfSome kept (IsKept start events) → IfSome other (IsKept start events)
if_some start events kept other same k = subst (λ (o : Option Kept). IfSome o (IsKept start events)) (sym same) k

pub none_kept : (start : State) (events : List Event) (shelf : Shelf) → shelf.before ≡ None → shelf.last ≡ None → AreKept start events shelf
none_kept start events shelf before last =
    record { before = if_some start events None shelf.before before tt; last = if_some start events None shelf.last last tt }

either_kept : (start : State) (events : List Event) (b : Bool) (one other : Option Kept) → IfSome one (IsKept start events) → IfSome other (IsKept start events) →
    IfSome (if b then one else other) (IsKept start events)
either_kept start events true one other k l = k
either_kept start events false one other k l = l

-- a state more
pub one_more : (start : State) (events : List Event) (old new : Shelf) (kept : Kept) (number : ℕ) → new.before ≡ (if is_some (by old.last number) then old.last else old.before) →
    new.last ≡ Some kept → IsKept start events kept → AreKept start events old → AreKept start events new
one_more start events old new kept number before last is k = record {
  before = if_some start events _ new.before before (either_kept start events (is_some (by old.last number)) old.last old.before k.last k.before);
  last = if_some start events (Some kept) new.last last is;
}

-- ---- the latest

by_kept : (start : State) (events : List Event) (kept : Option Kept) (number : ℕ) → IfSome kept (IsKept start events) → IfSome (by kept number) (IsKept start events)
by_kept start events None number k = tt
by_kept start events (Some kept) number k = either_kept start events (nat_le kept.made number) (Some kept) None k tt

else_kept : (start : State) (events : List Event) (one other : Option Kept) → IfSome one (IsKept start events) → IfSome other (IsKept start events) → IfSome (or_else one other) (IsKept start events)
else_kept start events None other k l = l
else_kept start events (Some kept) other k l = k

pub latest_kept : (start : State) (events : List Event) (shelf : Shelf) (number : ℕ) (kept : Kept) → Some kept ≡ latest shelf number → AreKept start events shelf → IsKept start events kept
latest_kept start events shelf number kept is k =
    subst (λ (o : Option Kept). IfSome o (IsKept start events)) (sym is)
    (else_kept start events (by shelf.last number) (by shelf.before number) (by_kept start events shelf.last number k.last) (by_kept start events shelf.before number k.before))

abbrev IsEarly : ℕ → Option Kept → Type 0
IsEarly number None = Unit {0}
IsEarly number (Some kept) = kept.made ≤ number

early_if : (number : ℕ) (kept : Kept) (b : Bool) → nat_le kept.made number ≡ b → IsEarly number (if b then Some kept else None)
early_if number kept true is = leb-true kept.made number is
early_if number kept false is = tt

early_by : (number : ℕ) (kept : Option Kept) → IsEarly number (by kept number)
early_by number None = tt
early_by number (Some kept) = early_if number kept (nat_le kept.made number) refl

early_else : (number : ℕ) (one other : Option Kept) → IsEarly number one → IsEarly number other → IsEarly number (or_else one other)
early_else number None other e f = f
early_else number (Some kept) other e f = e

pub latest_early : (shelf : Shelf) (number : ℕ) (kept : Kept) → Some kept ≡ latest shelf number → kept.made ≤ number
latest_early shelf number kept is =
    subst (IsEarly number) (sym is) (early_else number (by shelf.last number) (by shelf.before number) (early_by number shelf.last) (early_by number shelf.before))
