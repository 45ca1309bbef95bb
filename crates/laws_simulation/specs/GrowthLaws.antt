-- How far one event moves the counts and the console. This project's own.
use Rattle.std.specs.Prelude.{◌≡◌, ℕ, ◌+◌, ◌≤◌, List, ◌++◌, length}
use Rattle.sv_types.specs.declared.event.Counts.{Counts}
use Rattle.sv_types.specs.declared.event.Event.{Event}
use Rattle.spec_reference.specs.Run.{step}
use Rattle.spec_reference.specs.States.{State, Journal}

-- each count is at most one more than it was
pub record RiseByOne (old new : Counts) : Type 0 where
  pub turns : new.turns ≤ old.turns + 1
  pub beats : new.beats ≤ old.beats + 1
  pub keys : new.keys ≤ old.keys + 1
  pub ticks : new.ticks ≤ old.ticks + 1
  pub retired : new.retired ≤ old.retired + 1
  pub traps : new.traps ≤ old.traps + 1
  pub enters : new.enters ≤ old.enters + 1
  pub leaves : new.leaves ≤ old.leaves + 1
  pub demotes : new.demotes ≤ old.demotes + 1
  pub denied : new.denied ≤ old.denied + 1
  pub dropped : new.dropped ≤ old.dropped + 1
  pub loads : new.loads ≤ old.loads + 1
  pub unloads : new.unloads ≤ old.unloads + 1
  pub refused : new.refused ≤ old.refused + 1
  pub notes : new.notes ≤ old.notes + 1

-- no count falls
pub record NoneFalls (old new : Counts) : Type 0 where
  pub turns : old.turns ≤ new.turns
  pub beats : old.beats ≤ new.beats
  pub keys : old.keys ≤ new.keys
  pub ticks : old.ticks ≤ new.ticks
  pub retired : old.retired ≤ new.retired
  pub traps : old.traps ≤ new.traps
  pub enters : old.enters ≤ new.enters
  pub leaves : old.leaves ≤ new.leaves
  pub demotes : old.demotes ≤ new.demotes
  pub denied : old.denied ≤ new.denied
  pub dropped : old.dropped ≤ new.dropped
  pub loads : old.loads ≤ new.loads
  pub unloads : old.unloads ≤ new.unloads
  pub refused : old.refused ≤ new.refused
  pub notes : old.notes ≤ new.notes

-- and at most one byte is printed, after those that were
pub record Grows (old new : Journal) : Type 0 where
  pub counts : RiseByOne old.counts new.counts
  pub kept : NoneFalls old.counts new.counts
  pub console : length new.printed ≤ length old.printed + 1
  pub behind : (more : List ℕ) × (new.printed ≡ old.printed ++ more)

abbrev pub GrowsLaw : Type 0
GrowsLaw = (r : State) (e : Event) → Grows r.journal (step r e).journal
