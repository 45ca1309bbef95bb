-- What is true of a machine between two events. This project's own.
use Rattle.std.specs.Prelude.{◌+◌, ◌*◌, ◌^◌, ◌<◌, ◌≤◌, ℕ, List, [], ◌∷◌, length, Option, Some, None}
use Rattle.spec_reference.specs.States.{State, Hart}
use Rattle.spec_hardware.specs.StandsFor.{StandsFor}
use Rattle.spec_reference.specs.SavedStates.{gpa_at}
use Rattle.machine.specs.Batches.{AreFreeWhere}
use Rattle.machine.specs.declared.machine.Machine.TheInside.{Inside}

-- the guest-physical address of a reservation is a number of 64 bits
abbrev pub HasAddress : Option ℕ → Type 0
HasAddress None = Unit {0}
HasAddress (Some place) = gpa_at place < 2 ^ 64

abbrev pub HaveAddresses : List Hart → Type 0
HaveAddresses [] = Unit {0}
HaveAddresses (hart ∷ harts) = HasAddress hart.reservation × HaveAddresses harts

-- it stands for a state of the reference machine whose reservations have addresses. There were two attempts a turn at most,
-- which a word of 64 bits counts, and no more bytes printed than turns. No hart has a reservation where that is noted
pub record IsFit (m : Inside) : Type 0 where
  pub state : State
  pub stands : StandsFor m.system state
  pub addresses : HaveAddresses state.harts
  pub attempts : m.system.attempts ≤ 2 * m.system.journal.counts.turns
  pub few : m.system.attempts < 2 ^ 64
  pub free : AreFreeWhere m.none_reserved m.system.harts
  pub printed : m.system.cleared + length m.system.journal.printed ≤ m.system.journal.counts.turns
