-- What an event does of the machine: an attempt of the hardware, and SecVisor's answer where it gave an exit. It speaks of no
-- state of the reference machine, and leaves the words of the tables alone open. This project's own.
use Rattle.std.specs.Prelude.{◌≡◌, ℕ, Bool, List, length, true, false, Option, Some, None, slice_get}
use Rattle.sv_types.specs.Views.{AreViews}
use Rattle.sv_types.specs.declared.event.Event.{Event}
use Rattle.sv_types.specs.declared.event.Event.TheVariants.{Turn, Beat, Key, Tick, Poke}
use Rattle.sv_types.specs.declared.event.Verdict.{Verdict}
use Rattle.sv_types.specs.declared.event.Verdict.TheVariants.{Running, Shutdown, Stopped}
use Rattle.spec_processor.specs.declared.outcome.Outcome.{Outcome}
use Rattle.spec_reference.specs.Counting.{count_turn}
use Rattle.spec_reference.specs.Protections.{protection_at}
use Rattle.spec_hardware.specs.Machine.{Machine, HwHart, with_count_raised, after_quiet_attempt}
use Rattle.spec_hardware.specs.HardwareEvent.{attempt_of, is_loading, left_by, hart_again, sent_again}
use Rattle.spec_hardware.specs.HwHarts.{asks_again}
use Rattle.spec_hardware.specs.HwExits.{served_exit, served_load_turn, with_tables}
use Rattle.spec_hardware.specs.StandsFor.{bound_pages}
use Rattle.spec_hardware.specs.HwEvents.{event_served}

-- as many bytes of tables as before hold both views of the protections after an answer
pub record AreTables (before after : Machine) (tables : List ℕ) : Type 0 where
  pub size : length tables ≡ length before.region.tables
  pub views : AreViews tables before.rules.ram_pages (bound_pages before.rules) (protection_at after.protections)

-- the machine that an answer's function gives, with tables for its protections, whichever these are
pub record WithTables (before served after : Machine) : Type 0 where
  pub tables : List ℕ
  pub are : AreTables before served tables
  pub same : after ≡ with_tables served tables

-- ---- turns, the count of turns raised already

-- without an exit the attempt is all, and with one SecVisor answers
abbrev pub OutcomeServed : Outcome → Machine → ℕ → HwHart → Machine → Type 0
OutcomeServed (Outcome.Retired wrote) m h hw after = after ≡ after_quiet_attempt m h (attempt_of m h hw)
OutcomeServed Outcome.GuestTrap m h hw after = after ≡ after_quiet_attempt m h (attempt_of m h hw)
OutcomeServed (Outcome.Exit exit) m h hw after = WithTables (left_by m h hw) (served_exit (left_by m h hw) h exit) after

-- one attempt
abbrev pub AttemptServed : Machine → ℕ → HwHart → Machine → Type 0
AttemptServed m h hw after = OutcomeServed (attempt_of m h hw).outcome m h hw after

-- one attempt, or two, where SecVisor asks for a second one: the hart has left its entry then, so it asks no more
abbrev pub AttemptsServed : (again : Bool) → Machine → ℕ → HwHart → Machine → Type 0
AttemptsServed false m h hw after = AttemptServed m h hw after
AttemptsServed true m h hw after = AttemptServed (sent_again m h hw) h (hart_again m h hw) after

-- a load of this hart goes on without an attempt
abbrev pub StartedServed : (loads : Bool) → Machine → ℕ → HwHart → Machine → Type 0
StartedServed true m h hw after = WithTables m (served_load_turn m h) after
StartedServed false m h hw after = AttemptsServed (asks_again m.region.ram m.rules hw (attempt_of m h hw).outcome) m h hw after

abbrev pub HartServed : (started : Bool) → Machine → ℕ → HwHart → Machine → Type 0
HartServed true m h hw after = StartedServed (is_loading m.loading h) m h hw after
HartServed false m h hw after = after ≡ m

abbrev pub TurnServed : Machine → ℕ → Option HwHart → Machine → Type 0
TurnServed m h None after = after ≡ m
TurnServed m h (Some hw) after = HartServed hw.started m h hw after

-- ---- all events

-- a turn raises its count, and then does the rest
abbrev pub IsTurn : Machine → ℕ → Machine → Type 0
IsTurn m h after = TurnServed (with_count_raised m count_turn) h (slice_get m.harts h) after

abbrev pub Steps : Machine → Event → Machine → Type 0
Steps m (Turn h) after = IsTurn m h after
Steps m Beat after = after ≡ event_served m Beat
Steps m (Key byte) after = after ≡ event_served m (Key byte)
Steps m (Tick n) after = after ≡ event_served m (Tick n)
Steps m (Poke gpa value) after = after ≡ event_served m (Poke gpa value)

-- a machine that has ended stays as it is
abbrev pub StepsUnder : Verdict → Machine → Event → Machine → Type 0
StepsUnder Running m e after = Steps m e after
StepsUnder Shutdown m e after = after ≡ m
StepsUnder (Stopped rule hart at) m e after = after ≡ m

unfoldable pub IsStep : Machine → Event → Machine → Type 0
IsStep m e after = StepsUnder m.journal.verdict m e after
