-- A run and its console, while it goes on.
use Rattle.std.specs.Prelude.{◌≡◌, ◌<◌, ◌≤◌, ℕ, List, [], ◌∷◌, ◌++◌, length, drop, Bool, false, ◌||◌, ◌==◌, ◌-◌, IsFalse, IsTrue, Option, Some, None, slice_get}
use Rattle.sv_types.specs.Schedule.{line_feed}
use Rattle.sv_types.specs.Limits.{max_events, max_printed}
use Rattle.sv_types.specs.declared.event.Event.{Event}
use Rattle.spec_reference.specs.Counting.{CountsAtMost}
use Rattle.spec_reference.specs.States.{State}
use Rattle.spec_reference.specs.Run.{run}
use Rattle.spec_hardware.specs.Machine.{Machine}
use Rattle.spec_hardware.specs.Reaches.{IsNew, ReachesFrom}
use Rattle.host_io.specs.Outside.{SinkState, after_taking, BreaksOff, MayWrite}
use Rattle.machine.specs.Standing.{HasState, Stands, TakesAway}

-- ---- when the console's bytes are written

abbrev pub is_line_feed : Option ℕ → Bool
is_line_feed None = false
is_line_feed (Some byte) = byte == line_feed

-- They are written where 4,096 of them stand, or where the last of them is a line feed.
abbrev pub flush_is_due : List ℕ → Bool
flush_is_due printed = length printed == max_printed || is_line_feed (slice_get printed (length printed - 1))

-- ---- the run so far

-- the sink took some bytes
pub record HasTaken (old new : SinkState) : Type 0 where
  pub bytes : List ℕ
  pub taken : new ≡ after_taking old bytes

-- the sink took these bytes of the console, and the rest stands in the machine
pub record Flushed (before after : Machine) (old new : SinkState) : Type 0 where
  pub cleared : List ℕ
  pub away : TakesAway before cleared after
  pub taken : new ≡ after_taking old cleared

-- By these events the machine came from another to this one. It stands where the run is after them, but for console bytes
-- that the sink took.
pub record HasRun (first : Machine) (start : State) (done : List Event) (machine : Machine) (old new : SinkState) : Type 0 where
  pub cleared : List ℕ
  pub stands : Stands machine cleared (run start done)
  pub chain : ReachesFrom first start done machine
  pub taken : new ≡ after_taking old cleared

-- of the console's bytes that the sink hadn't taken, none were due before the last of these events
pub record ComesDue (start : State) (events : List Event) (cleared : List ℕ) : Type 0 where
  pub front : List Event
  pub last : Event
  pub split : front ++ last ∷ [] ≡ events
  pub rest : IsFalse (flush_is_due (drop (length cleared) (run start front).journal.printed))

-- the machine stands where the run is after some of these events, and a write failed of console bytes that came due with the last
-- of them
pub record RunBroke (first : Machine) (start : State) (events : List Event) (machine : Machine) (old new : SinkState) : Type 0 where
  pub done : List Event
  pub left : List Event
  pub split : done ++ left ≡ events
  pub cleared : List ℕ
  pub stands : Stands machine cleared (run start done)
  pub chain : ReachesFrom first start done machine
  pub room : length machine.journal.printed ≤ max_printed
  pub late : ComesDue start done cleared
  pub due : IsTrue (flush_is_due machine.journal.printed)
  pub broke : BreaksOff (after_taking old cleared) new machine.journal.printed

-- from every start that the first machine is new for
abbrev pub HasRunFromStart : Machine → List Event → Machine → SinkState → SinkState → Type 0
HasRunFromStart first done machine old new = (start : State) → IsNew first start → HasRun first start done machine old new

abbrev pub RunBrokeFromStart : Machine → List Event → Machine → SinkState → SinkState → Type 0
RunBrokeFromStart first events machine old new = (start : State) → IsNew first start → RunBroke first start events machine old new

-- ---- a whole run

-- a machine of which nothing is printed yet may be run over so many events, and this sink may take its console
pub record MayRun (machine : Machine) (events : ℕ) (to : SinkState) : Type 0 where
  pub sink : MayWrite to
  pub few : events ≤ max_events
  pub state : HasState machine
  pub counts : CountsAtMost max_events machine.journal.counts
  pub console : machine.journal.printed ≡ []

-- a machine has run over these events, and nothing of its console is due any more
pub record HasRunAll (first : Machine) (events : List Event) (machine : Machine) (old new : SinkState) : Type 0 where
  pub ran : HasRunFromStart first events machine old new
  pub taken : HasTaken old new
  pub room : length machine.journal.printed < max_printed
  pub rest : IsFalse (flush_is_due machine.journal.printed)
