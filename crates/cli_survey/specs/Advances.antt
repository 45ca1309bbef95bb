-- How a survey goes on by an event, or by a row of equal ones. This project's own.
use Rattle.std.specs.Prelude.{◌≡◌, ℕ, ◌+◌, ◌-◌, ◌<◌, ◌≤◌, ◌⊎◌, Bool, true, false, Option, Some, None}
use Rattle.std.specs.Prelude.{List, [], ◌++◌, length, replicate}
use Rattle.sv_types.specs.Limits.{max_notes, max_printed}
use Rattle.sv_types.specs.Schedule.{Schedule, first_events, next_event}
use Rattle.sv_types.specs.declared.event.Event.{Event}
use Rattle.sv_types.specs.declared.event.Note.{Note}
use Rattle.script.specs.Runs.{BeginsWith}
use Rattle.spec_reference.specs.Counting.{CountsAtMost}
use Rattle.spec_reference.specs.Run.{run}
use Rattle.spec_reference.specs.Start.{IsStart}
use Rattle.spec_reference.specs.States.{State}
use Rattle.spec_hardware.specs.Machine.{Machine}
use Rattle.spec_hardware.specs.StandsFor.{StandsFor}
use Rattle.laws_simulation.specs.HwPassing.{hw_passed_over}
use Rattle.laws_simulation.specs.Passes.{pass_of}
use Rattle.host_io.specs.Outside.{BreaksOff, MayWrite, SinkState}
use Rattle.machine.specs.Console.{Flushed}
use Rattle.machine.specs.Drawing.{count_left, events_with, is_used_up}
use Rattle.machine.specs.Limits.{max_counts}
use Rattle.machine.specs.Repeats.{MayMake, Repeats}
use Rattle.machine.specs.Standing.{HasState, Stands}
use Rattle.machine.specs.declared.drawing.Drawing.{Drawing}
use Rattle.report.specs.Findings.{FoundByNotes}
use Rattle.report.specs.Views.{loads_view, writes_view}
use Rattle.report.specs.declared.findings.found.Found.{Found}
use Rattle.cli_survey.specs.Noted.{Tells, noted}
use Rattle.cli_survey.specs.Refusals.{refusals, refused, with_loads}
use Rattle.cli_survey.specs.Rows.{GoesAsRow}
use Rattle.cli_survey.specs.Surveys.{HasSurveyed, SurveyBroke, SurveysUp, is_running, with_passes}

-- a write that stopped the machine was passed over, and is kept
pub record IsPassed (m : Machine) (found : Found) (ready : Machine) (after : Found) : Type 0 where
  pub passed : ready ≡ hw_passed_over m
  pub kept : writes_view after.writes ≡ with_passes (writes_view found.writes) (pass_of m.journal.verdict)

-- an event was made so often, of which the last time alone may print or end the run; only the first may refuse a load
pub record IsRepeated (m : Machine) (e : Event) (n : ℕ) (next : Machine) : Type 0 where
  pub some : 0 < n
  pub chain : Repeats n m e next
  pub refuses : (r : State) → StandsFor m r → refused r (replicate n e) ≡ refusals r e
  pub counts : (k : ℕ) → CountsAtMost k m.journal.counts → CountsAtMost (k + n) next.journal.counts

-- the same by what the machine stands for
pub record IsRowMade (m : Machine) (e : Event) (n : ℕ) (next : Machine) : Type 0 where
  pub some : 0 < n
  pub stands : (r : State) (cleared : List ℕ) → Stands m cleared r → Stands next cleared (run r (replicate n e))
  pub row : (r : State) → StandsFor m r → GoesAsRow r n e
  pub refuses : (r : State) → StandsFor m r → refused r (replicate n e) ≡ refusals r e
  pub counts : (k : ℕ) → CountsAtMost k m.journal.counts → CountsAtMost (k + n) next.journal.counts
  pub room : length m.journal.printed < max_printed → length next.journal.printed ≤ max_printed
  pub kept : length m.journal.notes ≤ max_notes → length next.journal.notes ≤ max_notes

-- equal events may be made so often of a machine that runs
pub record MayMakeRow (m : Machine) (count : ℕ) : Type 0 where
  pub may : MayMake m count
  pub state : HasState m
  pub running : is_running m.journal.verdict ≡ true

-- so each of its notes is told
abbrev pub TellsOn : (m : Machine) → Event → (n : ℕ) → (next : Machine) → (old new : Option FoundByNotes) → Type 0
TellsOn m e n next old new = (r : State) (all : List Note) → StandsFor m r → Tells old m.journal.notes all →
    Tells new next.journal.notes (all ++ noted r (replicate n e))

-- such a row, of no more events than were asked for, and what is found by its notes
pub record IsRowTold (m : Machine) (e : Event) (asked n : ℕ) (next : Machine) (old new : Option FoundByNotes) : Type 0 where
  pub made : IsRowMade m e n next
  pub most : n ≤ asked
  pub told : TellsOn m e n next old new

-- behind the pass the machine runs, the load that the event refuses is kept, and the event was made so often
pub record Advances (m : Machine) (found : Found) (e : Event) (n : ℕ) (next : Machine) (after : Found) : Type 0 where
  pub ready : Machine
  pub passed : IsPassed m found ready after
  pub running : is_running ready.journal.verdict ≡ true
  pub looked : (r : State) → StandsFor ready r → loads_view after.loads ≡ with_loads (loads_view found.loads) (refusals r e)
  pub made : IsRowMade ready e n next
  pub told : TellsOn ready e n next found.noted after.noted

-- behind the pass the machine has ended, or no event is left
pub record Ends (none : Type 0) (m : Machine) (found : Found) (ready : Machine) (after : Found) : Type 0 where
  pub passed : IsPassed m found ready after
  pub same : loads_view after.loads ≡ loads_view found.loads
  pub noted : after.noted ≡ found.noted
  pub over : (is_running ready.journal.verdict ≡ false) ⊎ none

-- the one or the other, by what is answered
abbrev pub OneOf : (made ended : Type 0) → Bool → Type 0
OneOf made ended true = made
OneOf made ended false = ended

-- ---- by one event of a source

pub record MakesNext (old new : Schedule) (m : Machine) (found : Found) (next : Machine) (after : Found) : Type 0 where
  pub event : Event
  pub begins : BeginsWith old (record { event = event; count = 1 }) new
  pub advances : Advances m found event 1 next after

abbrev pub GoesByOne : (old new : Schedule) → Machine → Found → Machine → Found → Bool → Type 0
GoesByOne old new m found next after on = OneOf (MakesNext old new m found next after) (Ends (next_event old ≡ None) m found next after) on

-- ---- by a row of equal events

pub record MakesRow {S : Type 0} (schedule : S → Schedule) (old new : Drawing S) (m : Machine) (found : Found) (next : Machine) (after : Found) : Type 0 where
  pub event : Event
  pub count : ℕ
  pub left : (later : ℕ) → events_with later schedule old ≡ replicate count event ++ events_with later schedule new
  pub fewer : count_left new + count ≡ count_left old
  pub advances : Advances m found event count next after

-- none is left, where none is to be drawn later once those are used up
abbrev pub AreNone : {S : Type 0} → (schedule : S → Schedule) → Drawing S → Type 0
AreNone schedule d = (later : ℕ) → (is_used_up d ≡ true → later ≡ 0) → events_with later schedule d ≡ []

abbrev pub GoesByRow : {S : Type 0} → (schedule : S → Schedule) → (old new : Drawing S) → Machine → Found → Machine → Found → Bool → Type 0
GoesByRow schedule old new m found next after on =
    OneOf (MakesRow schedule old new m found next after) (Ends (AreNone schedule old) m found next after) on

-- ---- by events before which nothing is to be seen to

-- a machine may go on over so many events and one more
pub record MayTend (m : Machine) (n : ℕ) : Type 0 where
  pub few : n < max_counts
  pub state : HasState m
  pub counts : CountsAtMost (max_counts - (n + 1)) m.journal.counts
  pub room : length m.journal.printed < max_printed
  pub kept : length m.journal.notes ≤ max_notes

-- and this sink may take its console
pub record MayGoOn (m : Machine) (n : ℕ) (to : SinkState) : Type 0 where
  pub sink : MayWrite to
  pub few : n < max_counts
  pub state : HasState m
  pub counts : CountsAtMost (max_counts - (n + 1)) m.journal.counts
  pub room : length m.journal.printed < max_printed
  pub kept : length m.journal.notes ≤ max_notes

-- of so many events these are left, whatever was found before
pub record GoesOver (many few : ℕ) (before left : List Event) (m next : Machine) (now new : SinkState) : Type 0 where
  pub fewer : few ≤ many
  pub on : (start : State) (all : List Event) (found : Found) (old : SinkState) → IsStart start → SurveysUp start all before m found old now
      → SurveysUp start all left next found old new
  pub may : MayGoOn next few new

-- all were made, or there are no more of them
abbrev pub GoesToEnd : (before : List Event) (m next : Machine) (now new : SinkState) → Type 0
GoesToEnd before m next now new = (start : State) (all : List Event) (found : Found) (old : SinkState) → IsStart start →
    SurveysUp start all before m found old now → HasSurveyed start all next found old new

-- a write of the console failed after some of them
abbrev pub GoesToBreak : (before : List Event) (m next : Machine) (now new : SinkState) → Type 0
GoesToBreak before m next now new = (start : State) (all : List Event) (found : Found) (old : SinkState) → IsStart start →
    SurveysUp start all before m found old now → SurveyBroke start all next old new

-- so it is with the first of a source's events, of which so many are left, whatever is to be drawn after them
abbrev pub GoesWhile : (old new : Schedule) (many : ℕ) (m next : Machine) (now to : SinkState) → Option ℕ → Type 0
GoesWhile old new many m next now to None = (later : ℕ) → MayGoOn m (many + later) now → GoesToEnd (first_events (many + later) old) m next now to
GoesWhile old new many m next now to (Some few) = (later : ℕ) → MayGoOn m (many + later) now →
    GoesOver (many + later) (few + later) (first_events (many + later) old) (first_events (few + later) new) m next now to

abbrev pub BreaksWhile : (old : Schedule) (many : ℕ) (m next : Machine) (now to : SinkState) → Type 0
BreaksWhile old many m next now to = (later : ℕ) → MayGoOn m (many + later) now → GoesToBreak (first_events (many + later) old) m next now to

-- an event was made, and the console written where it was due
pub record IsOneMade (m : Machine) (e : Event) (after : Machine) (now new : SinkState) : Type 0 where
  pub next : Machine
  pub made : IsRepeated m e 1 next
  pub flushed : Flushed next after now new
  pub room : length after.journal.printed < max_printed

-- a write of the console failed after it
pub record BreaksAtOne (m : Machine) (e : Event) (passed : Machine) (now new : SinkState) : Type 0 where
  pub next : Machine
  pub made : IsRepeated m e 1 next
  pub is_passed : passed ≡ hw_passed_over next
  pub broke : BreaksOff now new next.journal.printed

-- and with rows
abbrev pub GoesByRows : {S : Type 0} → (schedule : S → Schedule) → (old new : Drawing S) → (m next : Machine) (now to : SinkState) → Bool → Type 0
GoesByRows schedule old new m next now to on = (later : ℕ) → MayGoOn m (count_left old + later) now →
    OneOf (GoesOver (count_left old + later) (count_left new + later) (events_with later schedule old) (events_with later schedule new) m next now to)
    (GoesToEnd (events_with later schedule old) m next now to) on

abbrev pub BreaksInRows : {S : Type 0} → (schedule : S → Schedule) → (old : Drawing S) → (m next : Machine) (now to : SinkState) → Type 0
BreaksInRows schedule old m next now to = (later : ℕ) → MayGoOn m (count_left old + later) now → GoesToBreak (events_with later schedule old) m next now to
