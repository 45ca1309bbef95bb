-- What becomes of a run while more events are made, and the console's bytes are written.
use Rattle.std.specs.Prelude.{◌≡◌, ◌≢◌, ◌⊎◌, ◌<◌, ◌%◌, ℕ, List, [], ◌∷◌, ◌++◌, length, IsTrue, IsFalse, Result, OnOk, OnErr}
use Rattle.atomic_table.specs.Seated.{TableId}
use Rattle.sv_types.specs.Limits.{max_printed}
use Rattle.sv_types.specs.declared.event.Event.{Event}
use Rattle.sv_types.specs.declared.event.Verdict.{Verdict}
use Rattle.sv_types.specs.declared.event.Verdict.TheVariants.{Running}
use Rattle.spec_reference.specs.States.{State}
use Rattle.spec_reference.specs.Run.{run}
use Rattle.spec_hardware.specs.Machine.{Machine}
use Rattle.spec_hardware.specs.Reaches.{ReachesFrom}
use Rattle.host_io.specs.Outside.{SinkState, MayWrite, after_taking, BreaksOff}
use Rattle.machine.specs.Standing.{Stands}
use Rattle.machine.specs.Console.{flush_is_due, ComesDue, HasTaken, HasRun}
use Rattle.cli_live.specs.Coming.{IsKey, CameRunning}
use Rattle.cli_live.specs.LiveRuns.{harts_of, events_made, IsUnderWay, MayGoOn}
use Rattle.cli_live.specs.declared.live_run.LiveRun.{LiveRun}

-- By these events the machine came from another to this one, each of them but keys while it ran, and nothing of its console is due.
pub record HasDriven (first : Machine) (start : State) (done : List Event) (machine : Machine) (old new : SinkState) : Type 0 where
  pub run : HasRun first start done machine old new
  pub came : CameRunning start done
  pub rest : IsFalse (flush_is_due machine.journal.printed)

-- Whichever run had made the events so far has made these; of its console the sink took what isn't left in the machine.
pub record GoesOn (made more : List Event) (old new : Machine) (before after : SinkState) : Type 0 where
  pub taken : HasTaken before after
  pub ran : (first : Machine) (start : State) (sink : SinkState) → HasDriven first start made old sink before → HasDriven first start more new sink after

-- the last of these events is no key
pub record EndsInScript (events : List Event) : Type 0 where
  pub front : List Event
  pub last : Event
  pub split : front ++ last ∷ [] ≡ events
  pub drawn : IsKey last → ⊥

-- of so many events of the script one has the console shown after it, whether or not it is due
abbrev pub shown_every : ℕ
shown_every = 4096

-- the console is shown early after such an event, before the next key, and once no more events of the script are made
abbrev pub IsShownEarly : List Event → (made asked : ℕ) → Verdict → Type 0
IsShownEarly events made asked verdict =
    ((made % shown_every ≡ 0) × EndsInScript events) ⊎ ((made ≡ asked) ⊎ (verdict ≢ Running))

-- These bytes of the console stand after the last of the events: they came due with it, or aren't due yet, and are shown early.
abbrev pub ComesLast : (early : Type 0) → State → List Event → (cleared rest : List ℕ) → Type 0
ComesLast early start events cleared rest =
    (ComesDue start events cleared × IsTrue (flush_is_due rest)) ⊎ (early × IsFalse (flush_is_due rest))

-- The events were made, each of them but keys while the machine ran, and then a write of the console's bytes failed.
pub record HasBroken (early : Type 0) (first : Machine) (start : State) (events : List Event) (machine : Machine) (old new : SinkState) : Type 0 where
  pub cleared : List ℕ
  pub stands : Stands machine cleared (run start events)
  pub chain : ReachesFrom first start events machine
  pub came : CameRunning start events
  pub late : ComesLast early start events cleared machine.journal.printed
  pub broke : BreaksOff (after_taking old cleared) new machine.journal.printed

-- whichever run had made the events so far has made these, and then a write failed
pub record Breaks (early : Type 0) (made more : List Event) (old new : Machine) (before after : SinkState) : Type 0 where
  pub broke : (first : Machine) (start : State) (sink : SinkState) → HasDriven first start made old sink before →
      HasBroken early first start more new sink after

-- a live run has made the events up to another, and the sink took the console's bytes
abbrev pub WentOn : (old new : LiveRun) (before after : SinkState) → Type 0
WentOn old new before after = GoesOn (events_made old) (events_made new) old.machine new.machine before after

-- its console is shown early
unfoldable pub MayShow : LiveRun → Type 0
MayShow l = IsShownEarly (events_made l) l.journal.autos l.events l.machine.journal.verdict

-- it has, and then a write failed
abbrev pub BrokeOff : (old new : LiveRun) (before after : SinkState) → Type 0
BrokeOff old new before after = Breaks (MayShow new) (events_made old) (events_made new) old.machine new.machine before after

-- a live run may be driven: the sink may take its console, it may make events, and its keys come by this line
pub record MayDrive (l : LiveRun) (id : TableId) (to : SinkState) : Type 0 where
  pub sink : MayWrite to
  pub on : MayGoOn l
  pub line : l.taker.line ≡ id

-- it has made events, and may make more
pub record Driven (old new : LiveRun) (before after : SinkState) : Type 0 where
  pub went : WentOn old new before after
  pub room : length new.machine.journal.printed < max_printed

-- The keys of its journal are those that were taken, and its other events were drawn. Its line, what was sent there, the number of
-- harts and that of events are as before.
pub record StaysUnderWay (old new : LiveRun) : Type 0 where
  pub way : IsUnderWay new
  pub line : new.taker.line ≡ old.taker.line
  pub all : new.taker.all ≡ old.taker.all
  pub harts : harts_of new.script ≡ harts_of old.script
  pub events : new.events ≡ old.events

-- what driving it answers: it has made events, or did up to a write that failed
pub record Drives {T E : Type 0} (answer : Result T E) (old new : LiveRun) (before after : SinkState) : Type 0 where
  pub on : OnOk answer (Driven old new before after)
  pub broke : OnErr answer (BrokeOff old new before after)
  pub stays : StaysUnderWay old new
