-- A live run between two events: what it has made so far, and what holds of it.
use Rattle.std.specs.Prelude.{◌≡◌, ◌<◌, ◌≤◌, ◌+◌, ◌-◌, ℕ, List, length}
use Rattle.sv_types.specs.Limits.{max_printed, max_events}
use Rattle.sv_types.specs.declared.event.Event.{Event}
use Rattle.sv_types.specs.Schedule.{Schedule, Listed, Rounds, Weave, Auto, Bursts, random_at}
use Rattle.spec_reference.specs.Counting.{CountsAtMost}
use Rattle.spec_hardware.specs.Machine.{Machine}
use Rattle.machine.specs.Limits.{max_counts}
use Rattle.live_keys.specs.Line.{max_keys}
use Rattle.live_keys.specs.Journal.{events_of, key_bytes, HasRoom}
use Rattle.live_keys.specs.declared.journal.Journal.{Journal}
use Rattle.machine.specs.Standing.{HasState}
use Rattle.cli_live.specs.declared.live_run.LiveRun.{LiveRun}

-- the number of harts for which a script draws its events
abbrev pub harts_of : Schedule → ℕ
harts_of (Listed events) = 0
harts_of (Rounds harts hart) = 0
harts_of (Weave place) = 0
harts_of (Auto harts number) = harts
harts_of (Bursts harts hart left number) = 0

-- the script has drawn so many events of `auto(0, harts)`
abbrev pub HasDrawn : ℕ → Schedule → Type 0
HasDrawn count script = script ≡ Auto (harts_of script) (random_at 0 count)

-- the events that were made
abbrev pub events_made : LiveRun → List Event
events_made l = events_of (harts_of l.script) l.journal

-- how many events a journal has
abbrev pub count_of : Journal → ℕ
count_of journal = journal.autos + length (key_bytes journal)

-- the keys of the journal are those that were taken, the other events those that were drawn, and the machine has counted no more
pub record IsUnderWay (l : LiveRun) : Type 0 where
  pub keys : key_bytes l.journal ≡ l.taker.bytes
  pub few : length l.taker.bytes ≤ max_keys
  pub places : HasRoom l.journal
  pub drawn : HasDrawn l.journal.autos l.script
  pub state : HasState l.machine
  pub counts : CountsAtMost (count_of l.journal) l.machine.journal.counts

-- an event may be made: it can be counted, and the console has room for a byte
pub record MayStep (machine : Machine) : Type 0 where
  pub state : HasState machine
  pub counts : CountsAtMost (max_counts - 1) machine.journal.counts
  pub room : length machine.journal.printed < max_printed

-- events may be made
pub record MayGoOn (l : LiveRun) : Type 0 where
  pub way : IsUnderWay l
  pub room : length l.machine.journal.printed < max_printed

-- no more events of the script were made than are asked for, and these aren't too many
pub record MakesFew (l : LiveRun) : Type 0 where
  pub events : l.events ≤ max_events
  pub autos : l.journal.autos ≤ l.events
