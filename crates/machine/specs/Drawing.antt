-- The events of a run that are still to be made.
use Rattle.std.specs.Prelude.{◌≡◌, ◌==◌, ◌&&◌, ◌<◌, ℕ, ◌+◌, Bool, List, ◌++◌, replicate}
use Rattle.sv_types.specs.declared.event.Event.{Event}
use Rattle.sv_types.specs.Schedule.{Schedule, first_events}
use Rattle.script.specs.declared.event_run.EventRun.{EventRun}
use Rattle.machine.specs.declared.drawing.Drawing.{Drawing}

-- those of the row that was drawn, and those that the source still has
abbrev pub events_left : {S : Type 0} → (schedule : S → Schedule) → Drawing S → List Event
events_left schedule d = replicate d.batch.count d.batch.event ++ first_events d.undrawn (schedule d.source)

-- the same, where so many more are to be drawn after them
abbrev pub events_with : {S : Type 0} → (later : ℕ) → (schedule : S → Schedule) → Drawing S → List Event
events_with later schedule d = replicate d.batch.count d.batch.event ++ first_events (d.undrawn + later) (schedule d.source)

-- no row was drawn, and no event is to be drawn
abbrev pub is_used_up : {S : Type 0} → Drawing S → Bool
is_used_up d = d.batch.count == 0 && d.undrawn == 0

-- how many they are at most
abbrev pub count_left : {S : Type 0} → Drawing S → ℕ
count_left d = d.batch.count + d.undrawn

-- a row of equal events stands at the head of the same events
pub record IsAtHand {S : Type 0} (schedule : S → Schedule) (old new : Drawing S) (batch : EventRun) : Type 0 where
  pub row_is : batch ≡ new.batch
  pub some : 0 < batch.count
  pub left : events_left schedule new ≡ events_left schedule old
  pub count : count_left new ≡ count_left old
