-- The events that a run still makes. This project's own.
use Rattle.std.specs.Prelude.{ℕ, ◌+◌, List, [], ◌++◌, replicate, Option, Some, None, option_map}
use Rattle.sv_types.specs.Schedule.{Schedule, first_events}
use Rattle.sv_types.specs.declared.event.Event.{Event}
use Rattle.script.specs.declared.event_run.EventRun.{EventRun}

-- the events at hand, and after them the first ones of what is left of a schedule; none where there are none at hand
abbrev pub upcoming : Option EventRun → (left : ℕ) → Schedule → List Event
upcoming None left schedule = []
upcoming (Some row) left schedule = replicate row.count row.event ++ first_events left schedule

-- they are no more than these
abbrev pub most_upcoming : Option EventRun → (left : ℕ) → ℕ
most_upcoming None left = 0
most_upcoming (Some row) left = row.count + left

-- the next one
abbrev pub next_of : Option EventRun → Option Event
next_of row = option_map (λ (r : EventRun). r.event) row
