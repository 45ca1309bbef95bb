-- The events of one burst, as a table. This project's own.
use Rattle.std.specs.Prelude.{ℕ, suc, List, map}
use Rattle.sv_types.specs.declared.event.Event.{Event}
use Rattle.sv_types.specs.ApprovedPages.{numbers_from}
use Rattle.sv_types.specs.Schedule.{Schedule, Bursts, drawn_hart, event_among, burst_length, random_at}

-- event i of a hart's burst that a number x drew
abbrev pub burst_event : (hart x i : ℕ) → Event
burst_event hart x i = event_among hart (random_at x (suc i))

-- all events of that burst: they are of one hart
abbrev pub burst_events : (harts x : ℕ) → List Event
burst_events harts x = map (burst_event (drawn_hart harts x) x) (numbers_from 0 (burst_length x))

-- what is left after it
abbrev pub after_burst : (harts x : ℕ) → Schedule
after_burst harts x = Bursts harts (drawn_hart harts x) 0 (random_at x (burst_length x))
