-- How many events were made, by the counts of a machine. This project's own.
use Rattle.std.specs.Prelude.{◌≡◌, ℕ, ◌+◌, List}
use Rattle.sv_types.specs.declared.event.Counts.{Counts}
use Rattle.sv_types.specs.declared.event.Event.{Event}
use Rattle.spec_reference.specs.Run.{run}
use Rattle.spec_reference.specs.States.{State}
use Rattle.laws_resume.specs.Continues.{draw_count}

-- turns, beats, keys and ticks
abbrev pub events_counted : Counts → ℕ
events_counted c = c.turns + (c.beats + (c.keys + c.ticks))

-- they rise by the events that are made while the machine runs
abbrev pub CountedLaw : Type 0
CountedLaw = (s : State) (events : List Event) → events_counted (run s events).journal.counts ≡ events_counted s.journal.counts + draw_count s events
