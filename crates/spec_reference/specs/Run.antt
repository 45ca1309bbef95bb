-- Events, and whole runs: the events one after another. This project's own.
use Rattle.std.specs.Prelude.{List, [], ◌∷◌}
use Rattle.sv_types.specs.declared.event.Event.{Event}
use Rattle.sv_types.specs.declared.event.Event.TheVariants.{Turn, Beat, Key, Tick, Poke}
use Rattle.sv_types.specs.declared.event.Verdict.{Verdict}
use Rattle.sv_types.specs.declared.event.Verdict.TheVariants.{Running, Shutdown, Stopped}
use Rattle.spec_reference.specs.States.{State}
use Rattle.spec_reference.specs.Counting.{count, count_turn, count_beat, count_key, count_tick}
use Rattle.spec_reference.specs.Devices.{beat, poke, key, tick}
use Rattle.spec_reference.specs.Turn.{turn}

-- what an event does while the machine runs
unfoldable pub happen : State → Event → State
happen r (Turn h) = turn (count r count_turn) h
happen r Beat = beat (count r count_beat)
happen r (Key byte) = key (count r count_key) byte
happen r (Tick n) = tick (count r count_tick) n
happen r (Poke gpa value) = poke (count r count_beat) gpa value

-- a machine that has ended stays as it is
unfoldable pub happen_under : Verdict → State → Event → State
happen_under Running r event = happen r event
happen_under Shutdown r event = r
happen_under (Stopped rule hart at) r event = r

unfoldable pub step : State → Event → State
step r event = happen_under r.journal.verdict r event

-- shut down or stopped
abbrev pub HasEnded : Verdict → Type 0
HasEnded Running = ⊥
HasEnded Shutdown = Unit {0}
HasEnded (Stopped rule hart at) = Unit {0}

abbrev pub run : State → List Event → State
run r [] = r
run r (event ∷ events) = run (step r event) events
