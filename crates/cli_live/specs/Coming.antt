-- When the events of a live run are made: once the machine has ended, keys alone. This project's own.
use Rattle.std.specs.Prelude.{List, [], ◌∷◌}
use Rattle.sv_types.specs.declared.event.Event.{Event}
use Rattle.sv_types.specs.declared.event.Event.TheVariants.{Turn, Beat, Key, Tick, Poke}
use Rattle.sv_types.specs.declared.event.Verdict.{Verdict}
use Rattle.sv_types.specs.declared.event.Verdict.TheVariants.{Running, Shutdown, Stopped}
use Rattle.spec_reference.specs.States.{State}
use Rattle.spec_reference.specs.Run.{step}

abbrev pub IsKey : Event → Type 0
IsKey (Turn hart) = ⊥
IsKey Beat = ⊥
IsKey (Key byte) = Unit {0}
IsKey (Tick ticks) = ⊥
IsKey (Poke gpa value) = ⊥

-- an event may be made where the run stands so
abbrev pub MayCome : Verdict → Event → Type 0
MayCome Running e = Unit {0}
MayCome Shutdown e = IsKey e
MayCome (Stopped rule hart turn) e = IsKey e

-- each of these events was made while the machine ran, but for keys
abbrev pub CameRunning : State → List Event → Type 0
CameRunning r [] = Unit {0}
CameRunning r (e ∷ events) = MayCome r.journal.verdict e × CameRunning (step r e) events
