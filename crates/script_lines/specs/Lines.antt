-- The lines of a script: each is an event, and how often it comes. This project's own.
use Rattle.std.specs.Prelude.{◌≡◌, ℕ, ◌+◌, List, ◌++◌, replicate, flat_map, Option, Some, None, codes}
use Rattle.std.specs.Fmt.{decimal}
use Rattle.sv_types.specs.Output.{address_text, line_end}
use Rattle.sv_types.specs.declared.event.Event.{Event}
use Rattle.sv_types.specs.declared.event.Event.TheVariants.{Turn, Beat, Key, Tick, Poke}
use Rattle.script.specs.declared.event_run.EventRun.{EventRun}

-- ---- events

abbrev pub events_of_line : EventRun → List Event
events_of_line line = replicate line.count line.event

abbrev pub events_of : List EventRun → List Event
events_of lines = flat_map events_of_line lines

-- one line says what two did
abbrev pub Joins : (first second : EventRun) → Option EventRun → Type 0
Joins first second None = Unit {0}
Joins first second (Some both) = (both.event ≡ first.event) × (first.event ≡ second.event) × (both.count ≡ first.count + second.count)

-- ---- text

-- a key, ticks and a write of an attacker's device come once a line
unfoldable pub event_text : (times : ℕ) → Event → List ℕ
event_text times (Turn hart) = codes "turn " ++ (decimal hart ++ (codes " " ++ (decimal times ++ line_end)))
event_text times Beat = codes "beat " ++ (decimal times ++ line_end)
event_text times (Key byte) = codes "key " ++ (decimal byte ++ line_end)
event_text times (Tick ticks) = codes "tick " ++ (decimal ticks ++ line_end)
event_text times (Poke gpa value) = codes "poke " ++ (address_text gpa ++ (codes " " ++ (address_text value ++ line_end)))

abbrev pub line_text : EventRun → List ℕ
line_text line = event_text line.count line.event

abbrev pub text_of : List EventRun → List ℕ
text_of lines = flat_map line_text lines
