-- The turns of a hart by the order of events alone. This project's own.
use Rattle.std.specs.Prelude.{ℕ, ◌-◌, Bool, if◌then◌else◌, List, Option, Some, slice_get}
use Rattle.sv_types.specs.declared.event.Event.{Event}
use Rattle.debug_session.specs.Runs.{is_step, turning}

abbrev pub is_turn : (hart : ℕ) → Option Event → Bool
is_turn hart event = is_step (Some hart) (turning event)

abbrev pub turns_at : List Event → (hart : ℕ) → ℕ → Bool
turns_at events hart n = is_turn hart (slice_get events n)

-- the last turn after some more equal events, by their number
abbrev pub later_turn : (last : Option ℕ) → Event → (hart seen : ℕ) → Option ℕ
later_turn last event hart seen = if is_turn hart (Some event) then Some (seen - 1) else last
