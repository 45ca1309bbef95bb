-- The timer of a hart that may not be there. This project's own.
use Rattle.std.specs.Prelude.{ℕ, Option, Some, None}
use Rattle.sv_types.specs.Clock.{latest}
use Rattle.spec_reference.specs.declared.saved_machine.harts.SavedHart.{SavedHart}

abbrev pub timer_in : Option SavedHart → ℕ
timer_in None = latest
timer_in (Some h) = h.timer
