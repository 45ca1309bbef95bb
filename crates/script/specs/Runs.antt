-- Events that come several times in a row.
use Rattle.std.specs.Prelude.{◌≡◌, ℕ, zero, suc, ◌+◌, ◌++◌, replicate, Some}
use Rattle.sv_types.specs.declared.event.Event.{Event}
use Rattle.sv_types.specs.Schedule.{Schedule, first_events, next_event, after_event}
use Rattle.script.specs.declared.event_run.EventRun.{EventRun}
use Rattle.script.specs.declared.said.Said.{Said}
use Rattle.script.specs.declared.said.Said.TheVariants.{This, Drawn}

-- the first events of a schedule are those of a run, and after them stand those of the schedule that is left
abbrev pub BeginsWith : (old : Schedule) → EventRun → (new : Schedule) → Type 0
BeginsWith old run new = (later : ℕ) → first_events (run.count + later) old ≡ replicate run.count run.event ++ first_events later new

-- the same event is drawn so often
abbrev pub Draws : ℕ → Event → (old new : Schedule) → Type 0
Draws zero event old new = new ≡ old
Draws (suc n) event old new = (mid : Schedule) × (Draws n event old mid × ((Some event ≡ next_event mid) × (new ≡ after_event mid)))

-- what is said comes so often; what is drawn comes as often as the same event is drawn
abbrev pub SaysRun : Said → (most : ℕ) → (old : Schedule) → EventRun → (new : Schedule) → Type 0
SaysRun (This event) most old run new = (run ≡ record { event = event; count = most }) × (new ≡ old)
SaysRun Drawn most old run new = Draws run.count run.event old new
