-- The guarantee holds all through a survey. This project's own.
use Rattle.std.specs.Prelude.{◌≡◌, ℕ, true, List}
use Rattle.spec_processor.specs.Bytes.{page_bytes}
use Rattle.sv_types.specs.declared.event.Event.{Event}
use Rattle.spec_reference.specs.Start.{IsStart}
use Rattle.spec_reference.specs.States.{State, is_protected}
use Rattle.laws_simulation.specs.Passing.{survey_step, survey}
use Rattle.laws_guarantee.specs.Guarded.{IsGuarded}
use Rattle.laws_guarantee.specs.Reached.{IsReached, HasMeasuredText}

-- each state of a survey is one that the guarantee is about,
abbrev pub SurveyReachedLaw : Type 0
SurveyReachedLaw = (s : State) (events : List Event) → IsStart s → HasMeasuredText s → IsReached s (survey s events)

-- so in each all its laws hold, whatever event is next,
abbrev pub SurveyGuardedLaw : Type 0
SurveyGuardedLaw = (s : State) (events : List Event) → IsStart s → HasMeasuredText s → IsGuarded s (survey s events)

-- and over the event and the pass that follows it no byte of a protected page changes
abbrev pub KeepsProtected : State → Event → Type 0
KeepsProtected r e = (page : ℕ) → is_protected r page ≡ true → page_bytes (survey_step r e).ram page ≡ page_bytes r.ram page

abbrev pub SurveyBytesLaw : Type 0
SurveyBytesLaw = (s : State) (events : List Event) (e : Event) → IsStart s → HasMeasuredText s → KeepsProtected (survey s events) e
