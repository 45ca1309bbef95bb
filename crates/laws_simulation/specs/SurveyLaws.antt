-- What holds of a survey: its states are sound, as those of a run are; a pass changes nothing but a pc; and a survey that passes
-- over nothing is the run. This project's own.
use Rattle.std.specs.Prelude.{◌≡◌, ℕ, List, ◌∷◌, ◌++◌, Some, slice_get}
use Rattle.sv_types.specs.declared.event.Event.{Event}
use Rattle.sv_types.specs.declared.event.Rule.TheVariants.{Entry, Write}
use Rattle.sv_types.specs.declared.event.Verdict.{Verdict}
use Rattle.sv_types.specs.declared.event.Verdict.TheVariants.{Running, Shutdown, Stopped}
use Rattle.spec_processor.specs.Effects.{next_pc}
use Rattle.spec_reference.specs.Run.{run, step}
use Rattle.spec_reference.specs.Soundness.{IsSound}
use Rattle.spec_reference.specs.Start.{IsStart}
use Rattle.spec_reference.specs.States.{State, Hart}
use Rattle.laws_simulation.specs.StateLaws.{HasOrigins}
use Rattle.laws_simulation.specs.Passing.{passed_over, survey}

-- ---- a pass

-- in no hart anything but the pc changes,
abbrev pub OnlyPcsMove : State → State → Type 0
OnlyPcsMove r next = (h : ℕ) (before after : Hart) → slice_get r.harts h ≡ Some before → slice_get next.harts h ≡ Some after →
    after ≡ record before { pc = after.pc }

-- and besides the harts nothing but the verdict
pub record ChangesOnlyPcs (r next : State) : Type 0 where
  pub harts : OnlyPcsMove r next
  pub rest : record next { harts = r.harts; journal = record next.journal { verdict = r.journal.verdict } } ≡ r

abbrev pub PassLaw : Type 0
PassLaw = (r : State) → ChangesOnlyPcs r (passed_over r)

-- where a write stopped the machine its hart moves on, and the machine runs
pub record MovesOn (r next : State) (h : ℕ) (hart : Hart) : Type 0 where
  pub running : next.journal.verdict ≡ Running
  pub moved : slice_get next.harts h ≡ Some (record hart { pc = next_pc hart.pc })

abbrev pub MovesOnLaw : Type 0
MovesOnLaw = (r : State) (pc gpa h turn : ℕ) (hart : Hart) → r.journal.verdict ≡ Stopped (Write pc gpa) h turn → slice_get r.harts h ≡ Some hart →
    MovesOn r (passed_over r) h hart

-- a sound state stays sound over it
abbrev pub PassSoundLaw : Type 0
PassSoundLaw = (r : State) → IsSound r → IsSound (passed_over r)

-- ---- a survey

-- a state that a survey reaches from a start: it is sound, and its approved pages come from the start or from loaded modules
pub record IsSurveyed (s r : State) : Type 0 where
  pub sound : IsSound r
  pub origins : HasOrigins s r

abbrev pub SurveyedLaw : Type 0
SurveyedLaw = (s : State) (events : List Event) → IsStart s → IsSurveyed s (survey s events)

-- the machine wasn't stopped by a write
abbrev pub IsNoWrite : Verdict → Type 0
IsNoWrite Running = Unit {0}
IsNoWrite Shutdown = Unit {0}
IsNoWrite (Stopped (Entry target) h turn) = Unit {0}
IsNoWrite (Stopped (Write pc gpa) h turn) = ⊥

-- where no write stops the run, a survey of the same events is that run
abbrev pub SameRunLaw : Type 0
SameRunLaw = (r : State) (events : List Event) → IsNoWrite (run r events).journal.verdict → survey r events ≡ run r events

-- A survey is a chain: up to where a write stops it, it is the run; that write is passed over; and from there on it is a survey again
abbrev pub ChainLaw : Type 0
ChainLaw = (r : State) (front back : List Event) (e : Event) → IsNoWrite (run r front).journal.verdict →
    survey r (front ++ e ∷ back) ≡ survey (passed_over (step (run r front) e)) back
