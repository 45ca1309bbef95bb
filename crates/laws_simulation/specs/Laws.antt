-- The laws of SecVisor's machine alongside the reference machine. This project's own.
use Rattle.std.specs.Prelude.{◌≡◌, ℕ, true, List, Some, slice_get}
use Rattle.sv_types.specs.declared.event.Event.{Event}
use Rattle.sv_types.specs.declared.event.Event.TheVariants.{Turn}
use Rattle.sv_types.specs.declared.event.Verdict.TheVariants.{Running}
use Rattle.spec_processor.specs.declared.outcome.Outcome.{Outcome}
use Rattle.spec_processor.specs.declared.exit.Exit.{Exit}
use Rattle.spec_reference.specs.States.{State, Hart}
use Rattle.spec_reference.specs.Counting.{count, count_turn}
use Rattle.spec_reference.specs.Run.{step, run}
use Rattle.spec_reference.specs.Turn.{leave_entry, outside_entry}
use Rattle.spec_hardware.specs.Machine.{Machine, HwHart, with_count_raised, after_attempt, after_quiet_attempt}
use Rattle.spec_hardware.specs.StandsFor.{StandsFor}
use Rattle.spec_hardware.specs.Served.{serve_exit}
use Rattle.laws_simulation.specs.Agree.{IsNotLoading}
use Rattle.spec_hardware.specs.HardwareEvent.{IsEvent, attempt_of, sent_again, hart_again}
use Rattle.spec_hardware.specs.HwHarts.{asks_again}
use Rattle.spec_hardware.specs.Steps.{AreTables, IsStep}
use Rattle.spec_hardware.specs.Reaches.{Cleared, IsNew, Reaches, StepsThrough}

-- ---- attempts

-- hart h of the machine and of the state makes an attempt: it is started, and no load of it is under way
pub record MakesAttempt (m : Machine) (r : State) (h : ℕ) (hw : HwHart) (hart : Hart) : Type 0 where
  pub stands : StandsFor m r
  pub hw_is : slice_get m.harts h ≡ Some hw
  pub hart_is : slice_get r.harts h ≡ Some hart
  pub started : hart.started ≡ true
  pub free : IsNotLoading h r.loading

abbrev pub IsQuiet : Outcome → Type 0
IsQuiet (Outcome.Retired wrote) = Unit {0}
IsQuiet Outcome.GuestTrap = Unit {0}
IsQuiet (Outcome.Exit exit) = ⊥

-- an attempt without an exit is the step
abbrev pub QuietLaw : Type 0
QuietLaw = (m : Machine) (r : State) (h : ℕ) (hw : HwHart) (hart : Hart) → MakesAttempt m r h hw hart → r.journal.verdict ≡ Running
    → IsQuiet (attempt_of m h hw).outcome → StandsFor (after_quiet_attempt (with_count_raised m count_turn) h (attempt_of m h hw)) (step r (Turn h))

-- an attempt with an exit leaves a machine that stands for the same state, and the step is what the exit asks for
abbrev pub ExitLaw : Type 0
ExitLaw = (m : Machine) (r : State) (h : ℕ) (hw : HwHart) (hart : Hart) (exit : Exit) → MakesAttempt m r h hw hart → r.journal.verdict ≡ Running
    → (attempt_of m h hw).outcome ≡ Outcome.Exit exit
    → StandsFor (after_attempt m h (attempt_of m h hw)) r × (step r (Turn h) ≡ serve_exit (count r count_turn) h hart exit)

-- a hart that SecVisor sends to attempt again has left its entry, and makes an attempt there; and the step is that of the state
-- where it has left it
abbrev pub AgainLaw : Type 0
AgainLaw = (m : Machine) (r : State) (h : ℕ) (hw : HwHart) (hart : Hart) → MakesAttempt m r h hw hart → r.journal.verdict ≡ Running
    → asks_again m.region.ram m.rules hw (attempt_of m h hw).outcome ≡ true
    → MakesAttempt (sent_again m h hw) (leave_entry r h hart) h (hart_again m h hw) (outside_entry hart)
    × (step r (Turn h) ≡ step (leave_entry r h hart) (Turn h))

-- ---- answers

-- tables that were there are tables still where no protection changes
abbrev pub TablesLaw : Type 0
TablesLaw = (m after : Machine) (r : State) → StandsFor m r → after.protections ≡ m.protections → AreTables m after m.region.tables

-- the machine after an event stands for the state after it, and changed no more than the event may change
abbrev pub StepLaw : Type 0
StepLaw = (m after : Machine) (r : State) (e : Event) → StandsFor m r → IsStep m e after → StandsFor after (step r e) × IsEvent m e after

-- ---- runs

-- a machine whose printed bytes were taken away stands for the same state
abbrev pub ClearLaw : Type 0
ClearLaw = (m after : Machine) (r : State) → StandsFor m r → Cleared m after → StandsFor after r

-- a machine that steps through events from its start reaches the machine that it comes to, which stands for the run
abbrev pub ReachesLaw : Type 0
ReachesLaw = (m after : Machine) (r : State) (events : List Event) → IsNew m r → StepsThrough m events after
    → Reaches m r events after × StandsFor after (run r events)
