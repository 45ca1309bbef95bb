-- The law of attempts: one attempt of the hardware alongside one turn of the reference machine. This project's own.
use Rattle.std.specs.Prelude.{◌≡◌, ℕ, ◌+◌, length, true, false, ◌==◌, Option, Some, None, slice_get}
use Rattle.spec_processor.specs.Hardware.{Attempted, Core, leave, with_region}
use Rattle.spec_processor.specs.HardwareAttempt.{attempt}
use Rattle.spec_processor.specs.HypervisorRegisters.{HypervisorRegisters}
use Rattle.spec_processor.specs.Regions.{Region}
use Rattle.sv_types.specs.Views.{with_ram}
use Rattle.spec_processor.specs.declared.outcome.Outcome.{Outcome}
use Rattle.spec_reference.specs.States.{State, Hart, Loading}
use Rattle.spec_reference.specs.Devices.{lines_at}
use Rattle.spec_reference.specs.Turn.{turn}
use Rattle.spec_hardware.specs.Machine.{after_quiet_attempt}
use Rattle.spec_hardware.specs.StandsFor.{Unseen, IsRightFor, machine_of, hw_core}
use Rattle.spec_reference.specs.Soundness.{IsSound}
use Rattle.spec_hardware.specs.Served.{serve_exit}

-- hart h of a state that a machine stands for, and the registers that its exits write
pub record IsAt (o : Unseen) (r : State) (h : ℕ) (hart : Hart) (c : HypervisorRegisters) : Type 0 where
  pub right : IsRightFor o r
  pub sound : IsSound r
  pub found : slice_get r.harts h ≡ Some hart
  pub exits : slice_get o.exits h ≡ Some c
  pub started : hart.started ≡ true

abbrev pub region_at : Unseen → State → Region
region_at o r = with_ram o.tables r.ram

abbrev pub core_at : Unseen → HypervisorRegisters → Hart → Core
core_at o c hart = hw_core (length o.tables) c hart

-- one attempt more was made
abbrev pub one_attempt_more : Unseen → Unseen
one_attempt_more o = record o { attempts = o.attempts + 1 }

-- the machine after an attempt stands for a state
pub record QuietTo (o : Unseen) (r : State) (h : ℕ) (a : Attempted) (next : State) : Type 0 where
  pub same : after_quiet_attempt (machine_of o r) h a ≡ machine_of (one_attempt_more o) next
  pub right : IsRightFor (one_attempt_more o) next

-- without an exit the machine after the attempt stands for `next`; with one it is as before but for the registers that the
-- exit wrote, and `next` is what SecVisor's answer makes
abbrev pub AgreesBy : Outcome → Unseen → State → ℕ → Hart → HypervisorRegisters → Attempted → State → Type 0
AgreesBy (Outcome.Retired wrote) o r h hart c a next = QuietTo o r h a next
AgreesBy Outcome.GuestTrap o r h hart c a next = QuietTo o r h a next
AgreesBy (Outcome.Exit exit) o r h hart c a next =
    (a ≡ with_region (region_at o r) (leave (core_at o c hart) exit)) × (next ≡ serve_exit r h hart exit)

abbrev pub Agrees : Unseen → State → ℕ → Hart → HypervisorRegisters → Attempted → State → Type 0
Agrees o r h hart c a next = AgreesBy a.outcome o r h hart c a next

-- no load under way is the hart's
abbrev pub IsNotLoading : ℕ → Option Loading → Type 0
IsNotLoading h None = Unit {0}
IsNotLoading h (Some load) = (load.hart == h) ≡ false

-- an attempt of a started hart without a load is the reference machine's turn
abbrev pub AttemptLaw : Type 0
AttemptLaw = (o : Unseen) (r : State) (h : ℕ) (hart : Hart) (c : HypervisorRegisters) → IsAt o r h hart c → IsNotLoading h r.loading
    → Agrees o r h hart c (attempt (region_at o r) (core_at o c hart) (lines_at r.devices h)) (turn r h)
