-- What a turn does besides its attempt. This project's own.
use Rattle.std.specs.Prelude.{◌≡◌, ℕ, Bool, true, false, Option, Some, None}
use Rattle.spec_processor.specs.declared.exit.Exit.{Exit}
use Rattle.spec_processor.specs.declared.outcome.Outcome.{Outcome}
use Rattle.spec_processor.specs.declared.mode.Mode.TheVariants.{Kernel}
use Rattle.spec_reference.specs.Counting.{with_count, count_retired, count_trap}
use Rattle.spec_reference.specs.Devices.{lines_at}
use Rattle.spec_hardware.specs.HardwareEvent.{attempt_of, is_loading, left_by, sent_again}
use Rattle.spec_hardware.specs.HwExits.{served_exit}
use Rattle.spec_hardware.specs.HwHarts.{asks_again}
use Rattle.spec_hardware.specs.Machine.{Machine}
use Rattle.spec_hardware.specs.Served.{is_again}
use Rattle.spec_hardware.specs.Steps.{AttemptServed, WithTables}
use Rattle.hw_platform.specs.Attempts.{hart_in, IsReady}
use Rattle.secvisor_core.specs.Serving.{asked_of, left_entry}

-- the exit that an attempt gives
abbrev pub exit_of : Outcome → Option Exit
exit_of (Outcome.Retired wrote) = None
exit_of Outcome.GuestTrap = None
exit_of (Outcome.Exit exit) = Some exit

-- an attempt without an exit is counted
abbrev pub quietly_counted : Outcome → Machine → Machine
quietly_counted (Outcome.Retired wrote) m = record m { journal = with_count count_retired m.journal }
quietly_counted Outcome.GuestTrap m = record m { journal = with_count (count_trap Kernel) m.journal }
quietly_counted (Outcome.Exit exit) m = m

-- what follows an attempt: a count, or SecVisor's answer
abbrev pub Finished : Outcome → Machine → ℕ → Machine → Type 0
Finished (Outcome.Retired wrote) m h after = after ≡ record m { journal = with_count count_retired m.journal }
Finished Outcome.GuestTrap m h after = after ≡ record m { journal = with_count (count_trap Kernel) m.journal }
Finished (Outcome.Exit exit) m h after = WithTables m (served_exit m h exit) after

-- ---- attempts

-- hart h makes an attempt in its turn
pub record Attempts (m : Machine) (h : ℕ) : Type 0 where
  pub started : (hart_in m.harts h).started ≡ true
  pub free : is_loading m.loading h ≡ false

-- hart h may make an attempt now
abbrev pub IsReadyAt : Machine → ℕ → Type 0
IsReadyAt m h = IsReady m.region (hart_in m.harts h) (lines_at m.devices h)

-- hart h may make an attempt, and a second one where SecVisor sends it to attempt again. An exit is answered as it was asked
-- for before the attempt
pub record IsReadyTwice (m : Machine) (h : ℕ) : Type 0 where
  pub first : IsReadyAt m h
  pub asked : (exit : Exit) → (attempt_of m h (hart_in m.harts h)).outcome ≡ Outcome.Exit exit
      → asked_of (left_by m h (hart_in m.harts h)) h exit ≡ asked_of m h exit
  pub second : asks_again m.region.ram m.rules (hart_in m.harts h) (attempt_of m h (hart_in m.harts h)).outcome ≡ true
      → IsReadyAt (sent_again m h (hart_in m.harts h)) h

-- where hart h makes an attempt in its turn, it may
abbrev pub MayTurn : Machine → ℕ → Type 0
MayTurn m h = Attempts m h → IsReadyTwice m h

-- ---- what follows a first attempt

-- SecVisor's answer to an exit, or a second attempt of the hart out of its entry
abbrev pub ExitServed : (again : Bool) → Machine → ℕ → Exit → Machine → Type 0
ExitServed false m h exit after = WithTables m (served_exit m h exit) after
ExitServed true m h exit after = AttemptServed (left_entry m h) h (hart_in (left_entry m h).harts h) after

-- a count, or what an exit asks for
abbrev pub Concluded : Outcome → Machine → ℕ → Machine → Type 0
Concluded (Outcome.Retired wrote) m h after = after ≡ record m { journal = with_count count_retired m.journal }
Concluded Outcome.GuestTrap m h after = after ≡ record m { journal = with_count (count_trap Kernel) m.journal }
Concluded (Outcome.Exit exit) m h after = ExitServed (is_again (asked_of m h exit)) m h exit after
