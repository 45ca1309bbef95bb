-- Turns of one hart in a row, each of which carries out an instruction: what they make of the machine. This project's own.
use Rattle.std.specs.Prelude.{◌≡◌, ℕ, zero, suc, ◌+◌, ◌<◌, Bool, true, false, not, List, length, None}
use Rattle.spec_processor.specs.Hardware.{Core}
use Rattle.spec_processor.specs.HardwareAttempt.{attempt}
use Rattle.spec_processor.specs.HypervisorRegisters.{pending}
use Rattle.spec_processor.specs.Regions.{Region}
use Rattle.spec_processor.specs.declared.cause.Cause.{Cause}
use Rattle.spec_processor.specs.declared.exit.ExitCause.{ExitCause}
use Rattle.spec_hardware.specs.Steps.{WithTables}
use Rattle.spec_hardware.specs.declared.exits.ExitAnswer.{ExitAnswer}
use Rattle.spec_hardware.specs.declared.exits.ExitAnswer.TheVariants.{Traps}
use Rattle.sv_types.specs.declared.event.Event.{Event}
use Rattle.sv_types.specs.declared.event.Event.TheVariants.{Turn, Beat, Key, Tick, Poke}
use Rattle.sv_types.specs.declared.event.Verdict.TheVariants.{Running}
use Rattle.spec_reference.specs.Counting.{with_count, count_turn, count_retired}
use Rattle.spec_reference.specs.Devices.{lines_at}
use Rattle.spec_reference.specs.States.{Journal}
use Rattle.spec_hardware.specs.Machine.{Machine, HwHart, update, with_core}
use Rattle.hw_fast_path.specs.Ends.{with_leaving}
use Rattle.hw_fast_path.specs.Batches.{LeavesBy, RetiresThrough}
use Rattle.hw_fast_path.specs.declared.leaving.Leaving.{Leaving}
use Rattle.hw_fast_path.specs.declared.leaving.Leaving.TheVariants.{Stays, Calls, Returns}
use Rattle.hw_platform.specs.Attempts.{hart_in}
use Rattle.hw_platform.specs.Batches.{AreFree}
use Rattle.secvisor_core.specs.Serving.{answered_exit}
use Rattle.machine.specs.Turns.{Attempts}

-- no hart has one, where that is known
abbrev pub AreFreeWhere : (known : Bool) → List HwHart → Type 0
AreFreeWhere true harts = AreFree harts
AreFreeWhere false harts = Unit {0}

-- an event by which no hart gets a reservation. In a turn a stopped hart gets none
abbrev pub reserves_nothing : Machine → Event → Bool
reserves_nothing m (Turn h) = not (hart_in m.harts h).started
reserves_nothing m Beat = true
reserves_nothing m (Key byte) = true
reserves_nothing m (Tick n) = true
reserves_nothing m (Poke gpa value) = true

-- so many turns counted, each with its instruction
abbrev pub counted_batch : ℕ → Journal → Journal
counted_batch zero j = j
counted_batch (suc n) j = with_count count_retired (with_count count_turn (counted_batch n j))

-- the machine whose hart h has made so many turns, which left this region and this core
abbrev pub after_batch : Machine → ℕ → ℕ → Region → Core → Machine
after_batch m h n region core = record m {
  region = region;
  harts = update m.harts h (with_core core);
  journal = counted_batch n m.journal;
  attempts = m.attempts + n;
}

-- the same, the attempt after these turns counted too where it was made
abbrev pub after_attempts : Leaving → Machine → ℕ → ℕ → Region → Core → Machine
after_attempts left m h n region core = record (after_batch m h n region core) { attempts = m.attempts + with_leaving left n }

-- hart h makes attempts in its turns, and takes no interrupt
pub record IsQuietAt (m : Machine) (h : ℕ) : Type 0 where
  pub running : m.journal.verdict ≡ Running
  pub below : h < length m.harts
  pub attempts : Attempts m h
  pub quiet : pending (hart_in m.harts h).core.hregs (hart_in m.harts h).core.csrs (lines_at m.devices h) ≡ None

-- the same, and no write meets a reservation
pub record MayBatch (m : Machine) (h : ℕ) : Type 0 where
  pub running : m.journal.verdict ≡ Running
  pub below : h < length m.harts
  pub attempts : Attempts m h
  pub free : AreFree m.harts
  pub quiet : pending (hart_in m.harts h).core.hregs (hart_in m.harts h).core.csrs (lines_at m.devices h) ≡ None

-- so many turns of hart h were made, and an attempt after them, where that left the guest
pub record EndsBatch (left : Leaving) (n : ℕ) (m : Machine) (h : ℕ) (after : Machine) : Type 0 where
  pub region : Region
  pub last : Core
  pub core : Core
  pub retires : RetiresThrough n m.region (hart_in m.harts h).core (lines_at m.devices h) region last
  pub leaves : LeavesBy left (attempt region last (lines_at m.devices h)) region last core
  pub same : after ≡ after_attempts left m h n region core

-- the turn after a row, counted; its attempt was counted as it was made
abbrev pub counted_leaving : Machine → Machine
counted_leaving m = record m { journal = with_count count_turn m.journal }

-- what SecVisor answers ECALL of user mode
abbrev pub call_answer : ExitAnswer
call_answer = Traps (ExitCause.Exception Cause.UserCall) 0

-- what SecVisor answers the turn after a row, where it was made
abbrev pub AnswersLeaving : Leaving → Machine → ℕ → Machine → Type 0
AnswersLeaving Stays m h after = after ≡ m
AnswersLeaving Calls m h after = WithTables (counted_leaving m) (answered_exit (counted_leaving m) h call_answer) after
AnswersLeaving Returns m h after = WithTables (counted_leaving m) (answered_exit (counted_leaving m) h ExitAnswer.Returns) after
