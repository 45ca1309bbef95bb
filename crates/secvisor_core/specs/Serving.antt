-- What SecVisor's answers ask for, and what they make of a machine. This project's own.
use Rattle.std.specs.Prelude.{◌≡◌, ◌<◌, ◌%◌, ℕ, List, length, IsTrue}
use Rattle.sv_types.specs.Limits.{max_printed}
use Rattle.sv_types.specs.Policies.{rules_within}
use Rattle.spec_processor.specs.Bytes.{instruction_size}
use Rattle.spec_processor.specs.declared.exit.Exit.{Exit}
use Rattle.spec_reference.specs.Counting.{MayCount}
use Rattle.spec_hardware.specs.HwExits.{hw_exit_answered}
use Rattle.spec_hardware.specs.HwHarts.{hw_outside, hw_seen, with_hw}
use Rattle.spec_hardware.specs.Machine.{HwHart, Machine}
use Rattle.spec_hardware.specs.Served.{exit_answer}
use Rattle.spec_hardware.specs.Steps.{WithTables}
use Rattle.spec_hardware.specs.declared.exits.ExitAnswer.{ExitAnswer}
use Rattle.module_gate.specs.Conditions.{AreGuarded}
use Rattle.hw_platform.specs.Attempts.{hart_in}

-- host memory and protections stay
pub record HasPagesOf (before after : Machine) : Type 0 where
  pub region : after.region ≡ before.region
  pub protections : after.protections ≡ before.protections

-- what an answer about modules relies on
pub record IsGuarded (m : Machine) : Type 0 where
  pub within : IsTrue (rules_within m.rules)
  pub modules : AreGuarded m.rules m.protections m.loaded m.loading

-- ---- what an answer asks for

-- there is such a hart, and it stands at an instruction's address
pub record MayTrap (harts : List HwHart) (h : ℕ) : Type 0 where
  pub there : h < length harts
  pub aligned : (hart_in harts h).core.pc % instruction_size ≡ 0

-- the machine may count, print a byte and answer about modules
pub record MayServe (m : Machine) : Type 0 where
  pub counts : MayCount m.journal.counts
  pub room : length m.journal.printed < max_printed
  pub guarded : IsGuarded m

-- ---- answers

-- what an exit of hart h is answered, by the machine as it stands
abbrev pub asked_of : Machine → ℕ → Exit → ExitAnswer
asked_of m h exit = exit_answer (hw_seen m.region.ram m.rules (hart_in m.harts h) (hart_in m.harts h).core.hregs.mode exit) exit

-- what an exit of hart h is answered, done
abbrev pub answered_exit : Machine → ℕ → ExitAnswer → Machine
answered_exit m h answer = hw_exit_answered m h (hart_in m.harts h) (hart_in m.harts h).core.hregs.mode answer

abbrev pub Answered : Machine → ℕ → ExitAnswer → Machine → Type 0
Answered m h answer after = WithTables m (answered_exit m h answer) after

-- hart h is out of its entry
abbrev pub left_entry : Machine → ℕ → Machine
left_entry m h = with_hw m h hw_outside
