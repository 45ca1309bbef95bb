-- A pass on the machine as the hardware has it, and that the machine stands for the state after it. This project's own.
use Rattle.std.specs.Prelude.{ℕ, Option, Some, None, slice_get}
use Rattle.sv_types.specs.declared.event.Rule.TheVariants.{Entry, Write}
use Rattle.sv_types.specs.declared.event.Verdict.{Verdict}
use Rattle.sv_types.specs.declared.event.Verdict.TheVariants.{Running, Shutdown, Stopped}
use Rattle.spec_processor.specs.Effects.{next_pc}
use Rattle.spec_reference.specs.Counting.{machine_ended}
use Rattle.spec_reference.specs.States.{State}
use Rattle.spec_hardware.specs.Machine.{Machine, HwHart, update}
use Rattle.spec_hardware.specs.StandsFor.{StandsFor}
use Rattle.laws_simulation.specs.Passing.{passed_over}

-- the hart at its next instruction
abbrev pub hw_at_next : HwHart → HwHart
hw_at_next hw = record hw { core = record hw.core { pc = next_pc hw.core.pc } }

unfoldable pub hw_moved_on : Machine → ℕ → Option HwHart → Machine
hw_moved_on m h None = m
hw_moved_on m h (Some hw) = record m { harts = update m.harts h hw_at_next; journal = machine_ended Running m.journal }

-- only the hart that a write stopped moves on
unfoldable pub hw_passed_under : Verdict → Machine → Machine
hw_passed_under Running m = m
hw_passed_under Shutdown m = m
hw_passed_under (Stopped (Entry target) h turn) m = m
hw_passed_under (Stopped (Write pc gpa) h turn) m = hw_moved_on m h (slice_get m.harts h)

unfoldable pub hw_passed_over : Machine → Machine
hw_passed_over m = hw_passed_under m.journal.verdict m

abbrev pub HwPassLaw : Type 0
HwPassLaw = (m : Machine) (r : State) → StandsFor m r → StandsFor (hw_passed_over m) (passed_over r)
