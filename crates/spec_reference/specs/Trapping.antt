-- Traps of the reference machine, and their return. RISC-V Privileged manual, "Supervisor Trap Vector Base Address
-- Register" and "Trap-Return Instructions"; that user mode enters the kernel at permitted addresses alone is this project's
-- own.
use Rattle.std.specs.Prelude.{ℕ, Bool, true, if◌then◌else◌, Option, None}
use Rattle.sv_types.specs.Policies.{Rules}
use Rattle.spec_processor.specs.Traps.{is_interrupt, guest_number, trap_target, supervisor_at_trap, supervisor_at_return, mode_at_return}
use Rattle.spec_processor.specs.declared.cause.Cause.{Cause}
use Rattle.spec_processor.specs.declared.exit.ExitCause.{ExitCause}
use Rattle.spec_processor.specs.declared.interrupt.Interrupt.{Interrupt}
use Rattle.spec_processor.specs.declared.mode.Mode.{Mode}
use Rattle.spec_processor.specs.declared.mode.Mode.TheVariants.{Kernel, User}
use Rattle.sv_types.specs.declared.event.Rule.TheVariants.{Entry}
use Rattle.spec_reference.specs.States.{State, Hart, has_number, place_of_entry, with_hart}
use Rattle.spec_reference.specs.Counting.{count, count_trap, count_return, stopped_by}

-- the entry that a hart is in after a trap: from user mode the target's, where it is bound, and from kernel mode the same as
-- before
abbrev pub entry_at_trap : Rules → Mode → (entry : Option ℕ) → (target : ℕ) → Option ℕ
entry_at_trap rules Kernel entry target = entry
entry_at_trap rules User entry target = place_of_entry rules.entries rules.bound target

-- the hart in its trap handler, which it came to from a mode
unfoldable pub hart_at_trap : Rules → Hart → Mode → (interrupt : Bool) → (cause tval : ℕ) → Hart
hart_at_trap rules hart from interrupt cause tval = record hart {
  mode = Kernel;
  pc = trap_target hart.supervisor.stvec interrupt cause;
  supervisor = supervisor_at_trap hart.supervisor from hart.pc interrupt cause tval;
  reservation = None;
  entry = entry_at_trap rules from hart.entry (trap_target hart.supervisor.stvec interrupt cause);
}

-- from kernel mode any target will do, from user mode a permitted one alone
abbrev pub may_enter : Rules → Mode → ℕ → Bool
may_enter rules Kernel target = true
may_enter rules User target = has_number rules.entries target

abbrev pub trap_entered : State → ℕ → Hart → Mode → (interrupt : Bool) → (cause tval : ℕ) → State
trap_entered r h hart from interrupt cause tval =
    count (with_hart r h (hart_at_trap r.rules hart from interrupt cause tval)) (count_trap from)

-- a trap by its numbers
unfoldable pub trap_from : State → ℕ → Hart → Mode → (interrupt : Bool) → (cause tval : ℕ) → State
trap_from r h hart from interrupt cause tval =
    if may_enter r.rules from (trap_target hart.supervisor.stvec interrupt cause)
    then trap_entered r h hart from interrupt cause tval
    else stopped_by r h (Entry (trap_target hart.supervisor.stvec interrupt cause))

-- a trap by its cause, and the value that stval takes
abbrev pub trap : State → ℕ → Hart → ExitCause → (tval : ℕ) → State
trap r h hart cause tval = trap_from r h hart hart.mode (is_interrupt cause) (guest_number cause) tval

abbrev pub exception : State → ℕ → Hart → Cause → (tval : ℕ) → State
exception r h hart cause tval = trap r h hart (ExitCause.Exception cause) tval

abbrev pub take_interrupt : State → ℕ → Hart → Interrupt → State
take_interrupt r h hart interrupt = trap r h hart (ExitCause.Interrupt interrupt) 0

-- ---- the return

-- user mode is in no entry
abbrev pub entry_in : Mode → (entry : Option ℕ) → Option ℕ
entry_in Kernel entry = entry
entry_in User entry = None

unfoldable pub hart_at_return : Hart → Hart
hart_at_return hart = record hart {
  mode = mode_at_return hart.supervisor.sstatus;
  pc = hart.supervisor.sepc;
  supervisor = supervisor_at_return hart.supervisor;
  reservation = None;
  entry = entry_in (mode_at_return hart.supervisor.sstatus) hart.entry;
}

unfoldable pub returned_from_trap : State → ℕ → Hart → State
returned_from_trap r h hart = count (with_hart r h (hart_at_return hart)) (count_return (mode_at_return hart.supervisor.sstatus))
