-- Attempts of one hart in a row, each of which carries out its instruction, and the one after them. This project's own.
use Rattle.std.specs.Prelude.{◌≡◌, ℕ, zero, suc, None}
use Rattle.spec_processor.specs.Hardware.{Core, Attempted, exit_of, leave, plain_exception, with_region}
use Rattle.spec_processor.specs.HardwareAttempt.{attempt, virtual_instruction}
use Rattle.spec_processor.specs.Instructions.{sret_word}
use Rattle.spec_processor.specs.Regions.{Region}
use Rattle.spec_processor.specs.declared.cause.Cause.{Cause}
use Rattle.spec_processor.specs.declared.exit.Exit.{Exit}
use Rattle.spec_processor.specs.declared.lines.Lines.{Lines}
use Rattle.spec_processor.specs.declared.mode.Mode.TheVariants.{Kernel, User}
use Rattle.spec_processor.specs.declared.outcome.Outcome.{Outcome}
use Rattle.hw_fast_path.specs.declared.leaving.Leaving.{Leaving}
use Rattle.hw_fast_path.specs.declared.leaving.Leaving.TheVariants.{Stays, Calls, Returns}

abbrev pub IsRetired : Outcome → Type 0
IsRetired (Outcome.Retired wrote) = Unit {0}
IsRetired Outcome.GuestTrap = ⊥
IsRetired (Outcome.Exit exit) = ⊥

-- an attempt carried out its instruction, and left this region and this core, without a reservation
pub record Carries (a : Attempted) (after : Region) (next : Core) : Type 0 where
  pub retired : IsRetired a.outcome
  pub region : after ≡ a.region
  pub core : next ≡ a.core
  pub free : next.reservation ≡ None

-- so many in a row
abbrev pub RetiresThrough : ℕ → Region → Core → Lines → Region → Core → Type 0
RetiresThrough zero r core lines after next = (after ≡ r) × (next ≡ core)
RetiresThrough (suc n) r core lines after next =
    (mid : Region) × ((before : Core) × (RetiresThrough n r core lines mid before × Carries (attempt mid before lines) after next))

-- ---- the turn after a row

-- an attempt left the guest by an exit, which changed the registers of exits alone
pub record Leaves (a : Attempted) (exit : Exit) (r : Region) (core next : Core) : Type 0 where
  pub attempted : a ≡ with_region r (leave core exit)
  pub left : next ≡ (leave core exit).core

-- the exit of ECALL in user mode, and that of SRET in kernel mode
abbrev pub call_exit : ℕ → Exit
call_exit pc = exit_of (plain_exception Cause.UserCall 0) pc

abbrev pub return_exit : ℕ → Exit
return_exit pc = exit_of (virtual_instruction sret_word) pc

-- what became of it: it wasn't made, or its attempt left the guest
abbrev pub LeavesBy : Leaving → Attempted → Region → (core next : Core) → Type 0
LeavesBy Stays a r core next = next ≡ core
LeavesBy Calls a r core next = (core.hregs.mode ≡ User) × Leaves a (call_exit core.pc) r core next
LeavesBy Returns a r core next = (core.hregs.mode ≡ Kernel) × Leaves a (return_exit core.pc) r core next

-- so many turns in a row, and the one after them
abbrev pub EndsBy : Leaving → ℕ → Region → Core → Lines → Region → Core → Type 0
EndsBy left n r core lines after next = (last : Core) × (RetiresThrough n r core lines after last × LeavesBy left (attempt after last lines) after last next)
