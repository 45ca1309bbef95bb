-- Which turns of a hart in user mode are traps, with the numbers of the trap: one line for each cause.
-- RISC-V Privileged manual, "Supervisor Cause Register"; Unprivileged manual, "RV32I", "A", "Zicsr".
use Rattle.std.specs.Prelude.{ℕ, Bool, true, false, if◌then◌else◌, Option, Some, None, option_map, is_some}
use Rattle.spec_processor.specs.Causes.{cause_number}
use Rattle.spec_processor.specs.Effects.{effect_of}
use Rattle.spec_processor.specs.Instructions.{instruction_of}
use Rattle.spec_processor.specs.Traps.{interrupt_number, deliverable}
use Rattle.spec_processor.specs.declared.cause.Cause.{Cause}
use Rattle.spec_processor.specs.declared.csr.Csr.{Csr}
use Rattle.spec_processor.specs.declared.effect.Effect.{Effect}
use Rattle.spec_processor.specs.declared.instruction.Instr.{Instr}
use Rattle.spec_processor.specs.declared.interrupt.Interrupt.{Interrupt}
use Rattle.spec_processor.specs.declared.mode.Mode.TheVariants.{User}
use Rattle.spec_reference.specs.Devices.{device_load, device_store, lines_at}
use Rattle.spec_reference.specs.Requests.{Source, NoSource, FromRam, FromDevice, Target, NoTarget, Guarded, ToRam, ToDevice, source_of, target_of, csr_asked}
use Rattle.spec_reference.specs.States.{State, Hart}
use Rattle.spec_reference.specs.Turn.{Fetched, NoWord, Stray, Word, fetch_of}

pub record UserTrap : Type 0 where
  pub interrupt : Bool
  pub cause : ℕ
  pub tval : ℕ

abbrev pub fault : Cause → (tval : ℕ) → UserTrap
fault cause tval = record { interrupt = false; cause = cause_number cause; tval = tval }

-- ---- loads and stores

-- none where it leads to RAM, or to a register that a device has
abbrev pub load_fault : State → (width : ℕ) → Source → Option Cause
load_fault q width (NoSource cause) = Some cause
load_fault q width (FromRam gpa) = None
load_fault q width (FromDevice gpa) = if is_some (device_load q.devices gpa width) then None else Some Cause.LoadAccess

abbrev pub store_fault : State → (width value : ℕ) → Target → Option Cause
store_fault q width value (NoTarget cause) = Some cause
store_fault q width value (Guarded gpa) = None
store_fault q width value (ToRam gpa) = None
store_fault q width value (ToDevice gpa) = if is_some (device_store q.devices q.journal gpa width value) then None else Some Cause.StoreAccess

-- no device takes reservations or atomics
abbrev pub reserve_fault : Source → Option Cause
reserve_fault (NoSource cause) = Some cause
reserve_fault (FromRam gpa) = None
reserve_fault (FromDevice gpa) = Some Cause.LoadAccess

abbrev pub atomic_fault : Target → Option Cause
atomic_fault (NoTarget cause) = Some cause
atomic_fault (Guarded gpa) = None
atomic_fault (ToRam gpa) = None
atomic_fault (ToDevice gpa) = Some Cause.StoreAccess

abbrev pub fault_at : (address : ℕ) → Option Cause → Option UserTrap
fault_at address x = option_map (λ (cause : Cause). fault cause address) x

-- ---- words

abbrev pub csr_trap : (w : ℕ) → Option Csr → Option UserTrap
csr_trap w None = Some (fault Cause.Illegal w)
csr_trap w (Some csr) = None

abbrev pub effect_trap : State → Hart → (w : ℕ) → Effect → Option UserTrap
effect_trap q hart w (Effect.Set rd value next) = None
effect_trap q hart w (Effect.MisalignedJump target) = Some (fault Cause.InstrMisaligned target)
effect_trap q hart w (Effect.Load rd address width signed) = fault_at address (load_fault q width (source_of q hart address width))
effect_trap q hart w (Effect.Store address width value) = fault_at address (store_fault q width value (target_of q hart address width))
effect_trap q hart w (Effect.LoadReserved rd address width) = fault_at address (reserve_fault (source_of q hart address width))
effect_trap q hart w (Effect.StoreConditional rd address width value) = fault_at address (atomic_fault (target_of q hart address width))
effect_trap q hart w (Effect.Amo rd address width op value) = fault_at address (atomic_fault (target_of q hart address width))
effect_trap q hart w (Effect.Csr rd number op operand writes) = csr_trap w (csr_asked hart number writes)
effect_trap q hart w Effect.Ecall = Some (fault Cause.UserCall 0)
effect_trap q hart w Effect.Ebreak = Some (fault Cause.Breakpoint hart.pc)
effect_trap q hart w Effect.Sret = Some (fault Cause.Illegal w)
effect_trap q hart w Effect.Wfi = Some (fault Cause.Illegal w)
effect_trap q hart w Effect.SfenceVma = Some (fault Cause.Illegal w)
effect_trap q hart w Effect.Fence = None
effect_trap q hart w Effect.Hyper = Some (fault Cause.Illegal w)

abbrev pub instruction_trap : State → Hart → (w : ℕ) → Option Instr → Option UserTrap
instruction_trap q hart w None = Some (fault Cause.Illegal w)
instruction_trap q hart w (Some i) = effect_trap q hart w (effect_of i hart.registers hart.pc)

-- ---- turns

abbrev pub fetch_trap : State → Hart → Fetched → Option UserTrap
fetch_trap q hart (NoWord cause) = Some (fault cause hart.pc)
fetch_trap q hart (Stray gpa) = None
fetch_trap q hart (Word w) = instruction_trap q hart w (instruction_of w)

-- an interrupt comes first
abbrev pub pending_trap : State → Hart → Option Interrupt → Option UserTrap
pending_trap q hart (Some i) = Some (record { interrupt = true; cause = interrupt_number i; tval = 0 })
pending_trap q hart None = fetch_trap q hart (fetch_of q hart)

-- the trap that the turn of hart h in user mode is, none where it is none
abbrev pub user_trap : State → ℕ → Hart → Option UserTrap
user_trap q h hart = pending_trap q hart (deliverable User hart.supervisor (lines_at q.devices h))
