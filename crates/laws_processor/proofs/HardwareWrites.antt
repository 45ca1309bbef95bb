-- An attempt of the hardware writes no bytes but those that its outcome names.
use Rattle.std.proofs.Common.{ℕ, refl, Bool, true, false}
use Rattle.std.specs.Prelude.{Option, Some, None, Result, Ok, Err, if◌then◌else◌}
use Rattle.spec_processor.specs.Bits.{bit}
use Rattle.spec_processor.specs.Causes.{cause_number}
use Rattle.spec_processor.specs.Regions.{Region, host_word}
use Rattle.spec_processor.specs.Traps.{interrupt_number}
use Rattle.spec_processor.specs.Instructions.{instruction_of}
use Rattle.spec_processor.specs.Effects.{effect_of, amo_value}
use Rattle.spec_processor.specs.Requests.{covers}
use Rattle.spec_processor.specs.HypervisorRegisters.{virtual_number}
use Rattle.spec_processor.specs.Hardware.{Core, Step, Attempted, with_region, guest_trap, leave, exit_of, raise, interrupt_exit, after_interrupt, plain_exception}
use Rattle.spec_processor.specs.HardwareMemory.{aligned_translation, load_htinst, store_htinst, atomic_htinst, after_load, after_load_reserved, after_store, after_store_conditional, after_amo}
use Rattle.spec_processor.specs.HardwareAttempt.{illegal, virtual_instruction, csr_reached, after_csr, after_supervisor_only}
use Rattle.spec_processor.specs.HardwareAttempt.{return_from_trap, after_sret, call_cause, after_effect, after_instruction, after_word}
use Rattle.spec_processor.specs.HardwareAttempt.{after_fetch, OnlyWrites}
use Rattle.spec_processor.specs.declared.cause.Cause.{Cause}
use Rattle.spec_processor.specs.declared.csr.Csr.{Csr}
use Rattle.spec_processor.specs.declared.effect.Effect.{Effect}
use Rattle.spec_processor.specs.declared.instruction.AmoOp.{AmoOp}
use Rattle.spec_processor.specs.declared.instruction.CsrOp.{CsrOp}
use Rattle.spec_processor.specs.declared.instruction.Instr.{Instr}
use Rattle.spec_processor.specs.declared.outcome.Exception.{Exception}
use Rattle.spec_processor.specs.declared.access.Access.TheVariants as Access
use Rattle.spec_processor.specs.declared.interrupt.Interrupt.{Interrupt}
use Rattle.spec_processor.specs.declared.lines.Lines.{Lines}
use Rattle.spec_processor.specs.declared.mode.Mode.{Mode}
use Rattle.spec_processor.specs.declared.mode.Mode.TheVariants.{Kernel, User}

-- an attempt is right where its region is what its outcome says
abbrev pub Writes : Region → Attempted → Type 0
Writes r a = OnlyWrites r a.region a.outcome

one_of : (r : Region) (b : Bool) (x y : Step) → Writes r (with_region r x) → Writes r (with_region r y) → Writes r (with_region r (if b then x else y))
one_of r true x y h k = h
one_of r false x y h k = k

trap_writes : (r : Region) (core : Core) (interrupt : Bool) (cause tval : ℕ) → Writes r (with_region r (guest_trap core interrupt cause tval))
unfolding guest_trap
trap_writes r core interrupt cause tval = refl

raise_writes : (r : Region) (core : Core) (e : Exception) → Writes r (with_region r (raise core e))
unfolding raise leave
raise_writes r core e =
    one_of r (bit core.hregs.hedeleg (cause_number e.cause)) (guest_trap core false (cause_number e.cause) e.tval) (leave core (exit_of e core.pc))
    (trap_writes r core false (cause_number e.cause) e.tval) refl

-- an interrupt writes nothing
pub interrupt_writes : (r : Region) (core : Core) (interrupt : Interrupt) → Writes r (with_region r (after_interrupt core interrupt))
unfolding after_interrupt leave
interrupt_writes r core interrupt =
    one_of r (bit core.hregs.hideleg (virtual_number interrupt)) (guest_trap core true (interrupt_number interrupt) 0) (leave core (interrupt_exit interrupt core.pc))
    (trap_writes r core true (interrupt_number interrupt) 0) refl

load_writes : (r : Region) (core : Core) (rd width : ℕ) (signed : Bool) (place : Result ℕ Exception) → Writes r (with_region r (after_load r core rd width signed place))
unfolding after_load
load_writes r core rd width signed (Ok hpa) = refl
load_writes r core rd width signed (Err e) = raise_writes r core e

load_reserved_writes : (r : Region) (core : Core) (rd width : ℕ) (place : Result ℕ Exception) → Writes r (with_region r (after_load_reserved r core rd width place))
unfolding after_load_reserved
load_reserved_writes r core rd width (Ok hpa) = refl
load_reserved_writes r core rd width (Err e) = raise_writes r core e

store_writes : (r : Region) (core : Core) (width value : ℕ) (place : Result ℕ Exception) → Writes r (after_store r core width value place)
unfolding after_store
store_writes r core width value (Ok hpa) = (value, refl)
store_writes r core width value (Err e) = raise_writes r core e

either : (r : Region) (b : Bool) (x y : Attempted) → Writes r x → Writes r y → Writes r (if b then x else y)
either r true x y h k = h
either r false x y h k = k

store_conditional_writes : (r : Region) (core : Core) (rd width value : ℕ) (place : Result ℕ Exception) → Writes r (after_store_conditional r core rd width value place)
unfolding after_store_conditional
store_conditional_writes r core rd width value (Ok hpa) = either r (covers core.reservation hpa width) _ _ (value, refl) refl
store_conditional_writes r core rd width value (Err e) = raise_writes r core e

amo_writes : (r : Region) (core : Core) (rd width : ℕ) (op : AmoOp) (value : ℕ) (place : Result ℕ Exception) → Writes r (after_amo r core rd width op value place)
unfolding after_amo
amo_writes r core rd width op value (Ok hpa) = (amo_value op width (host_word r hpa width) value, refl)
amo_writes r core rd width op value (Err e) = raise_writes r core e

csr_writes : (r : Region) (core : Core) (lines : Lines) (rd : ℕ) (op : CsrOp) (operand : ℕ) (writes : Bool) (answer : Result Csr Exception)
    → Writes r (with_region r (after_csr core lines rd op operand writes answer))
unfolding after_csr
csr_writes r core lines rd op operand writes (Ok csr) = refl
csr_writes r core lines rd op operand writes (Err e) = raise_writes r core e

supervisor_writes : (r : Region) (core : Core) (w : ℕ) (mode : Mode) → Writes r (with_region r (after_supervisor_only core w mode))
unfolding after_supervisor_only
supervisor_writes r core w Kernel = refl
supervisor_writes r core w User = raise_writes r core (virtual_instruction w)

sret_writes : (r : Region) (core : Core) (w : ℕ) (mode : Mode) → Writes r (with_region r (after_sret core w mode))
unfolding after_sret return_from_trap
sret_writes r core w Kernel =
    one_of r core.hregs.vtsr (raise core (virtual_instruction w)) (return_from_trap core) (raise_writes r core (virtual_instruction w)) refl
sret_writes r core w User = raise_writes r core (virtual_instruction w)

effect_writes : (r : Region) (core : Core) (lines : Lines) (w : ℕ) (effect : Effect) → Writes r (after_effect r core lines w effect)
unfolding after_effect
effect_writes r core lines w (Effect.Set rd value next) = refl
effect_writes r core lines w (Effect.MisalignedJump target) = raise_writes r core (plain_exception Cause.InstrMisaligned target)
effect_writes r core lines w (Effect.Load rd address width signed) =
    load_writes r core rd width signed (aligned_translation r core Access.Load address width (load_htinst w))
effect_writes r core lines w (Effect.Store address width value) =
    store_writes r core width value (aligned_translation r core Access.Store address width (store_htinst w))
effect_writes r core lines w (Effect.LoadReserved rd address width) =
    load_reserved_writes r core rd width (aligned_translation r core Access.Load address width (atomic_htinst w))
effect_writes r core lines w (Effect.StoreConditional rd address width value) =
    store_conditional_writes r core rd width value (aligned_translation r core Access.Store address width (atomic_htinst w))
effect_writes r core lines w (Effect.Amo rd address width op value) =
    amo_writes r core rd width op value (aligned_translation r core Access.Store address width (atomic_htinst w))
effect_writes r core lines w (Effect.Csr rd number op operand writes) =
    csr_writes r core lines rd op operand writes (csr_reached core w number writes)
effect_writes r core lines w Effect.Ecall = raise_writes r core (plain_exception (call_cause core.hregs.mode) 0)
effect_writes r core lines w Effect.Ebreak = raise_writes r core (plain_exception Cause.Breakpoint core.pc)
effect_writes r core lines w Effect.Sret = sret_writes r core w core.hregs.mode
effect_writes r core lines w Effect.Wfi = supervisor_writes r core w core.hregs.mode
effect_writes r core lines w Effect.SfenceVma = supervisor_writes r core w core.hregs.mode
effect_writes r core lines w Effect.Fence = refl
effect_writes r core lines w Effect.Hyper = raise_writes r core (virtual_instruction w)

instruction_writes : (r : Region) (core : Core) (lines : Lines) (w : ℕ) (instr : Option Instr) → Writes r (after_instruction r core lines w instr)
unfolding after_instruction
instruction_writes r core lines w (Some instr) = effect_writes r core lines w (effect_of instr core.registers core.pc)
instruction_writes r core lines w None = raise_writes r core (illegal w)

-- nor does a fetch, and the instruction writes what it names
pub fetch_writes : (r : Region) (core : Core) (lines : Lines) (place : Result ℕ Exception) → Writes r (after_fetch r core lines place)
unfolding after_fetch after_word
fetch_writes r core lines (Ok hpa) = instruction_writes r core lines (host_word r hpa 4) (instruction_of (host_word r hpa 4))
fetch_writes r core lines (Err e) = raise_writes r core e
