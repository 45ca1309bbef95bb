-- A turn of user mode that is a trap by the table is that trap.
use Rattle.std.proofs.Common.{◌≡◌, ℕ, refl, sym, ◌∙◌, subst, Bool, true, false}
use Rattle.std.specs.Prelude.{Option, Some, None, if◌then◌else◌, is_some}
use Rattle.std.proofs.lemmas.Option.{none-some}
use Rattle.spec_processor.specs.Effects.{effect_of}
use Rattle.spec_processor.specs.Instructions.{instruction_of}
use Rattle.spec_processor.specs.declared.cause.Cause.{Cause}
use Rattle.spec_processor.specs.declared.csr.Csr.{Csr}
use Rattle.spec_processor.specs.declared.effect.Effect.{Effect}
use Rattle.spec_processor.specs.declared.instruction.AmoOp.{AmoOp}
use Rattle.spec_processor.specs.declared.instruction.CsrOp.{CsrOp}
use Rattle.spec_processor.specs.declared.instruction.Instr.{Instr}
use Rattle.spec_processor.specs.declared.mode.Mode.{Mode}
use Rattle.spec_processor.specs.declared.mode.Mode.TheVariants.{Kernel, User}
use Rattle.spec_processor.specs.Bytes.{ram_offset}
use Rattle.spec_processor.specs.Requests.{covers}
use Rattle.sv_types.specs.declared.event.Rule.{Rule}
use Rattle.sv_types.specs.declared.event.Verdict.{Verdict}
use Rattle.sv_types.specs.declared.event.Verdict.TheVariants.{Running, Shutdown, Stopped}
use Rattle.spec_reference.specs.Devices.{with_bytes, DeviceLoad, DeviceStore, device_load, device_store}
use Rattle.spec_reference.specs.Requests.{Source, NoSource, FromRam, FromDevice, Target, NoTarget, Guarded, ToRam, ToDevice}
use Rattle.spec_reference.specs.Requests.{carry_out_device_load, carry_out_load, carry_out_load_reserved, carry_out_device_store}
use Rattle.spec_reference.specs.Requests.{carry_out_store, carry_out_store_conditional, carry_out_amo, carry_out_csr, source_of, target_of}
use Rattle.spec_reference.specs.Requests.{csr_asked}
use Rattle.spec_reference.specs.States.{State, Hart}
use Rattle.spec_reference.specs.Trapping.{trap_from, exception}
use Rattle.spec_reference.specs.Turn.{Fetched, NoWord, Stray, Word, carry_out_kernel_only, carry_out_ecall, carry_out_sret, carry_out_effect, carry_out_instruction, carry_out_word, act_on_fetch}
use Rattle.laws_guarantee.proofs.Turns.{store_verdict}
use Rattle.laws_guarantee.specs.UserTraps.{UserTrap, fault, load_fault, store_fault, reserve_fault, atomic_fault, fault_at, csr_trap, effect_trap, instruction_trap, fetch_trap}

-- the trap is the hart's, from the mode that it is in
abbrev TrapIs : State → ℕ → Hart → UserTrap → State → Type 0
TrapIs q h hart t next = next ≡ trap_from q h hart hart.mode t.interrupt t.cause t.tval

fault_is : (q : State) (h : ℕ) (hart : Hart) (cause : Cause) (tval : ℕ) (t : UserTrap) → Some (fault cause tval) ≡ Some t → TrapIs q h hart t (exception q h hart cause tval)
fault_is q h hart cause tval t e = let same : fault cause tval ≡ t = cc in subst (λ (x : UserTrap). TrapIs q h hart x (exception q h hart cause tval)) same refl

-- ---- requests

device_load_traps : (q : State) (h : ℕ) (hart : Hart) (rd address width : ℕ) (signed : Bool) (x : Option DeviceLoad) (t : UserTrap)
    → fault_at address (if is_some x then None else Some Cause.LoadAccess) ≡ Some t → TrapIs q h hart t (carry_out_device_load q h hart rd address width signed x)
unfolding carry_out_device_load
device_load_traps q h hart rd address width signed None t e = fault_is q h hart Cause.LoadAccess address t e
device_load_traps q h hart rd address width signed (Some l) t e = absurd (none-some t e)

load_traps : (q : State) (h : ℕ) (hart : Hart) (rd address width : ℕ) (signed : Bool) (x : Source) (t : UserTrap)
    → fault_at address (load_fault q width x) ≡ Some t → TrapIs q h hart t (carry_out_load q h hart rd address width signed x)
unfolding carry_out_load
load_traps q h hart rd address width signed (NoSource cause) t e = fault_is q h hart cause address t e
load_traps q h hart rd address width signed (FromRam gpa) t e = absurd (none-some t e)
load_traps q h hart rd address width signed (FromDevice gpa) t e = device_load_traps q h hart rd address width signed (device_load q.devices gpa width) t e

load_reserved_traps : (q : State) (h : ℕ) (hart : Hart) (rd address width : ℕ) (x : Source) (t : UserTrap)
    → fault_at address (reserve_fault x) ≡ Some t → TrapIs q h hart t (carry_out_load_reserved q h hart rd address width x)
unfolding carry_out_load_reserved
load_reserved_traps q h hart rd address width (NoSource cause) t e = fault_is q h hart cause address t e
load_reserved_traps q h hart rd address width (FromRam gpa) t e = absurd (none-some t e)
load_reserved_traps q h hart rd address width (FromDevice gpa) t e = fault_is q h hart Cause.LoadAccess address t e

device_store_traps : (q : State) (h : ℕ) (hart : Hart) (address : ℕ) (x : Option DeviceStore) (t : UserTrap)
    → fault_at address (if is_some x then None else Some Cause.StoreAccess) ≡ Some t → TrapIs q h hart t (carry_out_device_store q h hart address x)
unfolding carry_out_device_store
device_store_traps q h hart address None t e = fault_is q h hart Cause.StoreAccess address t e
device_store_traps q h hart address (Some s) t e = absurd (none-some t e)

store_traps : (q : State) (h : ℕ) (hart : Hart) (address width value : ℕ) (x : Target) (t : UserTrap)
    → fault_at address (store_fault q width value x) ≡ Some t → TrapIs q h hart t (carry_out_store q h hart address width value x)
unfolding carry_out_store
store_traps q h hart address width value (NoTarget cause) t e = fault_is q h hart cause address t e
store_traps q h hart address width value (Guarded gpa) t e = absurd (none-some t e)
store_traps q h hart address width value (ToRam gpa) t e = absurd (none-some t e)
store_traps q h hart address width value (ToDevice gpa) t e = device_store_traps q h hart address (device_store q.devices q.journal gpa width value) t e

store_conditional_traps : (q : State) (h : ℕ) (hart : Hart) (rd address width value : ℕ) (x : Target) (t : UserTrap)
    → fault_at address (atomic_fault x) ≡ Some t → TrapIs q h hart t (carry_out_store_conditional q h hart rd address width value x)
unfolding carry_out_store_conditional
store_conditional_traps q h hart rd address width value (NoTarget cause) t e = fault_is q h hart cause address t e
store_conditional_traps q h hart rd address width value (Guarded gpa) t e = absurd (none-some t e)
store_conditional_traps q h hart rd address width value (ToRam gpa) t e = absurd (none-some t e)
store_conditional_traps q h hart rd address width value (ToDevice gpa) t e = fault_is q h hart Cause.StoreAccess address t e

amo_traps : (q : State) (h : ℕ) (hart : Hart) (rd address width : ℕ) (op : AmoOp) (value : ℕ) (x : Target) (t : UserTrap)
    → fault_at address (atomic_fault x) ≡ Some t → TrapIs q h hart t (carry_out_amo q h hart rd address width op value x)
unfolding carry_out_amo
amo_traps q h hart rd address width op value (NoTarget cause) t e = fault_is q h hart cause address t e
amo_traps q h hart rd address width op value (Guarded gpa) t e = absurd (none-some t e)
amo_traps q h hart rd address width op value (ToRam gpa) t e = absurd (none-some t e)
amo_traps q h hart rd address width op value (ToDevice gpa) t e = fault_is q h hart Cause.StoreAccess address t e

csr_traps : (q : State) (h : ℕ) (hart : Hart) (w rd : ℕ) (op : CsrOp) (operand : ℕ) (writes : Bool) (x : Option Csr) (t : UserTrap)
    → csr_trap w x ≡ Some t → TrapIs q h hart t (carry_out_csr q h hart w rd op operand writes x)
unfolding carry_out_csr
csr_traps q h hart w rd op operand writes None t e = fault_is q h hart Cause.Illegal w t e
csr_traps q h hart w rd op operand writes (Some csr) t e = absurd (none-some t e)

-- ---- words of user mode

ecall_traps : (q : State) (h : ℕ) (hart : Hart) (mode : Mode) (t : UserTrap) → mode ≡ User → Some (fault Cause.UserCall 0) ≡ Some t
    → TrapIs q h hart t (carry_out_ecall q h hart mode)
unfolding carry_out_ecall
ecall_traps q h hart Kernel t user e = absurd (cc)
ecall_traps q h hart User t user e = fault_is q h hart Cause.UserCall 0 t e

sret_traps : (q : State) (h : ℕ) (hart : Hart) (w : ℕ) (mode : Mode) (t : UserTrap) → mode ≡ User → Some (fault Cause.Illegal w) ≡ Some t
    → TrapIs q h hart t (carry_out_sret q h hart w mode)
unfolding carry_out_sret
sret_traps q h hart w Kernel t user e = absurd (cc)
sret_traps q h hart w User t user e = fault_is q h hart Cause.Illegal w t e

kernel_only_traps : (q : State) (h : ℕ) (hart : Hart) (w : ℕ) (mode : Mode) (t : UserTrap) → mode ≡ User → Some (fault Cause.Illegal w) ≡ Some t
    → TrapIs q h hart t (carry_out_kernel_only q h hart w mode)
unfolding carry_out_kernel_only
kernel_only_traps q h hart w Kernel t user e = absurd (cc)
kernel_only_traps q h hart w User t user e = fault_is q h hart Cause.Illegal w t e

effect_traps : (q : State) (h : ℕ) (hart : Hart) (w : ℕ) (x : Effect) (t : UserTrap) → hart.mode ≡ User → effect_trap q hart w x ≡ Some t
    → TrapIs q h hart t (carry_out_effect q h hart w x)
unfolding carry_out_effect
effect_traps q h hart w (Effect.Set rd value next) t user e = absurd (none-some t e)
effect_traps q h hart w (Effect.MisalignedJump target) t user e = fault_is q h hart Cause.InstrMisaligned target t e
effect_traps q h hart w (Effect.Load rd address width signed) t user e = load_traps q h hart rd address width signed (source_of q hart address width) t e
effect_traps q h hart w (Effect.Store address width value) t user e = store_traps q h hart address width value (target_of q hart address width) t e
effect_traps q h hart w (Effect.LoadReserved rd address width) t user e = load_reserved_traps q h hart rd address width (source_of q hart address width) t e
effect_traps q h hart w (Effect.StoreConditional rd address width value) t user e =
    store_conditional_traps q h hart rd address width value (target_of q hart address width) t e
effect_traps q h hart w (Effect.Amo rd address width op value) t user e = amo_traps q h hart rd address width op value (target_of q hart address width) t e
effect_traps q h hart w (Effect.Csr rd number op operand writes) t user e = csr_traps q h hart w rd op operand writes (csr_asked hart number writes) t e
effect_traps q h hart w Effect.Ecall t user e = ecall_traps q h hart hart.mode t user e
effect_traps q h hart w Effect.Ebreak t user e = fault_is q h hart Cause.Breakpoint hart.pc t e
effect_traps q h hart w Effect.Sret t user e = sret_traps q h hart w hart.mode t user e
effect_traps q h hart w Effect.Wfi t user e = kernel_only_traps q h hart w hart.mode t user e
effect_traps q h hart w Effect.SfenceVma t user e = kernel_only_traps q h hart w hart.mode t user e
effect_traps q h hart w Effect.Fence t user e = absurd (none-some t e)
effect_traps q h hart w Effect.Hyper t user e = fault_is q h hart Cause.Illegal w t e

instruction_traps : (q : State) (h : ℕ) (hart : Hart) (w : ℕ) (x : Option Instr) (t : UserTrap) → hart.mode ≡ User → instruction_trap q hart w x ≡ Some t
    → TrapIs q h hart t (carry_out_instruction q h hart w x)
unfolding carry_out_instruction
instruction_traps q h hart w None t user e = fault_is q h hart Cause.Illegal w t e
instruction_traps q h hart w (Some i) t user e = effect_traps q h hart w (effect_of i hart.registers hart.pc) t user e

pub fetched_traps : (q : State) (h : ℕ) (hart : Hart) (x : Fetched) (t : UserTrap) → hart.mode ≡ User → fetch_trap q hart x ≡ Some t
    → TrapIs q h hart t (act_on_fetch q h hart x)
unfolding act_on_fetch carry_out_word
fetched_traps q h hart (NoWord cause) t user e = fault_is q h hart cause hart.pc t e
fetched_traps q h hart (Stray gpa) t user e = absurd (none-some t e)
fetched_traps q h hart (Word w) t user e = instruction_traps q h hart w (instruction_of w) t user e

-- ---- where the table has none, the machine doesn't stop at an entry

abbrev pub IsNoEntryStop : Verdict → Type 0
IsNoEntryStop Running = Unit {0}
IsNoEntryStop Shutdown = Unit {0}
IsNoEntryStop (Stopped (Rule.Entry target) h at) = ⊥
IsNoEntryStop (Stopped (Rule.Write pc gpa) h at) = Unit {0}

runs_still : (v : Verdict) → v ≡ Running → IsNoEntryStop v
runs_still v on = subst IsNoEntryStop (sym on) tt

-- what a turn comes to
abbrev NoEntry : State → Type 0
NoEntry next = IsNoEntryStop next.journal.verdict

some_none : (t : UserTrap) → Some t ≡ None → ⊥
some_none t e = none-some t (sym e)

device_load_quiet : (q : State) (h : ℕ) (hart : Hart) (rd address width : ℕ) (signed : Bool) (x : Option DeviceLoad) → q.journal.verdict ≡ Running
    → fault_at address (if is_some x then None else Some Cause.LoadAccess) ≡ None → NoEntry (carry_out_device_load q h hart rd address width signed x)
unfolding carry_out_device_load
device_load_quiet q h hart rd address width signed None on e = absurd (some_none _ e)
device_load_quiet q h hart rd address width signed (Some l) on e = runs_still q.journal.verdict on

load_quiet : (q : State) (h : ℕ) (hart : Hart) (rd address width : ℕ) (signed : Bool) (x : Source) → q.journal.verdict ≡ Running
    → fault_at address (load_fault q width x) ≡ None → NoEntry (carry_out_load q h hart rd address width signed x)
unfolding carry_out_load
load_quiet q h hart rd address width signed (NoSource cause) on e = absurd (some_none _ e)
load_quiet q h hart rd address width signed (FromRam gpa) on e = runs_still q.journal.verdict on
load_quiet q h hart rd address width signed (FromDevice gpa) on e = device_load_quiet q h hart rd address width signed (device_load q.devices gpa width) on e

load_reserved_quiet : (q : State) (h : ℕ) (hart : Hart) (rd address width : ℕ) (x : Source) → q.journal.verdict ≡ Running
    → fault_at address (reserve_fault x) ≡ None → NoEntry (carry_out_load_reserved q h hart rd address width x)
unfolding carry_out_load_reserved
load_reserved_quiet q h hart rd address width (NoSource cause) on e = absurd (some_none _ e)
load_reserved_quiet q h hart rd address width (FromRam gpa) on e = runs_still q.journal.verdict on
load_reserved_quiet q h hart rd address width (FromDevice gpa) on e = absurd (some_none _ e)

device_store_quiet : (q : State) (h : ℕ) (hart : Hart) (address : ℕ) (x : Option DeviceStore) → q.journal.verdict ≡ Running
    → ((s : DeviceStore) → x ≡ Some s → s.journal.verdict ≡ q.journal.verdict)
    → fault_at address (if is_some x then None else Some Cause.StoreAccess) ≡ None → NoEntry (carry_out_device_store q h hart address x)
unfolding carry_out_device_store
device_store_quiet q h hart address None on same e = absurd (some_none _ e)
device_store_quiet q h hart address (Some s) on same e = runs_still s.journal.verdict (same s refl ∙ on)

store_quiet : (q : State) (h : ℕ) (hart : Hart) (address width value : ℕ) (x : Target) → q.journal.verdict ≡ Running
    → fault_at address (store_fault q width value x) ≡ None → NoEntry (carry_out_store q h hart address width value x)
unfolding carry_out_store with_bytes
store_quiet q h hart address width value (NoTarget cause) on e = absurd (some_none _ e)
store_quiet q h hart address width value (Guarded gpa) on e = tt
store_quiet q h hart address width value (ToRam gpa) on e = runs_still q.journal.verdict on
store_quiet q h hart address width value (ToDevice gpa) on e =
    device_store_quiet q h hart address (device_store q.devices q.journal gpa width value) on (store_verdict q.devices q.journal gpa width value) e

choose_quiet : (b : Bool) (x y : State) → NoEntry x → NoEntry y → NoEntry (if b then x else y)
choose_quiet true x y s t = s
choose_quiet false x y s t = t

store_conditional_quiet : (q : State) (h : ℕ) (hart : Hart) (rd address width value : ℕ) (x : Target) → q.journal.verdict ≡ Running
    → fault_at address (atomic_fault x) ≡ None → NoEntry (carry_out_store_conditional q h hart rd address width value x)
unfolding carry_out_store_conditional with_bytes
store_conditional_quiet q h hart rd address width value (NoTarget cause) on e = absurd (some_none _ e)
store_conditional_quiet q h hart rd address width value (Guarded gpa) on e = tt
store_conditional_quiet q h hart rd address width value (ToRam gpa) on e =
    choose_quiet (covers hart.reservation (ram_offset gpa) width) _ _ (runs_still q.journal.verdict on) (runs_still q.journal.verdict on)
store_conditional_quiet q h hart rd address width value (ToDevice gpa) on e = absurd (some_none _ e)

amo_quiet : (q : State) (h : ℕ) (hart : Hart) (rd address width : ℕ) (op : AmoOp) (value : ℕ) (x : Target) → q.journal.verdict ≡ Running
    → fault_at address (atomic_fault x) ≡ None → NoEntry (carry_out_amo q h hart rd address width op value x)
unfolding carry_out_amo with_bytes
amo_quiet q h hart rd address width op value (NoTarget cause) on e = absurd (some_none _ e)
amo_quiet q h hart rd address width op value (Guarded gpa) on e = tt
amo_quiet q h hart rd address width op value (ToRam gpa) on e = runs_still q.journal.verdict on
amo_quiet q h hart rd address width op value (ToDevice gpa) on e = absurd (some_none _ e)

csr_quiet : (q : State) (h : ℕ) (hart : Hart) (w rd : ℕ) (op : CsrOp) (operand : ℕ) (writes : Bool) (x : Option Csr) → q.journal.verdict ≡ Running
    → csr_trap w x ≡ None → NoEntry (carry_out_csr q h hart w rd op operand writes x)
unfolding carry_out_csr
csr_quiet q h hart w rd op operand writes None on e = absurd (some_none _ e)
csr_quiet q h hart w rd op operand writes (Some csr) on e = runs_still q.journal.verdict on

effect_quiet : (q : State) (h : ℕ) (hart : Hart) (w : ℕ) (x : Effect) → q.journal.verdict ≡ Running → effect_trap q hart w x ≡ None
    → NoEntry (carry_out_effect q h hart w x)
unfolding carry_out_effect
effect_quiet q h hart w (Effect.Set rd value next) on e = runs_still q.journal.verdict on
effect_quiet q h hart w (Effect.Load rd address width signed) on e = load_quiet q h hart rd address width signed (source_of q hart address width) on e
effect_quiet q h hart w (Effect.Store address width value) on e = store_quiet q h hart address width value (target_of q hart address width) on e
effect_quiet q h hart w (Effect.LoadReserved rd address width) on e = load_reserved_quiet q h hart rd address width (source_of q hart address width) on e
effect_quiet q h hart w (Effect.StoreConditional rd address width value) on e =
    store_conditional_quiet q h hart rd address width value (target_of q hart address width) on e
effect_quiet q h hart w (Effect.Amo rd address width op value) on e = amo_quiet q h hart rd address width op value (target_of q hart address width) on e
effect_quiet q h hart w (Effect.Csr rd number op operand writes) on e = csr_quiet q h hart w rd op operand writes (csr_asked hart number writes) on e
effect_quiet q h hart w Effect.Fence on e = runs_still q.journal.verdict on
effect_quiet q h hart w _ on e = absurd (some_none _ e)

instruction_quiet : (q : State) (h : ℕ) (hart : Hart) (w : ℕ) (x : Option Instr) → q.journal.verdict ≡ Running → instruction_trap q hart w x ≡ None
    → NoEntry (carry_out_instruction q h hart w x)
unfolding carry_out_instruction
instruction_quiet q h hart w None on e = absurd (some_none _ e)
instruction_quiet q h hart w (Some i) on e = effect_quiet q h hart w (effect_of i hart.registers hart.pc) on e

pub word_quiet : (q : State) (h : ℕ) (hart : Hart) (w : ℕ) → q.journal.verdict ≡ Running → instruction_trap q hart w (instruction_of w) ≡ None
    → IsNoEntryStop (carry_out_word q h hart w).journal.verdict
unfolding carry_out_word
word_quiet q h hart w on e = instruction_quiet q h hart w (instruction_of w) on e

pub word_traps : (q : State) (h : ℕ) (hart : Hart) (w : ℕ) (t : UserTrap) → hart.mode ≡ User → instruction_trap q hart w (instruction_of w) ≡ Some t
    → carry_out_word q h hart w ≡ trap_from q h hart hart.mode t.interrupt t.cause t.tval
unfolding carry_out_word
word_traps q h hart w t user e = instruction_traps q h hart w (instruction_of w) t user e
