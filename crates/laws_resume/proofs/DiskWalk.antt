-- What an event does to the disk.
use Rattle.std.proofs.Common.{◌≡◌, ℕ, zero, suc, List, Bool, true, false, not, refl, inl, inr, slice_get}
use Rattle.std.specs.Prelude.{Option, Some, None, option_map, if◌then◌else◌, ◌==◌}
use Rattle.spec_processor.specs.Bytes.{page_of, ram_offset}
use Rattle.spec_processor.specs.Causes.{cause_number}
use Rattle.spec_processor.specs.Effects.{effect_of}
use Rattle.spec_processor.specs.Instructions.{instruction_of}
use Rattle.spec_processor.specs.Requests.{covers}
use Rattle.spec_processor.specs.Traps.{trap_target, interrupt_number, deliverable}
use Rattle.spec_processor.specs.declared.cause.Cause.{Cause}
use Rattle.spec_processor.specs.declared.csr.Csr.{Csr}
use Rattle.spec_processor.specs.declared.effect.Effect.{Effect}
use Rattle.spec_processor.specs.declared.instruction.AmoOp.{AmoOp}
use Rattle.spec_processor.specs.declared.instruction.CsrOp.{CsrOp}
use Rattle.spec_processor.specs.declared.instruction.Instr.{Instr}
use Rattle.spec_processor.specs.declared.interrupt.Interrupt.{Interrupt}
use Rattle.spec_processor.specs.declared.mode.Mode.{Mode}
use Rattle.spec_processor.specs.declared.mode.Mode.TheVariants.{Kernel, User}
use Rattle.sv_types.specs.Console.{stored_byte, console_load, after_load}
use Rattle.sv_types.specs.declared.event.Event.{Event}
use Rattle.sv_types.specs.declared.event.Event.TheVariants.{Turn, Beat, Key, Tick, Poke}
use Rattle.sv_types.specs.declared.event.Verdict.{Verdict}
use Rattle.sv_types.specs.declared.event.Verdict.TheVariants.{Running, Shutdown, Stopped}
use Rattle.spec_reference.specs.Answers.{devices_side_effect, state_after_answer, call}
use Rattle.spec_reference.specs.Calls.{asked_by, facts_of}
use Rattle.spec_reference.specs.Counting.{count, count_turn, count_beat, count_key, count_tick, printed_low}
use Rattle.spec_reference.specs.Attacker.{poke_move}
use Rattle.spec_reference.specs.Devices.{DeviceLoad, DeviceStore, Port, ConsoleAt, DiskAt, Nowhere, device_load_of, port_at, port_load}
use Rattle.spec_reference.specs.Devices.{port_store, device_load, device_store, lines_at, with_disk, with_bytes, after_move, may_move_to}
use Rattle.spec_reference.specs.Devices.{beat, poke, key, tick}
use Rattle.spec_reference.specs.Disk.{DmaStep, disk_load, disk_store, disk_beat}
use Rattle.spec_reference.specs.Loads.{is_good_load, decide, load_step_of}
use Rattle.spec_reference.specs.ModuleCalls.{answer_of, load_decision}
use Rattle.spec_reference.specs.Move.{Move, Idle, FromRam, IntoRam, DeniedAt, OutsideRam}
use Rattle.spec_reference.specs.Requests.{carried_out_writing, Source, NoSource, Target, NoTarget, Guarded, ToRam, ToDevice}
use Rattle.spec_reference.specs.Requests.{carry_out_device_load, carry_out_load, carry_out_load_reserved, carry_out_device_store}
use Rattle.spec_reference.specs.Requests.{carry_out_store, carry_out_store_conditional, carry_out_amo, carry_out_csr, source_of, target_of}
use Rattle.spec_reference.specs.Requests.{csr_asked}
use Rattle.spec_reference.specs.Requests as requests
use Rattle.spec_reference.specs.Run.{happen, happen_under, step}
use Rattle.spec_reference.specs.States.{State, Hart, Devices, Disk, Journal, Loading, Binding, is_protected}
use Rattle.spec_reference.specs.Trapping.{trap_from, exception, returned_from_trap, may_enter}
use Rattle.spec_reference.specs.Turn.{place_of_pc, leads_into, outside_entry, leave_entry, fetch_in_entry, bound_entry}
use Rattle.spec_reference.specs.Turn.{carry_out_kernel_only, carry_out_ecall, carry_out_sret, carry_out_effect, carry_out_instruction}
use Rattle.spec_reference.specs.Turn.{carry_out_word, Fetched, NoWord, Stray, Word, fetch_of, act_on_fetch, act_on_pending, act}
use Rattle.spec_reference.specs.Turn.{turn_of_started, turn_of, turn}
use Rattle.spec_reference.specs.declared.answers.Answer.{Answer}
use Rattle.spec_reference.specs.declared.answers.SideEffect.{SideEffect}
use Rattle.spec_reference.specs.declared.answers.SideEffect.TheVariants.{SetsTimer, StartsHart, TakesInput}
use Rattle.laws_resume.specs.DiskMoves.{DiskAfter}

same_disk : {d : Disk} → DiskAfter d d
same_disk = inl refl

abbrev Same : State → State → Type 0
Same r next = DiskAfter r.devices.disk next.devices.disk

choose_same : (r : State) (b : Bool) (x y : State) → Same r x → Same r y → Same r (if b then x else y)
choose_same r true x y s t = s
choose_same r false x y s t = t

-- ---- traps

trap_same : (r : State) (h : ℕ) (hart : Hart) (from : Mode) (interrupt : Bool) (cause tval : ℕ) → Same r (trap_from r h hart from interrupt cause tval)
unfolding trap_from
trap_same r h hart from interrupt cause tval = choose_same r (may_enter r.rules from (trap_target hart.supervisor.stvec interrupt cause)) _ _ same_disk same_disk

exception_same : (r : State) (h : ℕ) (hart : Hart) (cause : Cause) (tval : ℕ) → Same r (exception r h hart cause tval)
exception_same r h hart cause tval = trap_same r h hart hart.mode false (cause_number cause) tval

return_same : (r : State) (h : ℕ) (hart : Hart) → Same r (returned_from_trap r h hart)
unfolding returned_from_trap
return_same r h hart = same_disk

-- ---- loads

abbrev LoadSame : Devices → Option DeviceLoad → Type 0
LoadSame d None = Unit {0}
LoadSame d (Some l) = DiskAfter d.disk l.devices.disk

console_load_same : (d after : Devices) (x : Option ℕ) → DiskAfter d.disk after.disk → LoadSame d (option_map (device_load_of after) x)
console_load_same d after None same = tt
console_load_same d after (Some value) same = same

port_load_same : (d : Devices) (port : Port) (width : ℕ) → LoadSame d (port_load d port width)
unfolding port_load
port_load_same d (ConsoleAt offset) width = console_load_same d (record d { console = after_load d.console offset width }) (console_load d.console offset width) same_disk
port_load_same d (DiskAt offset) width = console_load_same d d (disk_load d.disk offset width) same_disk
port_load_same d Nowhere width = tt

load_same_at : (d : Devices) (gpa width : ℕ) → LoadSame d (device_load d gpa width)
unfolding device_load
load_same_at d gpa width = port_load_same d (port_at gpa) width

device_load_same : (r : State) (h : ℕ) (hart : Hart) (rd address width : ℕ) (signed : Bool) (x : Option DeviceLoad) → LoadSame r.devices x →
    Same r (carry_out_device_load r h hart rd address width signed x)
unfolding carry_out_device_load
device_load_same r h hart rd address width signed None same = exception_same r h hart Cause.LoadAccess address
device_load_same r h hart rd address width signed (Some l) same = same

load_same : (r : State) (h : ℕ) (hart : Hart) (rd address width : ℕ) (signed : Bool) (x : Source) → Same r (carry_out_load r h hart rd address width signed x)
unfolding carry_out_load
load_same r h hart rd address width signed (NoSource cause) = exception_same r h hart cause address
load_same r h hart rd address width signed (requests.FromRam gpa) = same_disk
load_same r h hart rd address width signed (requests.FromDevice gpa) =
    device_load_same r h hart rd address width signed (device_load r.devices gpa width) (load_same_at r.devices gpa width)

load_reserved_same : (r : State) (h : ℕ) (hart : Hart) (rd address width : ℕ) (x : Source) → Same r (carry_out_load_reserved r h hart rd address width x)
unfolding carry_out_load_reserved
load_reserved_same r h hart rd address width (NoSource cause) = exception_same r h hart cause address
load_reserved_same r h hart rd address width (requests.FromRam gpa) = same_disk
load_reserved_same r h hart rd address width (requests.FromDevice gpa) = exception_same r h hart Cause.LoadAccess address

-- ---- stores

abbrev StoreSame : Devices → Option DeviceStore → Type 0
StoreSame d None = Unit {0}
StoreSame d (Some s) = DiskAfter d.disk s.devices.disk

console_store_same : (d : Devices) (j : Journal) (x : Option ℕ) → StoreSame d (option_map (λ byte. record { devices = d; journal = printed_low byte j }) x)
console_store_same d j None = tt
console_store_same d j (Some byte) = same_disk

abbrev DiskSame : Disk → Option Disk → Type 0
DiskSame d None = Unit {0}
DiskSame d (Some next) = DiskAfter d next

stored_same : (d : Disk) (offset width value : ℕ) (x : Option Disk) → disk_store d offset width value ≡ x → DiskSame d x
stored_same d offset width value None e = tt
stored_same d offset width value (Some next) e = inr (inl (record { offset = offset; width = width; value = value; stored = e }))

with_disk_same : (d : Devices) (j : Journal) (x : Option Disk) → DiskSame d.disk x → StoreSame d (option_map (λ (disk : Disk). record { devices = record d { disk = disk }; journal = j }) x)
with_disk_same d j None same = tt
with_disk_same d j (Some disk) same = same

port_store_same : (d : Devices) (j : Journal) (port : Port) (width value : ℕ) → StoreSame d (port_store d j port width value)
unfolding port_store
port_store_same d j (ConsoleAt offset) width value = console_store_same d j (stored_byte offset width value)
port_store_same d j (DiskAt offset) width value = with_disk_same d j (disk_store d.disk offset width value) (stored_same d.disk offset width value _ refl)
port_store_same d j Nowhere width value = tt

store_same_at : (d : Devices) (j : Journal) (gpa width value : ℕ) → StoreSame d (device_store d j gpa width value)
unfolding device_store
store_same_at d j gpa width value = port_store_same d j (port_at gpa) width value

device_store_same : (r : State) (h : ℕ) (hart : Hart) (address : ℕ) (x : Option DeviceStore) → StoreSame r.devices x → Same r (carry_out_device_store r h hart address x)
unfolding carry_out_device_store
device_store_same r h hart address None same = exception_same r h hart Cause.StoreAccess address
device_store_same r h hart address (Some s) same = same

written_same : (r : State) (h : ℕ) (next : Hart) (at : ℕ) (bytes : List ℕ) → Same r (carried_out_writing r h next at bytes)
unfolding with_bytes
written_same r h next at bytes = same_disk

store_same : (r : State) (h : ℕ) (hart : Hart) (address width value : ℕ) (x : Target) → Same r (carry_out_store r h hart address width value x)
unfolding carry_out_store
store_same r h hart address width value (NoTarget cause) = exception_same r h hart cause address
store_same r h hart address width value (Guarded gpa) = same_disk
store_same r h hart address width value (ToRam gpa) = written_same r h _ (ram_offset gpa) _
store_same r h hart address width value (ToDevice gpa) =
    device_store_same r h hart address (device_store r.devices r.journal gpa width value) (store_same_at r.devices r.journal gpa width value)

store_conditional_same : (r : State) (h : ℕ) (hart : Hart) (rd address width value : ℕ) (x : Target) → Same r (carry_out_store_conditional r h hart rd address width value x)
unfolding carry_out_store_conditional
store_conditional_same r h hart rd address width value (NoTarget cause) = exception_same r h hart cause address
store_conditional_same r h hart rd address width value (Guarded gpa) = same_disk
store_conditional_same r h hart rd address width value (ToRam gpa) =
    choose_same r (covers hart.reservation (ram_offset gpa) width) _ _ (written_same r h _ (ram_offset gpa) _) same_disk
store_conditional_same r h hart rd address width value (ToDevice gpa) = exception_same r h hart Cause.StoreAccess address

amo_same : (r : State) (h : ℕ) (hart : Hart) (rd address width : ℕ) (op : AmoOp) (value : ℕ) (x : Target) → Same r (carry_out_amo r h hart rd address width op value x)
unfolding carry_out_amo
amo_same r h hart rd address width op value (NoTarget cause) = exception_same r h hart cause address
amo_same r h hart rd address width op value (Guarded gpa) = same_disk
amo_same r h hart rd address width op value (ToRam gpa) = written_same r h _ (ram_offset gpa) _
amo_same r h hart rd address width op value (ToDevice gpa) = exception_same r h hart Cause.StoreAccess address

csr_same : (r : State) (h : ℕ) (hart : Hart) (w rd : ℕ) (op : CsrOp) (operand : ℕ) (writes : Bool) (x : Option Csr) → Same r (carry_out_csr r h hart w rd op operand writes x)
unfolding carry_out_csr
csr_same r h hart w rd op operand writes None = exception_same r h hart Cause.Illegal w
csr_same r h hart w rd op operand writes (Some csr) = same_disk

-- ---- calls, and loads of modules

beside_same : (b : SideEffect) (h : ℕ) (d : Devices) → DiskAfter d.disk (devices_side_effect b h d).disk
unfolding devices_side_effect
beside_same (SetsTimer at) h d = same_disk
beside_same (StartsHart other pc opaque) h d = same_disk
beside_same TakesInput h d = same_disk
beside_same _ h d = same_disk

answered_same : (r : State) (h : ℕ) (hart : Hart) (a : Answer) → Same r (state_after_answer r h hart a)
unfolding state_after_answer
answered_same r h hart a = beside_same a.side_effect h r.devices

call_same : (r : State) (h : ℕ) (hart : Hart) → Same r (call r h hart)
call_same r h hart = answered_same r h hart (answer_of (facts_of r) (asked_by hart.registers))

load_step_same : (r : State) (h : ℕ) (hart : Hart) (load : Loading) (left : ℕ) → Same r (load_step_of r h hart load left)
unfolding load_step_of decide
load_step_same r h hart load zero =
    answered_same r h hart (load_decision (is_good_load r.rules r.ram load.about (slice_get r.rules.modules load.about.id)) load.about)
load_step_same r h hart load (suc left) = same_disk

-- ---- instructions

kernel_only_same : (r : State) (h : ℕ) (hart : Hart) (w : ℕ) (mode : Mode) → Same r (carry_out_kernel_only r h hart w mode)
unfolding carry_out_kernel_only
kernel_only_same r h hart w Kernel = same_disk
kernel_only_same r h hart w User = exception_same r h hart Cause.Illegal w

ecall_same : (r : State) (h : ℕ) (hart : Hart) (mode : Mode) → Same r (carry_out_ecall r h hart mode)
unfolding carry_out_ecall
ecall_same r h hart Kernel = call_same r h hart
ecall_same r h hart User = exception_same r h hart Cause.UserCall 0

sret_same : (r : State) (h : ℕ) (hart : Hart) (w : ℕ) (mode : Mode) → Same r (carry_out_sret r h hart w mode)
unfolding carry_out_sret
sret_same r h hart w Kernel = return_same r h hart
sret_same r h hart w User = exception_same r h hart Cause.Illegal w

effect_same : (r : State) (h : ℕ) (hart : Hart) (w : ℕ) (e : Effect) → Same r (carry_out_effect r h hart w e)
unfolding carry_out_effect
effect_same r h hart w (Effect.Set rd value next) = same_disk
effect_same r h hart w (Effect.MisalignedJump target) = exception_same r h hart Cause.InstrMisaligned target
effect_same r h hart w (Effect.Load rd address width signed) = load_same r h hart rd address width signed (source_of r hart address width)
effect_same r h hart w (Effect.Store address width value) = store_same r h hart address width value (target_of r hart address width)
effect_same r h hart w (Effect.LoadReserved rd address width) = load_reserved_same r h hart rd address width (source_of r hart address width)
effect_same r h hart w (Effect.StoreConditional rd address width value) =
    store_conditional_same r h hart rd address width value (target_of r hart address width)
effect_same r h hart w (Effect.Amo rd address width op value) = amo_same r h hart rd address width op value (target_of r hart address width)
effect_same r h hart w (Effect.Csr rd number op operand writes) = csr_same r h hart w rd op operand writes (csr_asked hart number writes)
effect_same r h hart w Effect.Ecall = ecall_same r h hart hart.mode
effect_same r h hart w Effect.Ebreak = exception_same r h hart Cause.Breakpoint hart.pc
effect_same r h hart w Effect.Sret = sret_same r h hart w hart.mode
effect_same r h hart w Effect.Wfi = kernel_only_same r h hart w hart.mode
effect_same r h hart w Effect.SfenceVma = kernel_only_same r h hart w hart.mode
effect_same r h hart w Effect.Fence = same_disk
effect_same r h hart w Effect.Hyper = exception_same r h hart Cause.Illegal w

instruction_same : (r : State) (h : ℕ) (hart : Hart) (w : ℕ) (x : Option Instr) → Same r (carry_out_instruction r h hart w x)
unfolding carry_out_instruction
instruction_same r h hart w None = exception_same r h hart Cause.Illegal w
instruction_same r h hart w (Some i) = effect_same r h hart w (effect_of i hart.registers hart.pc)

-- ---- turns

fetch_same : (r : State) (h : ℕ) (hart : Hart) (x : Fetched) → Same r (act_on_fetch r h hart x)
unfolding act_on_fetch carry_out_word
fetch_same r h hart (NoWord cause) = exception_same r h hart cause hart.pc
fetch_same r h hart (Stray gpa) = same_disk
fetch_same r h hart (Word w) = instruction_same r h hart w (instruction_of w)

entry_same : (r : State) (h : ℕ) (hart : Hart) (x : Option Binding) → Same r (fetch_in_entry r h hart x)
unfolding fetch_in_entry
entry_same r h hart None = fetch_same r h hart (fetch_of r hart)
entry_same r h hart (Some entry) =
    choose_same r (leads_into r (page_of entry.gpa) (place_of_pc r hart)) _ _ (fetch_same r h hart (fetch_of r hart))
    (choose_same r (hart.pc == entry.va) _ _ same_disk (fetch_same (leave_entry r h hart) h (outside_entry hart) (fetch_of (leave_entry r h hart) (outside_entry hart))))

pending_same : (r : State) (h : ℕ) (hart : Hart) (x : Option Interrupt) → Same r (act_on_pending r h hart x)
unfolding act_on_pending
pending_same r h hart (Some interrupt) = trap_same r h hart hart.mode true (interrupt_number interrupt) 0
pending_same r h hart None = entry_same r h hart (bound_entry r.rules hart.entry)

attempt_same : (r : State) (h : ℕ) (hart : Hart) → Same r (act r h hart)
unfolding act
attempt_same r h hart = pending_same r h hart (deliverable hart.mode hart.supervisor (lines_at r.devices h))

started_same : (r : State) (h : ℕ) (hart : Hart) (x : Option Loading) → Same r (turn_of_started r h hart x)
unfolding turn_of_started
started_same r h hart None = attempt_same r h hart
started_same r h hart (Some load) = choose_same r (load.hart == h) _ _ (load_step_same r h hart load load.left) (attempt_same r h hart)

hart_turn_same : (r : State) (h : ℕ) (x : Option Hart) → Same r (turn_of r h x)
unfolding turn_of
hart_turn_same r h None = same_disk
hart_turn_same r h (Some hart) = choose_same r hart.started _ _ (started_same r h hart r.loading) same_disk

turn_same : (r : State) (h : ℕ) → Same r (turn r h)
unfolding turn
turn_same r h = hart_turn_same r h (slice_get r.harts h)

-- ---- the other events

-- where it moves bytes to
move_same : (r : State) (x : Move) → (after_move r x).devices.disk ≡ r.devices.disk
unfolding after_move with_bytes
move_same r Idle = refl
move_same r (FromRam gpa) = refl
move_same r (IntoRam gpa bytes) = refl
move_same r (DeniedAt gpa) = refl
move_same r OutsideRam = refl

beat_same : (r : State) → Same r (beat r)
unfolding beat
beat_same r =
    let may_write : ℕ → Bool = λ page. not (is_protected r page) in
    let b : DmaStep = disk_beat r.devices.disk r.ram may_write in
    inr (inr (record { ram = r.ram; may_write = may_write; dma_step = move_same (with_disk r b.disk) b.move }))

poke_same : (r : State) (gpa value : ℕ) → Same r (poke r gpa value)
unfolding poke
poke_same r gpa value = inl (move_same r (poke_move r.ram (λ page. may_move_to r page) gpa value))

key_same : (r : State) (byte : ℕ) → Same r (key r byte)
unfolding key
key_same r byte = same_disk

tick_same : (r : State) (n : ℕ) → Same r (tick r n)
unfolding tick
tick_same r n = same_disk

happen_same : (r : State) (e : Event) → Same r (happen r e)
unfolding happen
happen_same r (Turn h) = turn_same (count r count_turn) h
happen_same r Beat = beat_same (count r count_beat)
happen_same r (Key byte) = key_same (count r count_key) byte
happen_same r (Tick n) = tick_same (count r count_tick) n
happen_same r (Poke gpa value) = poke_same (count r count_beat) gpa value

under_same : (verdict : Verdict) (r : State) (e : Event) → Same r (happen_under verdict r e)
unfolding happen_under
under_same Running r e = happen_same r e
under_same Shutdown r e = same_disk
under_same (Stopped rule h at) r e = same_disk

pub disk_after_step : (r : State) (e : Event) → DiskAfter r.devices.disk (step r e).devices.disk
unfolding step
disk_after_step r e = under_same r.journal.verdict r e
