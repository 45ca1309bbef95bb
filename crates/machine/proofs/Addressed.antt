-- Reservations have guest-physical addresses of 64 bits, in every state that a run reaches: one is made where RAM is loaded,
-- and nothing else moves one.
use Rattle.std.proofs.Common.{◌≡◌, ℕ, zero, suc, ◌+◌, ◌*◌, ◌%◌, ◌^◌, ◌<◌, ◌≤◌, List, [], ◌∷◌, map, length, refl, sym, subst, Bool, true, false, not, arith, slice_get, slice_set}
use Rattle.std.specs.Prelude.{Option, Some, None, if◌then◌else◌, ◌==◌}
use Rattle.spec_processor.specs.Bytes.{in_ram, page_of, page_size, ram_offset}
use Rattle.spec_processor.specs.Causes.{cause_number}
use Rattle.spec_processor.specs.Effects.{effect_of}
use Rattle.spec_processor.specs.Instructions.{instruction_of}
use Rattle.spec_processor.specs.Regions.{max_ram_pages}
use Rattle.spec_processor.specs.Requests.{after_write, covers, reserved_at, touches}
use Rattle.spec_processor.specs.Translation.{Destination, At, PageFault, Unreadable, Settings, place}
use Rattle.spec_processor.specs.Traps.{deliverable, interrupt_number, trap_target}
use Rattle.spec_processor.specs.declared.cause.Cause.{Cause}
use Rattle.spec_processor.specs.declared.csr.Csr.{Csr}
use Rattle.spec_processor.specs.declared.effect.Effect.{Effect}
use Rattle.sv_types.specs.declared.event.Event.{Event}
use Rattle.sv_types.specs.declared.event.Event.TheVariants.{Turn, Beat, Key, Tick, Poke}
use Rattle.sv_types.specs.declared.event.Verdict.{Verdict}
use Rattle.sv_types.specs.declared.event.Verdict.TheVariants.{Running, Shutdown, Stopped}
use Rattle.spec_processor.specs.declared.instruction.AmoOp.{AmoOp}
use Rattle.spec_processor.specs.declared.instruction.CsrOp.{CsrOp}
use Rattle.spec_processor.specs.declared.instruction.Instr.{Instr}
use Rattle.spec_processor.specs.declared.access.Access.TheVariants as Access
use Rattle.spec_processor.specs.declared.interrupt.Interrupt.{Interrupt}
use Rattle.spec_processor.specs.declared.mode.Mode.{Mode}
use Rattle.spec_processor.specs.declared.mode.Mode.TheVariants.{Kernel, User}
use Rattle.spec_reference.specs.States.{State, Hart, Loading, Binding, is_protected}
use Rattle.spec_reference.specs.Counting.{count, count_turn, count_beat, count_key, count_tick}
use Rattle.spec_reference.specs.Answers.{with_reply, harts_side_effect, state_after_answer}
use Rattle.spec_reference.specs.Calls.{hart_at, interrupt_harts, with_software, mask_names}
use Rattle.spec_reference.specs.declared.answers.Answer.{Answer}
use Rattle.spec_reference.specs.declared.answers.SideEffect.{SideEffect}
use Rattle.spec_reference.specs.declared.answers.SideEffect.TheVariants.{SendsInterrupts, StartsHart}
use Rattle.spec_reference.specs.declared.answers.Reply.{Reply}
use Rattle.spec_reference.specs.declared.answers.Reply.TheVariants.{Gives, Replies, Stays, Stops}
use Rattle.spec_reference.specs.Devices.{DeviceLoad, DeviceStore, hart_after_write, with_bytes, after_move, may_move_to, beat, poke, key, tick, device_load, device_store, lines_at, with_disk}
use Rattle.spec_reference.specs.Attacker.{poke_move}
use Rattle.spec_reference.specs.Disk.{DmaStep, disk_beat}
use Rattle.spec_reference.specs.Move.{Move, Idle, FromRam, IntoRam, DeniedAt, OutsideRam}
use Rattle.spec_reference.specs.Loads.{decide, load_step_of}
use Rattle.spec_reference.specs.Requests.{Source, Target, carried_out_writing, load_source, settings_of, source_at, source_of, target_of}
use Rattle.spec_reference.specs.Requests.{csr_asked, carry_out_device_load, carry_out_load, carry_out_load_reserved, carry_out_device_store}
use Rattle.spec_reference.specs.Requests.{carry_out_store, carry_out_store_conditional, carry_out_amo, carry_out_csr}
use Rattle.spec_reference.specs.Run.{happen, happen_under, step}
use Rattle.spec_reference.specs.Trapping.{hart_at_return, hart_at_trap, trap_from, exception, returned_from_trap, may_enter}
use Rattle.spec_reference.specs.Turn.{carry_out_kernel_only, carry_out_ecall, carry_out_sret, carry_out_effect, carry_out_instruction}
use Rattle.spec_reference.specs.Turn.{carry_out_word, Fetched, NoWord, Stray, Word, fetch_of, act_on_fetch, place_of_pc, leads_into}
use Rattle.spec_reference.specs.Turn.{outside_entry, leave_entry, fetch_in_entry, bound_entry, act_on_pending, act, turn_of_started}
use Rattle.spec_reference.specs.Turn.{turn_of, turn}
use Rattle.spec_reference.specs.SavedStates.{gpa_at}
use Rattle.machine.specs.Machines.{HasAddress, HaveAddresses}
use Rattle.laws_simulation.proofs.RequestsSound.{room_of}

-- ---- all harts

set_addressed : (harts : List Hart) (h : ℕ) (next : Hart) → HaveAddresses harts → HasAddress next.reservation → HaveAddresses (slice_set harts h next)
set_addressed [] h next have has = tt
set_addressed (x ∷ harts) zero next have has = (has, have.1)
set_addressed (x ∷ harts) (suc h) next have has = (have.0, set_addressed harts h next have.1 has)

at_addressed : (harts : List Hart) (h : ℕ) (hart : Hart) → HaveAddresses harts → slice_get harts h ≡ Some hart → HasAddress hart.reservation
at_addressed [] h hart have there = cc
at_addressed (x ∷ harts) zero hart have there = let same : x ≡ hart = cc in subst (λ (y : Hart). HasAddress y.reservation) same have.0
at_addressed (x ∷ harts) (suc h) hart have there = at_addressed harts h hart have.1 there

choose_option : (b : Bool) (x : Option ℕ) → HasAddress x → HasAddress (if b then None else x)
choose_option true x has = tt
choose_option false x has = has

write_addressed : (at width : ℕ) (x : Option ℕ) → HasAddress x → HasAddress (after_write at width x)
unfolding after_write
write_addressed at width None has = tt
write_addressed at width (Some reserved) has = choose_option (touches reserved at width) (Some reserved) has

map_addressed : (at width : ℕ) (harts : List Hart) → HaveAddresses harts → HaveAddresses (map (hart_after_write at width) harts)
map_addressed at width [] have = tt
map_addressed at width (x ∷ harts) have = (write_addressed at width x.reservation have.0, map_addressed at width harts have.1)

software_addressed : (named : Bool) (hart : Hart) → HasAddress hart.reservation → HasAddress (if named then with_software hart else hart).reservation
software_addressed true hart has = has
software_addressed false hart has = has

sent_addressed : (named : ℕ → Bool) (first : ℕ) (harts : List Hart) → HaveAddresses harts → HaveAddresses (interrupt_harts named first harts)
unfolding interrupt_harts
sent_addressed named first [] have = tt
sent_addressed named first (x ∷ harts) have = (software_addressed (named first) x have.0, sent_addressed named (first + 1) harts have.1)

-- the harts of a state
abbrev Keeps : State → Type 0
Keeps r = HaveAddresses r.harts

choose_keeps : (b : Bool) (x y : State) → Keeps x → Keeps y → Keeps (if b then x else y)
choose_keeps true x y k l = k
choose_keeps false x y k l = l

bytes_keep : (r : State) (at : ℕ) (bytes : List ℕ) → Keeps r → Keeps (with_bytes r at bytes)
unfolding with_bytes
bytes_keep r at bytes k = map_addressed at (length bytes) r.harts k

-- ---- traps

trap_keeps : (r : State) (h : ℕ) (hart : Hart) (from : Mode) (interrupt : Bool) (cause tval : ℕ) → Keeps r → Keeps (trap_from r h hart from interrupt cause tval)
unfolding trap_from hart_at_trap
trap_keeps r h hart from interrupt cause tval k =
    choose_keeps (may_enter r.rules from (trap_target hart.supervisor.stvec interrupt cause)) _ _ (set_addressed r.harts h _ k tt) k

exception_keeps : (r : State) (h : ℕ) (hart : Hart) (cause : Cause) (tval : ℕ) → Keeps r → Keeps (exception r h hart cause tval)
exception_keeps r h hart cause tval k = trap_keeps r h hart hart.mode false (cause_number cause) tval k

return_keeps : (r : State) (h : ℕ) (hart : Hart) → Keeps r → Keeps (returned_from_trap r h hart)
unfolding returned_from_trap hart_at_return
return_keeps r h hart k = set_addressed r.harts h _ k tt

-- ---- loads

device_load_keeps : (r : State) (h : ℕ) (hart : Hart) (rd address width : ℕ) (signed : Bool) (x : Option DeviceLoad) → Keeps r
    → Keeps (carry_out_device_load r h hart rd address width signed x)
unfolding carry_out_device_load
device_load_keeps r h hart rd address width signed None k = exception_keeps r h hart Cause.LoadAccess address k
device_load_keeps r h hart rd address width signed (Some l) k = set_addressed r.harts h _ k tt

load_keeps : (r : State) (h : ℕ) (hart : Hart) (rd address width : ℕ) (signed : Bool) (x : Source) → Keeps r → HasAddress hart.reservation
    → Keeps (carry_out_load r h hart rd address width signed x)
unfolding carry_out_load
load_keeps r h hart rd address width signed (Source.NoSource cause) k has = exception_keeps r h hart cause address k
load_keeps r h hart rd address width signed (Source.FromRam gpa) k has = set_addressed r.harts h _ k has
load_keeps r h hart rd address width signed (Source.FromDevice gpa) k has = device_load_keeps r h hart rd address width signed (device_load r.devices gpa width) k

-- what is known of a place that a load reads
abbrev IsSource : List ℕ → ℕ → Source → Type 0
IsSource ram width (Source.NoSource cause) = Unit {0}
IsSource ram width (Source.FromRam gpa) = in_ram ram gpa width ≡ true
IsSource ram width (Source.FromDevice gpa) = Unit {0}

in_ram_source : (ram : List ℕ) (gpa width : ℕ) (b : Bool) → in_ram ram gpa width ≡ b → IsSource ram width (if b then Source.FromRam gpa else Source.FromDevice gpa)
in_ram_source ram gpa width true e = e
in_ram_source ram gpa width false e = tt

is_source_at : (ram : List ℕ) (width : ℕ) (d : Destination) → IsSource ram width (source_at ram width d)
unfolding source_at
is_source_at ram width (At gpa) = in_ram_source ram gpa width (in_ram ram gpa width) refl
is_source_at ram width PageFault = tt
is_source_at ram width (Unreadable entry) = tt

aligned_source : (ram : List ℕ) (width : ℕ) (aligned : Bool) (d : Destination)
    → IsSource ram width (if aligned then source_at ram width d else Source.NoSource Cause.LoadMisaligned)
aligned_source ram width true d = is_source_at ram width d
aligned_source ram width false d = tt

is_source : (ram : List ℕ) (settings : Settings) (mode : Mode) (address width : ℕ) → IsSource ram width (load_source ram settings mode address width)
unfolding load_source
is_source ram settings mode address width = aligned_source ram width (address % width == 0) (place ram settings mode address Access.Load)

-- RAM lies below the end of all addresses
abbrev IsSmall : List ℕ → Type 0
IsSmall ram = length ram ≤ page_size * max_ram_pages

reserved_address : (ram : List ℕ) (gpa width : ℕ) → IsSmall ram → in_ram ram gpa width ≡ true → gpa_at (reserved_at (ram_offset gpa)) < 2 ^ 64
reserved_address ram gpa width small inside = below (ram_offset gpa) width (length ram) small (room_of ram gpa width inside)
  where
    below : (at width size : ℕ) → size ≤ page_size * max_ram_pages → at + width ≤ size → gpa_at (reserved_at at) < 2 ^ 64
    below at width size small room = omega arith

load_reserved_keeps : (r : State) (h : ℕ) (hart : Hart) (rd address width : ℕ) (x : Source) → IsSmall r.ram → IsSource r.ram width x → Keeps r
    → Keeps (carry_out_load_reserved r h hart rd address width x)
unfolding carry_out_load_reserved
load_reserved_keeps r h hart rd address width (Source.NoSource cause) small is k = exception_keeps r h hart cause address k
load_reserved_keeps r h hart rd address width (Source.FromRam gpa) small is k = set_addressed r.harts h _ k (reserved_address r.ram gpa width small is)
load_reserved_keeps r h hart rd address width (Source.FromDevice gpa) small is k = exception_keeps r h hart Cause.LoadAccess address k

-- ---- stores

device_store_keeps : (r : State) (h : ℕ) (hart : Hart) (address : ℕ) (x : Option DeviceStore) → Keeps r → Keeps (carry_out_device_store r h hart address x)
unfolding carry_out_device_store
device_store_keeps r h hart address None k = exception_keeps r h hart Cause.StoreAccess address k
device_store_keeps r h hart address (Some s) k = set_addressed r.harts h _ k tt

written_keeps : (r : State) (h : ℕ) (next : Hart) (at : ℕ) (bytes : List ℕ) → Keeps r → HasAddress next.reservation → Keeps (carried_out_writing r h next at bytes)
unfolding with_bytes
written_keeps r h next at bytes k has = map_addressed at (length bytes) (slice_set r.harts h next) (set_addressed r.harts h next k has)

store_keeps : (r : State) (h : ℕ) (hart : Hart) (address width value : ℕ) (x : Target) → Keeps r → HasAddress hart.reservation
    → Keeps (carry_out_store r h hart address width value x)
unfolding carry_out_store
store_keeps r h hart address width value (Target.NoTarget cause) k has = exception_keeps r h hart cause address k
store_keeps r h hart address width value (Target.Guarded gpa) k has = k
store_keeps r h hart address width value (Target.ToRam gpa) k has = written_keeps r h _ (ram_offset gpa) _ k has
store_keeps r h hart address width value (Target.ToDevice gpa) k has = device_store_keeps r h hart address (device_store r.devices r.journal gpa width value) k

store_conditional_keeps : (r : State) (h : ℕ) (hart : Hart) (rd address width value : ℕ) (x : Target) → Keeps r
    → Keeps (carry_out_store_conditional r h hart rd address width value x)
unfolding carry_out_store_conditional
store_conditional_keeps r h hart rd address width value (Target.NoTarget cause) k = exception_keeps r h hart cause address k
store_conditional_keeps r h hart rd address width value (Target.Guarded gpa) k = k
store_conditional_keeps r h hart rd address width value (Target.ToRam gpa) k =
    choose_keeps (covers hart.reservation (ram_offset gpa) width) _ _ (written_keeps r h _ (ram_offset gpa) _ k tt) (set_addressed r.harts h _ k tt)
store_conditional_keeps r h hart rd address width value (Target.ToDevice gpa) k = exception_keeps r h hart Cause.StoreAccess address k

amo_keeps : (r : State) (h : ℕ) (hart : Hart) (rd address width : ℕ) (op : AmoOp) (value : ℕ) (x : Target) → Keeps r → HasAddress hart.reservation
    → Keeps (carry_out_amo r h hart rd address width op value x)
unfolding carry_out_amo
amo_keeps r h hart rd address width op value (Target.NoTarget cause) k has = exception_keeps r h hart cause address k
amo_keeps r h hart rd address width op value (Target.Guarded gpa) k has = k
amo_keeps r h hart rd address width op value (Target.ToRam gpa) k has = written_keeps r h _ (ram_offset gpa) _ k has
amo_keeps r h hart rd address width op value (Target.ToDevice gpa) k has = exception_keeps r h hart Cause.StoreAccess address k

-- ---- registers

csr_next : (writes : Bool) (hart new : Hart) → new.reservation ≡ hart.reservation → HasAddress hart.reservation → HasAddress (if writes then new else hart).reservation
csr_next true hart new same has = subst HasAddress (sym same) has
csr_next false hart new same has = has

csr_keeps : (r : State) (h : ℕ) (hart : Hart) (w rd : ℕ) (op : CsrOp) (operand : ℕ) (writes : Bool) (x : Option Csr) → Keeps r → HasAddress hart.reservation
    → Keeps (carry_out_csr r h hart w rd op operand writes x)
unfolding carry_out_csr
csr_keeps r h hart w rd op operand writes None k has = exception_keeps r h hart Cause.Illegal w k
csr_keeps r h hart w rd op operand writes (Some csr) k has = set_addressed r.harts h _ k (csr_next writes hart _ refl has)

-- ---- calls, by what an answer does

replied_addressed : (reply : Reply) (hart : Hart) → HasAddress (with_reply reply hart).reservation
unfolding with_reply
replied_addressed (Gives a0) hart = tt
replied_addressed (Replies a0 a1) hart = tt
replied_addressed Stays hart = tt
replied_addressed Stops hart = tt

beside_addressed : (b : SideEffect) (harts : List Hart) → HaveAddresses harts → HaveAddresses (harts_side_effect b harts)
unfolding harts_side_effect hart_at
beside_addressed (SendsInterrupts mask base) harts have = sent_addressed (mask_names mask base) 0 harts have
beside_addressed (StartsHart other pc opaque) harts have = set_addressed harts other _ have tt
beside_addressed _ harts have = have

answered_keeps : (r : State) (h : ℕ) (hart : Hart) (a : Answer) → Keeps r → Keeps (state_after_answer r h hart a)
unfolding state_after_answer
answered_keeps r h hart a k =
    beside_addressed a.side_effect (slice_set r.harts h (with_reply a.reply hart)) (set_addressed r.harts h (with_reply a.reply hart) k (replied_addressed a.reply hart))

load_step_keeps : (r : State) (h : ℕ) (hart : Hart) (load : Loading) (left : ℕ) → Keeps r → Keeps (load_step_of r h hart load left)
unfolding load_step_of decide
load_step_keeps r h hart load zero k = answered_keeps r h hart _ k
load_step_keeps r h hart load (suc left) k = k

-- ---- instructions

kernel_only_keeps : (r : State) (h : ℕ) (hart : Hart) (w : ℕ) (mode : Mode) → Keeps r → HasAddress hart.reservation → Keeps (carry_out_kernel_only r h hart w mode)
unfolding carry_out_kernel_only
kernel_only_keeps r h hart w Kernel k has = set_addressed r.harts h _ k has
kernel_only_keeps r h hart w User k has = exception_keeps r h hart Cause.Illegal w k

ecall_keeps : (r : State) (h : ℕ) (hart : Hart) (mode : Mode) → Keeps r → Keeps (carry_out_ecall r h hart mode)
unfolding carry_out_ecall
ecall_keeps r h hart Kernel k = answered_keeps r h hart _ k
ecall_keeps r h hart User k = exception_keeps r h hart Cause.UserCall 0 k

sret_keeps : (r : State) (h : ℕ) (hart : Hart) (w : ℕ) (mode : Mode) → Keeps r → Keeps (carry_out_sret r h hart w mode)
unfolding carry_out_sret
sret_keeps r h hart w Kernel k = return_keeps r h hart k
sret_keeps r h hart w User k = exception_keeps r h hart Cause.Illegal w k

effect_keeps : (r : State) (h : ℕ) (hart : Hart) (w : ℕ) (e : Effect) → IsSmall r.ram → Keeps r → HasAddress hart.reservation → Keeps (carry_out_effect r h hart w e)
unfolding carry_out_effect
effect_keeps r h hart w (Effect.Set rd value next) small k has = set_addressed r.harts h _ k has
effect_keeps r h hart w (Effect.MisalignedJump target) small k has = exception_keeps r h hart Cause.InstrMisaligned target k
effect_keeps r h hart w (Effect.Load rd address width signed) small k has = load_keeps r h hart rd address width signed (source_of r hart address width) k has
effect_keeps r h hart w (Effect.Store address width value) small k has = store_keeps r h hart address width value (target_of r hart address width) k has
effect_keeps r h hart w (Effect.LoadReserved rd address width) small k has =
    load_reserved_keeps r h hart rd address width (source_of r hart address width) small
    (is_source r.ram (settings_of hart.supervisor) hart.mode address width) k
effect_keeps r h hart w (Effect.StoreConditional rd address width value) small k has =
    store_conditional_keeps r h hart rd address width value (target_of r hart address width) k
effect_keeps r h hart w (Effect.Amo rd address width op value) small k has = amo_keeps r h hart rd address width op value (target_of r hart address width) k has
effect_keeps r h hart w (Effect.Csr rd number op operand writes) small k has = csr_keeps r h hart w rd op operand writes (csr_asked hart number writes) k has
effect_keeps r h hart w Effect.Ecall small k has = ecall_keeps r h hart hart.mode k
effect_keeps r h hart w Effect.Ebreak small k has = exception_keeps r h hart Cause.Breakpoint hart.pc k
effect_keeps r h hart w Effect.Sret small k has = sret_keeps r h hart w hart.mode k
effect_keeps r h hart w Effect.Wfi small k has = kernel_only_keeps r h hart w hart.mode k has
effect_keeps r h hart w Effect.SfenceVma small k has = kernel_only_keeps r h hart w hart.mode k has
effect_keeps r h hart w Effect.Fence small k has = set_addressed r.harts h _ k has
effect_keeps r h hart w Effect.Hyper small k has = exception_keeps r h hart Cause.Illegal w k

instruction_keeps : (r : State) (h : ℕ) (hart : Hart) (w : ℕ) (x : Option Instr) → IsSmall r.ram → Keeps r → HasAddress hart.reservation
    → Keeps (carry_out_instruction r h hart w x)
unfolding carry_out_instruction
instruction_keeps r h hart w None small k has = exception_keeps r h hart Cause.Illegal w k
instruction_keeps r h hart w (Some i) small k has = effect_keeps r h hart w (effect_of i hart.registers hart.pc) small k has

-- ---- turns

fetch_keeps : (r : State) (h : ℕ) (hart : Hart) (x : Fetched) → IsSmall r.ram → Keeps r → HasAddress hart.reservation → Keeps (act_on_fetch r h hart x)
unfolding act_on_fetch carry_out_word
fetch_keeps r h hart (NoWord cause) small k has = exception_keeps r h hart cause hart.pc k
fetch_keeps r h hart (Stray gpa) small k has = set_addressed r.harts h _ k tt
fetch_keeps r h hart (Word w) small k has = instruction_keeps r h hart w (instruction_of w) small k has

-- in an entry, the pc leads into its page, or the hart is demoted, or it leaves the entry and goes on
entry_keeps : (r : State) (h : ℕ) (hart : Hart) (x : Option Binding) → IsSmall r.ram → Keeps r → HasAddress hart.reservation → Keeps (fetch_in_entry r h hart x)
unfolding fetch_in_entry
entry_keeps r h hart None small k has = fetch_keeps r h hart (fetch_of r hart) small k has
entry_keeps r h hart (Some entry) small k has =
    choose_keeps (leads_into r (page_of entry.gpa) (place_of_pc r hart)) _ _ (fetch_keeps r h hart (fetch_of r hart) small k has)
    (choose_keeps (hart.pc == entry.va) _ _ (set_addressed r.harts h _ k tt)
    (fetch_keeps (leave_entry r h hart) h (outside_entry hart) (fetch_of (leave_entry r h hart) (outside_entry hart)) small (set_addressed r.harts h _ k has) has))

pending_keeps : (r : State) (h : ℕ) (hart : Hart) (x : Option Interrupt) → IsSmall r.ram → Keeps r → HasAddress hart.reservation → Keeps (act_on_pending r h hart x)
unfolding act_on_pending
pending_keeps r h hart (Some interrupt) small k has = trap_keeps r h hart hart.mode true (interrupt_number interrupt) 0 k
pending_keeps r h hart None small k has = entry_keeps r h hart (bound_entry r.rules hart.entry) small k has

act_keeps : (r : State) (h : ℕ) (hart : Hart) → IsSmall r.ram → Keeps r → HasAddress hart.reservation → Keeps (act r h hart)
unfolding act
act_keeps r h hart small k has = pending_keeps r h hart (deliverable hart.mode hart.supervisor (lines_at r.devices h)) small k has

started_keeps : (r : State) (h : ℕ) (hart : Hart) (x : Option Loading) → IsSmall r.ram → Keeps r → HasAddress hart.reservation → Keeps (turn_of_started r h hart x)
unfolding turn_of_started
started_keeps r h hart None small k has = act_keeps r h hart small k has
started_keeps r h hart (Some load) small k has = choose_keeps (load.hart == h) _ _ (load_step_keeps r h hart load load.left k) (act_keeps r h hart small k has)

hart_turn_keeps : (r : State) (h : ℕ) (x : Option Hart) → slice_get r.harts h ≡ x → IsSmall r.ram → Keeps r → Keeps (turn_of r h x)
unfolding turn_of
hart_turn_keeps r h None there small k = k
hart_turn_keeps r h (Some hart) there small k =
    choose_keeps hart.started _ _ (started_keeps r h hart r.loading small k (at_addressed r.harts h hart k there)) k

turn_keeps : (r : State) (h : ℕ) → IsSmall r.ram → Keeps r → Keeps (turn r h)
unfolding turn
turn_keeps r h small k = hart_turn_keeps r h (slice_get r.harts h) refl small k

-- ---- the other events

move_keeps : (r : State) (x : Move) → Keeps r → Keeps (after_move r x)
unfolding after_move
move_keeps r Idle k = k
move_keeps r (FromRam gpa) k = k
move_keeps r (IntoRam gpa bytes) k = bytes_keep r (ram_offset gpa) bytes k
move_keeps r (DeniedAt gpa) k = k
move_keeps r OutsideRam k = k

beat_keeps : (r : State) → Keeps r → Keeps (beat r)
unfolding beat
beat_keeps r k =
    let b : DmaStep = disk_beat r.devices.disk r.ram (λ page. not (is_protected r page)) in
    move_keeps (with_disk r b.disk) b.move k

poke_keeps : (r : State) (gpa value : ℕ) → Keeps r → Keeps (poke r gpa value)
unfolding poke
poke_keeps r gpa value k = move_keeps r (poke_move r.ram (λ page. may_move_to r page) gpa value) k

key_keeps : (r : State) (byte : ℕ) → Keeps r → Keeps (key r byte)
unfolding key
key_keeps r byte k = k

tick_keeps : (r : State) (n : ℕ) → Keeps r → Keeps (tick r n)
unfolding tick
tick_keeps r n k = k

-- ---- each event

happen_keeps : (r : State) (e : Event) → IsSmall r.ram → Keeps r → Keeps (happen r e)
unfolding happen
happen_keeps r (Turn h) small k = turn_keeps (count r count_turn) h small k
happen_keeps r Beat small k = beat_keeps (count r count_beat) k
happen_keeps r (Key byte) small k = key_keeps (count r count_key) byte k
happen_keeps r (Tick n) small k = tick_keeps (count r count_tick) n k
happen_keeps r (Poke gpa value) small k = poke_keeps (count r count_beat) gpa value k

under_keeps : (verdict : Verdict) (r : State) (e : Event) → IsSmall r.ram → Keeps r → Keeps (happen_under verdict r e)
unfolding happen_under
under_keeps Running r e small k = happen_keeps r e small k
under_keeps Shutdown r e small k = k
under_keeps (Stopped rule h at) r e small k = k

pub step_addressed : (r : State) (e : Event) → length r.ram ≤ page_size * max_ram_pages → HaveAddresses r.harts → HaveAddresses (step r e).harts
unfolding step
step_addressed r e small k = under_keeps r.journal.verdict r e small k
