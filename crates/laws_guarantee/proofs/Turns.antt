-- What each turn does, by a walk through all that a turn may be.
use Rattle.std.proofs.Common.{◌≡◌, ℕ, zero, suc, ◌⊎◌, inl, inr, List, map, refl, sym, ◌∙◌, ap, subst, Bool, true, false, slice_get, slice_set}
use Rattle.std.specs.Prelude.{Option, Some, None, option_map, if◌then◌else◌, ◌==◌}
use Rattle.std.proofs.lemmas.Bool.{eqb-true, eq-eqb}
use Rattle.spec_processor.specs.Bytes.{page_of, page_bytes, ram_offset, low_bytes}
use Rattle.spec_processor.specs.Causes.{cause_number}
use Rattle.sv_types.specs.Console.{stored_byte}
use Rattle.spec_processor.specs.Effects.{effect_of}
use Rattle.spec_processor.specs.Instructions.{instruction_of}
use Rattle.spec_processor.specs.Regions.{IsWidth}
use Rattle.spec_processor.specs.Requests.{covers, WritesBytes}
use Rattle.spec_processor.specs.Traps.{trap_target, interrupt_number, deliverable, mode_at_return}
use Rattle.spec_processor.specs.declared.cause.Cause.{Cause}
use Rattle.spec_processor.specs.declared.csr.Csr.{Csr}
use Rattle.spec_processor.specs.declared.effect.Effect.{Effect}
use Rattle.sv_types.specs.declared.event.Verdict.TheVariants.{Running}
use Rattle.spec_processor.specs.declared.instruction.AmoOp.{AmoOp}
use Rattle.spec_processor.specs.declared.instruction.CsrOp.{CsrOp}
use Rattle.spec_processor.specs.declared.instruction.Instr.{Instr}
use Rattle.spec_processor.specs.declared.interrupt.Interrupt.{Interrupt}
use Rattle.spec_processor.specs.declared.mode.Mode.{Mode}
use Rattle.spec_processor.specs.declared.mode.Mode.TheVariants.{Kernel, User}
use Rattle.spec_reference.specs.Answers.{with_reply, journal_side_effect, pages_side_effect, harts_side_effect, state_after_answer, call}
use Rattle.spec_reference.specs.Calls.{asked_by, facts_of, extension_of, mask_names, interrupt_harts, started_hart}
use Rattle.spec_reference.specs.Counting.{printed_low}
use Rattle.spec_reference.specs.Devices.{DeviceLoad, DeviceStore, Port, ConsoleAt, DiskAt, Nowhere, port_at, port_store, device_load, device_store, lines_at, with_bytes}
use Rattle.spec_reference.specs.Disk.{disk_store}
use Rattle.spec_reference.specs.Loads.{decide, is_good_load, load_step_of}
use Rattle.spec_reference.specs.ModuleCalls.{answer_of, load_decision}
use Rattle.spec_reference.specs.Requests.{carried_out, carried_out_writing, Source, NoSource, FromRam, FromDevice, Target, NoTarget}
use Rattle.spec_reference.specs.Requests.{Guarded, ToRam, ToDevice, carry_out_device_load, carry_out_load, carry_out_load_reserved}
use Rattle.spec_reference.specs.Requests.{carry_out_device_store, carry_out_store, write_stopped, carry_out_store_conditional}
use Rattle.spec_reference.specs.Requests.{carry_out_amo, carry_out_csr, source_of, target_of, csr_asked}
use Rattle.spec_reference.specs.Soundness.{IsSoundLoad}
use Rattle.spec_reference.specs.States.{State, Hart, Binding, Devices, Disk, Journal, Loading, has_number, is_protected}
use Rattle.spec_reference.specs.Trapping.{trap_from, trap_entered, exception, returned_from_trap, hart_at_trap, hart_at_return}
use Rattle.spec_reference.specs.Turn.{fetch_and_act, place_of_pc, leads_into, noted_gpa, outside_entry, leave_entry, fetch_in_entry}
use Rattle.spec_reference.specs.Turn.{bound_entry, carry_out_kernel_only, carry_out_ecall, carry_out_sret, carry_out_effect}
use Rattle.spec_reference.specs.Turn.{carry_out_instruction, carry_out_word, effect_of_word, Fetched, NoWord, Stray, Word, fetch_of, demote}
use Rattle.spec_reference.specs.Turn.{act_on_fetch, act_on_pending, act, turn_of_started, turn_of, turn}
use Rattle.spec_reference.specs.declared.answers.Answer.{Answer}
use Rattle.spec_reference.specs.declared.answers.SideEffect.{SideEffect}
use Rattle.spec_reference.specs.declared.answers.SideEffect.TheVariants.{ShutsDown, SendsInterrupts, StartsHart, BeginsLoad}
use Rattle.spec_reference.specs.declared.answers.Reply.{Reply}
use Rattle.spec_reference.specs.declared.answers.Reply.TheVariants.{Gives, Replies, Stays, Stops}
use Rattle.laws_simulation.proofs.AllTold.{all_told}
use Rattle.laws_simulation.proofs.EffectsAgree.{IsTold}
use Rattle.laws_simulation.proofs.AttemptsAgree.{get_back}
use Rattle.laws_simulation.proofs.AnswersMay.{MayHaveSideEffect, decision_may, answer_may}
use Rattle.laws_simulation.proofs.Lookups.{both}
use Rattle.laws_simulation.proofs.OthersRest.{with_software_if, get_sent, was_stopped, same_one}
use Rattle.laws_simulation.proofs.RequestsSound.{FreeTarget, IsFreePlace, target_free, free_page}
use Rattle.laws_simulation.proofs.Sounds.{InFreePage}
use Rattle.laws_simulation.proofs.StepsSound.{leave_goes}
use Rattle.laws_guarantee.specs.Guarantee.{Strays, IsOutOfPlace, WritesGuarded}
use Rattle.laws_guarantee.proofs.StraysAt.{strays}
use Rattle.laws_guarantee.proofs.Does.{Leaving, Returning, Demoting, IsMoving, Own, Same, Entered, Returned, Demoted, Halted, Other, Rests}
use Rattle.laws_guarantee.proofs.Does.{Begins, IsNoStop, GoesOn, StopsAtEntry, StopsAtWrite, Does, rests_other, does_nothing, does_set}
use Rattle.laws_guarantee.proofs.Does.{does_write, choose_does, decide_does, does_for, does_left}
use Rattle.sv_types.proofs.SetElements.{set_other}

-- ---- traps

entered_all : (q : State) (h : ℕ) (hart : Hart) (interrupt : Bool) (cause tval : ℕ)
    → has_number q.rules.entries (trap_target hart.supervisor.stvec interrupt cause) ≡ true
    → trap_entered q h hart User interrupt cause tval ≡ trap_from q h hart User interrupt cause tval
unfolding trap_from
entered_all q h hart interrupt cause tval permitted = rw permitted refl

pub trap_does : (writes : ℕ → Type 0) (reasons : Leaving → Type 0) (q : State) (h : ℕ) (hart : Hart) (from : Mode) (interrupt : Bool) (cause tval : ℕ) → IsMoving q h hart → hart.mode ≡ from
    → Does writes reasons q h hart (trap_from q h hart from interrupt cause tval)
unfolding trap_from hart_at_trap
trap_does writes reasons q h hart Kernel interrupt cause tval at mode = does_set writes reasons q h hart _ _ at refl refl (Same (sym mode) refl) at.running
trap_does writes reasons q h hart User interrupt cause tval at mode =
    decide_does writes reasons q h hart (has_number q.rules.entries (trap_target hart.supervisor.stvec interrupt cause)) _ _
    (λ permitted. does_set writes reasons q h hart _ _ at refl refl (Entered interrupt cause tval mode permitted refl (entered_all q h hart interrupt cause tval permitted)) at.running)
    (λ other. does_nothing writes reasons q h hart _ at refl refl (StopsAtEntry interrupt cause mode other refl))

pub exception_does : (writes : ℕ → Type 0) (reasons : Leaving → Type 0) (q : State) (h : ℕ) (hart : Hart) (cause : Cause) (tval : ℕ) → IsMoving q h hart
    → Does writes reasons q h hart (exception q h hart cause tval)
exception_does writes reasons q h hart cause tval at = trap_does writes reasons q h hart hart.mode false (cause_number cause) tval at refl

return_by : (writes : ℕ → Type 0) (reasons : Leaving → Type 0) (q : State) (h : ℕ) (hart : Hart) (to : Mode) → IsMoving q h hart → hart.mode ≡ Kernel → mode_at_return hart.supervisor.sstatus ≡ to
    → reasons Returning → Does writes reasons q h hart (returned_from_trap q h hart)
unfolding returned_from_trap hart_at_return
return_by writes reasons q h hart Kernel at kernel mode why = does_set writes reasons q h hart _ _ at refl refl (Same (mode ∙ sym kernel) refl) at.running
return_by writes reasons q h hart User at kernel mode why = does_set writes reasons q h hart _ _ at refl refl (Returned why mode refl) at.running

demote_does : (writes : ℕ → Type 0) (reasons : Leaving → Type 0) (q : State) (h : ℕ) (hart : Hart) (gpa : ℕ) → IsMoving q h hart → reasons (Demoting gpa)
    → Does writes reasons q h hart (demote q h hart gpa)
demote_does writes reasons q h hart gpa at why = does_set writes reasons q h hart _ _ at refl refl (Demoted gpa why refl refl) at.running

-- ---- requests

device_load_does : (writes : ℕ → Type 0) (reasons : Leaving → Type 0) (q : State) (h : ℕ) (hart : Hart) (rd address width : ℕ) (signed : Bool) (x : Option DeviceLoad) → IsMoving q h hart
    → Does writes reasons q h hart (carry_out_device_load q h hart rd address width signed x)
unfolding carry_out_device_load
device_load_does writes reasons q h hart rd address width signed None at = exception_does writes reasons q h hart Cause.LoadAccess address at
device_load_does writes reasons q h hart rd address width signed (Some l) at = does_set writes reasons q h hart _ _ at refl refl (Same refl refl) at.running

load_does : (writes : ℕ → Type 0) (reasons : Leaving → Type 0) (q : State) (h : ℕ) (hart : Hart) (rd address width : ℕ) (signed : Bool) (x : Source) → IsMoving q h hart
    → Does writes reasons q h hart (carry_out_load q h hart rd address width signed x)
unfolding carry_out_load
load_does writes reasons q h hart rd address width signed (NoSource cause) at = exception_does writes reasons q h hart cause address at
load_does writes reasons q h hart rd address width signed (FromRam gpa) at = does_set writes reasons q h hart _ _ at refl refl (Same refl refl) at.running
load_does writes reasons q h hart rd address width signed (FromDevice gpa) at = device_load_does writes reasons q h hart rd address width signed (device_load q.devices gpa width) at

load_reserved_does : (writes : ℕ → Type 0) (reasons : Leaving → Type 0) (q : State) (h : ℕ) (hart : Hart) (rd address width : ℕ) (x : Source) → IsMoving q h hart
    → Does writes reasons q h hart (carry_out_load_reserved q h hart rd address width x)
unfolding carry_out_load_reserved
load_reserved_does writes reasons q h hart rd address width (NoSource cause) at = exception_does writes reasons q h hart cause address at
load_reserved_does writes reasons q h hart rd address width (FromRam gpa) at = does_set writes reasons q h hart _ _ at refl refl (Same refl refl) at.running
load_reserved_does writes reasons q h hart rd address width (FromDevice gpa) at = exception_does writes reasons q h hart Cause.LoadAccess address at

-- a device leaves the verdict
console_verdict : (d : Devices) (j : Journal) (x : Option ℕ) (s : DeviceStore) → option_map (λ byte. record { devices = d; journal = printed_low byte j }) x ≡ Some s
    → s.journal.verdict ≡ j.verdict
console_verdict d j None s e = absurd (cc)
console_verdict d j (Some byte) s e =
    let same : record { devices = d; journal = printed_low byte j } ≡ s = cc in ap (λ (x : DeviceStore). x.journal.verdict) (sym same)

disk_verdict : (d : Devices) (j : Journal) (x : Option Disk) (s : DeviceStore)
    → option_map (λ (disk : Disk). record { devices = record d { disk = disk }; journal = j }) x ≡ Some s → s.journal.verdict ≡ j.verdict
disk_verdict d j None s e = absurd (cc)
disk_verdict d j (Some disk) s e =
    let same : record { devices = record d { disk = disk }; journal = j } ≡ s = cc in ap (λ (x : DeviceStore). x.journal.verdict) (sym same)

port_verdict : (d : Devices) (j : Journal) (port : Port) (width value : ℕ) (s : DeviceStore) → port_store d j port width value ≡ Some s → s.journal.verdict ≡ j.verdict
unfolding port_store
port_verdict d j (ConsoleAt offset) width value s e = console_verdict d j (stored_byte offset width value) s e
port_verdict d j (DiskAt offset) width value s e = disk_verdict d j (disk_store d.disk offset width value) s e
port_verdict d j Nowhere width value s e = absurd (cc)

pub store_verdict : (d : Devices) (j : Journal) (gpa width value : ℕ) (s : DeviceStore) → device_store d j gpa width value ≡ Some s → s.journal.verdict ≡ j.verdict
unfolding device_store
store_verdict d j gpa width value s e = port_verdict d j (port_at gpa) width value s e

device_store_does : (writes : ℕ → Type 0) (reasons : Leaving → Type 0) (q : State) (h : ℕ) (hart : Hart) (address : ℕ) (x : Option DeviceStore) → IsMoving q h hart
    → ((s : DeviceStore) → x ≡ Some s → s.journal.verdict ≡ q.journal.verdict) → Does writes reasons q h hart (carry_out_device_store q h hart address x)
unfolding carry_out_device_store
device_store_does writes reasons q h hart address None at same = exception_does writes reasons q h hart Cause.StoreAccess address at
device_store_does writes reasons q h hart address (Some s) at same = does_set writes reasons q h hart _ _ at refl refl (Same refl refl) (same s refl ∙ at.running)

-- the hart goes on, and bytes are written
written_does : (writes : ℕ → Type 0) (reasons : Leaving → Type 0) (q : State) (h : ℕ) (hart x : Hart) (gpa width value : ℕ) → IsMoving q h hart → x.mode ≡ hart.mode → x.started ≡ hart.started
    → IsWidth width → IsFreePlace q gpa width → Does writes reasons q h hart (carried_out_writing q h x (ram_offset gpa) (low_bytes width value))
unfolding with_bytes
written_does writes reasons q h hart x gpa width value at mode started whole free =
    let page : InFreePage (carried_out q h x) (ram_offset gpa) (low_bytes width value) = free_page q h x gpa width value whole free in
    does_write writes reasons q h hart _ x (ram_offset gpa) (low_bytes width value) at
    (record { page = page.page; free = page.free; unheld = page.unheld; first = page.first; last = page.last; inside = page.inside }) refl refl mode started at.running

guarded_does : (writes : ℕ → Type 0) (reasons : Leaving → Type 0) (q : State) (h : ℕ) (hart : Hart) (gpa : ℕ) → IsMoving q h hart → writes gpa
    → Does writes reasons q h hart (write_stopped q h hart gpa)
guarded_does writes reasons q h hart gpa at w = does_nothing writes reasons q h hart _ at refl refl (StopsAtWrite false gpa w refl)

store_does : (writes : ℕ → Type 0) (reasons : Leaving → Type 0) (q : State) (h : ℕ) (hart : Hart) (address width value : ℕ) (x : Target) → IsMoving q h hart → IsWidth width → FreeTarget q width x
    → ((gpa : ℕ) → x ≡ Guarded gpa → writes gpa) → Does writes reasons q h hart (carry_out_store q h hart address width value x)
unfolding carry_out_store
store_does writes reasons q h hart address width value (NoTarget cause) at whole free may = exception_does writes reasons q h hart cause address at
store_does writes reasons q h hart address width value (Guarded gpa) at whole free may = guarded_does writes reasons q h hart gpa at (may gpa refl)
store_does writes reasons q h hart address width value (ToRam gpa) at whole free may = written_does writes reasons q h hart _ gpa width value at refl refl whole free
store_does writes reasons q h hart address width value (ToDevice gpa) at whole free may =
    device_store_does writes reasons q h hart address (device_store q.devices q.journal gpa width value) at (store_verdict q.devices q.journal gpa width value)

store_conditional_does : (writes : ℕ → Type 0) (reasons : Leaving → Type 0) (q : State) (h : ℕ) (hart : Hart) (rd address width value : ℕ) (x : Target) → IsMoving q h hart
    → IsWidth width → FreeTarget q width x
    → ((gpa : ℕ) → x ≡ Guarded gpa → writes gpa) → Does writes reasons q h hart (carry_out_store_conditional q h hart rd address width value x)
unfolding carry_out_store_conditional
store_conditional_does writes reasons q h hart rd address width value (NoTarget cause) at whole free may = exception_does writes reasons q h hart cause address at
store_conditional_does writes reasons q h hart rd address width value (Guarded gpa) at whole free may = guarded_does writes reasons q h hart gpa at (may gpa refl)
store_conditional_does writes reasons q h hart rd address width value (ToRam gpa) at whole free may =
    choose_does writes reasons q h hart (covers hart.reservation (ram_offset gpa) width) _ _ (written_does writes reasons q h hart _ gpa width value at refl refl whole free)
    (does_set writes reasons q h hart _ _ at refl refl (Same refl refl) at.running)
store_conditional_does writes reasons q h hart rd address width value (ToDevice gpa) at whole free may = exception_does writes reasons q h hart Cause.StoreAccess address at

amo_does : (writes : ℕ → Type 0) (reasons : Leaving → Type 0) (q : State) (h : ℕ) (hart : Hart) (rd address width : ℕ) (op : AmoOp) (value : ℕ) (x : Target) → IsMoving q h hart
    → IsWidth width → FreeTarget q width x
    → ((gpa : ℕ) → x ≡ Guarded gpa → writes gpa) → Does writes reasons q h hart (carry_out_amo q h hart rd address width op value x)
unfolding carry_out_amo
amo_does writes reasons q h hart rd address width op value (NoTarget cause) at whole free may = exception_does writes reasons q h hart cause address at
amo_does writes reasons q h hart rd address width op value (Guarded gpa) at whole free may = guarded_does writes reasons q h hart gpa at (may gpa refl)
amo_does writes reasons q h hart rd address width op value (ToRam gpa) at whole free may = written_does writes reasons q h hart _ gpa width _ at refl refl whole free
amo_does writes reasons q h hart rd address width op value (ToDevice gpa) at whole free may = exception_does writes reasons q h hart Cause.StoreAccess address at

set_mode : (b : Bool) (x y : Hart) (mode : Mode) → x.mode ≡ mode → y.mode ≡ mode → (if b then x else y).mode ≡ mode
set_mode true x y mode e f = e
set_mode false x y mode e f = f

set_started : (b : Bool) (x y : Hart) (on : Bool) → x.started ≡ on → y.started ≡ on → (if b then x else y).started ≡ on
set_started true x y on e f = e
set_started false x y on e f = f

csr_does : (writing : ℕ → Type 0) (reasons : Leaving → Type 0) (q : State) (h : ℕ) (hart : Hart) (w rd : ℕ) (op : CsrOp) (operand : ℕ) (writes : Bool) (x : Option Csr) → IsMoving q h hart
    → Does writing reasons q h hart (carry_out_csr q h hart w rd op operand writes x)
unfolding carry_out_csr
csr_does writing reasons q h hart w rd op operand writes None at = exception_does writing reasons q h hart Cause.Illegal w at
csr_does writing reasons q h hart w rd op operand writes (Some csr) at =
    does_set writing reasons q h hart _ _ at refl refl (Same (set_mode writes _ hart hart.mode refl refl) (set_started writes _ hart hart.started refl refl)) at.running

-- ---- calls, by what an answer does

-- the hart that called goes on, or it stopped
abbrev HasReply : Hart → Hart → Type 0
HasReply hart x = ((x.mode ≡ hart.mode) × (x.started ≡ hart.started)) ⊎ (x.started ≡ false)

has_reply : (reply : Reply) (hart : Hart) → HasReply hart (with_reply reply hart)
unfolding with_reply
has_reply (Gives a0) hart = inl (refl, refl)
has_reply (Replies a0 a1) hart = inl (refl, refl)
has_reply Stays hart = inl (refl, refl)
has_reply Stops hart = inr refl

own_reply : (reasons : Leaving → Type 0) (q : State) (h : ℕ) (hart : Hart) (next : State) (x : Hart) → HasReply hart x → Own reasons q h hart next x
own_reply reasons q h hart next x (inl stays) = Same stays.0 stays.1
own_reply reasons q h hart next x (inr off) = Halted off

reply_sent : (b : Bool) (hart x : Hart) → HasReply hart x → HasReply hart (with_software_if b x)
reply_sent true hart x (inl stays) = inl (stays.0, stays.1)
reply_sent true hart x (inr off) = inr off
reply_sent false hart x k = k

rests_sent : (q : State) (k : ℕ) (b : Bool) (before : Hart) → Other q k before (with_software_if b before)
rests_sent q k true before = Rests refl refl
rests_sent q k false before = Rests refl refl

off_there : (harts : List Hart) (h other : ℕ) (hart : Hart) → slice_get harts h ≡ Some hart → hart.started ≡ true
    → slice_get (map (λ (hart : Hart). hart.started) harts) other ≡ Some false → h ≡ other → ⊥
off_there harts h other hart found on off same =
    let k = was_stopped harts other off in
    let its : hart ≡ k.0 = same_one (slice_get harts other) hart k.0 (subst (λ (n : ℕ). slice_get harts n ≡ Some hart) same found) k.1.0 in
    both hart.started on (subst (λ (x : Hart). x.started ≡ false) (sym its) k.1.1)

beside_own : (reasons : Leaving → Type 0) (q : State) (h : ℕ) (hart : Hart) (next : State) (x after : Hart) (b : SideEffect) → IsMoving q h hart → MayHaveSideEffect q b → HasReply hart x
    → slice_get (harts_side_effect b (slice_set q.harts h x)) h ≡ Some after → Own reasons q h hart next after
unfolding harts_side_effect
beside_own reasons q h hart next x after (SendsInterrupts mask base) at may reply e =
    let s = get_sent (mask_names mask base) 0 (slice_set q.harts h x) h x (get_back q.harts h hart x at.found) in
    let same : with_software_if s.0 x ≡ after = same_one (slice_get (interrupt_harts (mask_names mask base) 0 (slice_set q.harts h x)) h) _ after s.1 e in
    subst (Own reasons q h hart next) same (own_reply reasons q h hart next (with_software_if s.0 x) (reply_sent s.0 hart x reply))
beside_own reasons q h hart next x after (StartsHart other pc opaque) at may reply e =
    let same : x ≡ after = same_one (slice_get (slice_set (slice_set q.harts h x) other (started_hart other pc opaque)) h) x after
    (set_other (slice_set q.harts h x) other h (started_hart other pc opaque) (off_there q.harts h other hart at.found at.started may.0)
    ∙ get_back q.harts h hart x at.found) e in
    subst (Own reasons q h hart next) same (own_reply reasons q h hart next x reply)
beside_own reasons q h hart next x after _ at may reply e =
    subst (Own reasons q h hart next) (same_one (slice_get (slice_set q.harts h x) h) x after (get_back q.harts h hart x at.found) e) (own_reply reasons q h hart next x reply)

started_by : (q : State) (h : ℕ) (x : Hart) (k : ℕ) (before after : Hart) (other pc opaque : ℕ) (is : Bool) → (k == other) ≡ is → (k ≡ h → ⊥) → slice_get q.harts k ≡ Some before
    → slice_get (map (λ (hart : Hart). hart.started) q.harts) other ≡ Some false → has_number q.rules.entries pc ≡ true
    → slice_get (slice_set (slice_set q.harts h x) other (started_hart other pc opaque)) k ≡ Some after → Other q k before after
started_by q h x k before after other pc opaque true at apart was off permitted e =
    let same : k ≡ other = eqb-true k other at in
    let o = was_stopped q.harts other off in
    let here : slice_get (slice_set q.harts h x) k ≡ Some before = set_other q.harts h k x apart ∙ was in
    let its : before ≡ o.0 = same_one (slice_get q.harts other) before o.0 (subst (λ (n : ℕ). slice_get q.harts n ≡ Some before) same was) o.1.0 in
    let begun : started_hart other pc opaque ≡ after = same_one (slice_get (slice_set (slice_set q.harts h x) other (started_hart other pc opaque)) other) _ after
    (get_back (slice_set q.harts h x) other before (started_hart other pc opaque) (subst (λ (n : ℕ). slice_get (slice_set q.harts h x) n ≡ Some before) same here))
    (subst (λ (n : ℕ). slice_get (slice_set (slice_set q.harts h x) other (started_hart other pc opaque)) n ≡ Some after) same e) in
    Begins pc opaque (subst (λ (y : Hart). y.started ≡ false) (sym its) o.1.1) permitted
    (sym begun ∙ ap (λ (n : ℕ). started_hart n pc opaque) (sym same))
started_by q h x k before after other pc opaque false at apart was off permitted e =
    rests_other q k before after
    (same_one (slice_get (slice_set (slice_set q.harts h x) other (started_hart other pc opaque)) k) before after
    (set_other (slice_set q.harts h x) other k (started_hart other pc opaque) (λ same. both (k == other) (eq-eqb k other same) at)
    ∙ set_other q.harts h k x apart ∙ was) e)

beside_others : (q : State) (h : ℕ) (x : Hart) (k : ℕ) (before after : Hart) (b : SideEffect) → MayHaveSideEffect q b → (k ≡ h → ⊥) → slice_get q.harts k ≡ Some before
    → slice_get (harts_side_effect b (slice_set q.harts h x)) k ≡ Some after → Other q k before after
unfolding harts_side_effect
beside_others q h x k before after (SendsInterrupts mask base) may apart was e =
    let s = get_sent (mask_names mask base) 0 (slice_set q.harts h x) k before (set_other q.harts h k x apart ∙ was) in
    let same : with_software_if s.0 before ≡ after = same_one (slice_get (interrupt_harts (mask_names mask base) 0 (slice_set q.harts h x)) k) _ after s.1 e in
    subst (Other q k before) same (rests_sent q k s.0 before)
beside_others q h x k before after (StartsHart other pc opaque) may apart was e =
    started_by q h x k before after other pc opaque (k == other) refl apart was may.0 may.1 e
beside_others q h x k before after _ may apart was e =
    rests_other q k before after (same_one (slice_get (slice_set q.harts h x) k) before after (set_other q.harts h k x apart ∙ was) e)

beside_ram : (q : State) (h : ℕ) (b : SideEffect) → (pages_side_effect b h q).ram ≡ q.ram
unfolding pages_side_effect
beside_ram q h (BeginsLoad m pages) = refl
beside_ram q h _ = refl

pub beside_verdict : (j : Journal) (h : ℕ) (b : SideEffect) → j.verdict ≡ Running → IsNoStop (journal_side_effect b h j).verdict
unfolding journal_side_effect
beside_verdict j h ShutsDown on = tt
beside_verdict j h _ on = subst IsNoStop (sym on) tt

answered_does : (writes : ℕ → Type 0) (reasons : Leaving → Type 0) (q : State) (h : ℕ) (hart : Hart) (a : Answer) → IsMoving q h hart → MayHaveSideEffect q a.side_effect
    → Does writes reasons q h hart (state_after_answer q h hart a)
unfolding state_after_answer
answered_does writes reasons q h hart a at may = record {
  bytes = λ page e. ap (λ (l : List ℕ). page_bytes l page) (beside_ram q h a.side_effect);
  own = λ after e. beside_own reasons q h hart (state_after_answer q h hart a) (with_reply a.reply hart) after a.side_effect at may (has_reply a.reply hart) e;
  others = λ k before after apart was e. beside_others q h (with_reply a.reply hart) k before after a.side_effect may apart was e;
  ends = GoesOn (beside_verdict q.journal h a.side_effect at.running);
}

call_does : (writes : ℕ → Type 0) (reasons : Leaving → Type 0) (q : State) (h : ℕ) (hart : Hart) → IsMoving q h hart → Does writes reasons q h hart (call q h hart)
call_does writes reasons q h hart at =
    answered_does writes reasons q h hart (answer_of (facts_of q) (asked_by hart.registers)) at
    (answer_may q (asked_by hart.registers) (extension_of (asked_by hart.registers).extension))

-- ---- a load under way

decision_does : (writes : ℕ → Type 0) (reasons : Leaving → Type 0) (q : State) (h : ℕ) (hart : Hart) (load : Loading) → IsMoving q h hart → q.loading ≡ Some load
    → Does writes reasons q h hart (decide q h hart load.about)
unfolding decide
decision_does writes reasons q h hart load at under =
    let good : Bool = is_good_load q.rules q.ram load.about (slice_get q.rules.modules load.about.id) in
    answered_does writes reasons q h hart (load_decision good load.about) at
    (decision_may q load good (subst (IsSoundLoad q.rules q.approved q.loaded q.held) under at.sound.load) refl)

load_step_does : (writes : ℕ → Type 0) (reasons : Leaving → Type 0) (q : State) (h : ℕ) (hart : Hart) (load : Loading) (left : ℕ) → IsMoving q h hart → q.loading ≡ Some load
    → Does writes reasons q h hart (load_step_of q h hart load left)
unfolding load_step_of
load_step_does writes reasons q h hart load zero at under = decision_does writes reasons q h hart load at under
load_step_does writes reasons q h hart load (suc left) at under = does_nothing writes reasons q h hart _ at refl refl (GoesOn (subst IsNoStop (sym at.running) tt))

-- ---- words

illegal_does : (writes : ℕ → Type 0) (reasons : Leaving → Type 0) (q : State) (h : ℕ) (hart : Hart) (w : ℕ) (mode : Mode) → IsMoving q h hart
    → Does writes reasons q h hart (carry_out_kernel_only q h hart w mode)
unfolding carry_out_kernel_only
illegal_does writes reasons q h hart w Kernel at = does_set writes reasons q h hart _ _ at refl refl (Same refl refl) at.running
illegal_does writes reasons q h hart w User at = exception_does writes reasons q h hart Cause.Illegal w at

ecall_does : (writes : ℕ → Type 0) (reasons : Leaving → Type 0) (q : State) (h : ℕ) (hart : Hart) (mode : Mode) → IsMoving q h hart → Does writes reasons q h hart (carry_out_ecall q h hart mode)
unfolding carry_out_ecall
ecall_does writes reasons q h hart Kernel at = call_does writes reasons q h hart at
ecall_does writes reasons q h hart User at = exception_does writes reasons q h hart Cause.UserCall 0 at

sret_does : (writes : ℕ → Type 0) (reasons : Leaving → Type 0) (q : State) (h : ℕ) (hart : Hart) (w : ℕ) (mode : Mode) → IsMoving q h hart → hart.mode ≡ mode → reasons Returning
    → Does writes reasons q h hart (carry_out_sret q h hart w mode)
unfolding carry_out_sret
sret_does writes reasons q h hart w Kernel at mode why = return_by writes reasons q h hart (mode_at_return hart.supervisor.sstatus) at mode refl why
sret_does writes reasons q h hart w User at mode why = exception_does writes reasons q h hart Cause.Illegal w at

-- an effect writes at an address in a protected page
abbrev pub EffectWrites : State → Hart → Effect → ℕ → Type 0
EffectWrites q hart e gpa = (address : ℕ) × ((width : ℕ) × (WritesBytes e address width × (target_of q hart address width ≡ Guarded gpa)))

-- an effect is SRET; none demotes
abbrev EffectLeaves : Effect → Leaving → Type 0
EffectLeaves e Returning = e ≡ Effect.Sret
EffectLeaves e (Demoting gpa) = ⊥

pub effect_does : (q : State) (h : ℕ) (hart : Hart) (w : ℕ) (e : Effect) → IsMoving q h hart → IsTold w hart e → Does (EffectWrites q hart e) (EffectLeaves e) q h hart (carry_out_effect q h hart w e)
unfolding carry_out_effect
effect_does q h hart w (Effect.Set rd value next) at told = does_set _ _ q h hart _ _ at refl refl (Same refl refl) at.running
effect_does q h hart w (Effect.MisalignedJump target) at told = exception_does _ _ q h hart Cause.InstrMisaligned target at
effect_does q h hart w (Effect.Load rd address width signed) at told = load_does _ _ q h hart rd address width signed (source_of q hart address width) at
effect_does q h hart w (Effect.Store address width value) at told =
    store_does _ _ q h hart address width value (target_of q hart address width) at told.1 (target_free q hart address width told.1)
    (λ gpa leads. (address, (width, ((refl, refl), leads))))
effect_does q h hart w (Effect.LoadReserved rd address width) at told = load_reserved_does _ _ q h hart rd address width (source_of q hart address width) at
effect_does q h hart w (Effect.StoreConditional rd address width value) at told =
    store_conditional_does _ _ q h hart rd address width value (target_of q hart address width) at told.1 (target_free q hart address width told.1)
    (λ gpa leads. (address, (width, ((refl, refl), leads))))
effect_does q h hart w (Effect.Amo rd address width op value) at told =
    amo_does _ _ q h hart rd address width op value (target_of q hart address width) at told.1 (target_free q hart address width told.1)
    (λ gpa leads. (address, (width, ((refl, refl), leads))))
effect_does q h hart w (Effect.Csr rd number op operand writes) at told = csr_does _ _ q h hart w rd op operand writes (csr_asked hart number writes) at
effect_does q h hart w Effect.Ecall at told = ecall_does _ _ q h hart hart.mode at
effect_does q h hart w Effect.Ebreak at told = exception_does _ _ q h hart Cause.Breakpoint hart.pc at
effect_does q h hart w Effect.Sret at told = sret_does _ _ q h hart w hart.mode at refl refl
effect_does q h hart w Effect.Wfi at told = illegal_does _ _ q h hart w hart.mode at
effect_does q h hart w Effect.SfenceVma at told = illegal_does _ _ q h hart w hart.mode at
effect_does q h hart w Effect.Fence at told = does_set _ _ q h hart _ _ at refl refl (Same refl refl) at.running
effect_does q h hart w Effect.Hyper at told = exception_does _ _ q h hart Cause.Illegal w at

abbrev does_as : Hart → Instr → Effect
does_as hart i = effect_of i hart.registers hart.pc

word_writes : (q : State) (hart : Hart) (w : ℕ) (i : Instr) → instruction_of w ≡ Some i → (gpa : ℕ) → EffectWrites q hart (does_as hart i) gpa → WritesGuarded q hart w gpa
word_writes q hart w i e gpa k =
    record { effect = does_as hart i; is = ap (option_map (does_as hart)) e; address = k.0; width = k.1.0; writes = k.1.1.0; leads = k.1.1.1 }

-- a word is SRET
abbrev pub WordLeaves : ℕ → Hart → Leaving → Type 0
WordLeaves w hart Returning = effect_of_word w hart ≡ Some Effect.Sret
WordLeaves w hart (Demoting gpa) = ⊥

word_leaves : (hart : Hart) (w : ℕ) (i : Instr) → instruction_of w ≡ Some i → (x : Leaving) → EffectLeaves (does_as hart i) x → WordLeaves w hart x
word_leaves hart w i e Returning sret = ap (option_map (does_as hart)) e ∙ ap Some sret
word_leaves hart w i e (Demoting gpa) never = never

pub instruction_does : (q : State) (h : ℕ) (hart : Hart) (w : ℕ) (x : Option Instr) → IsMoving q h hart → instruction_of w ≡ x
    → Does (WritesGuarded q hart w) (WordLeaves w hart) q h hart (carry_out_instruction q h hart w x)
unfolding carry_out_instruction
instruction_does q h hart w None at e = exception_does _ _ q h hart Cause.Illegal w at
instruction_does q h hart w (Some i) at e =
    does_for (EffectWrites q hart (does_as hart i)) (WritesGuarded q hart w) (EffectLeaves (does_as hart i)) (WordLeaves w hart) q h hart _
    (word_writes q hart w i e) (word_leaves hart w i e) (effect_does q h hart w (does_as hart i) at (all_told hart w i e))

-- ---- turns

-- the word that the hart fetched writes there
abbrev pub FetchedWrites : State → Hart → ℕ → Type 0
FetchedWrites q hart gpa = (w : ℕ) × ((fetch_of q hart ≡ Word w) × WritesGuarded q hart w gpa)

-- the word is SRET, or the hart is demoted for one of the two reasons
abbrev pub FetchedLeaves : State → Hart → Leaving → Type 0
FetchedLeaves q hart Returning = (w : ℕ) × ((fetch_of q hart ≡ Word w) × (effect_of_word w hart ≡ Some Effect.Sret))
FetchedLeaves q hart (Demoting gpa) = Strays q hart gpa ⊎ IsOutOfPlace q hart gpa

fetched_leaves : (q : State) (hart : Hart) (w : ℕ) → fetch_of q hart ≡ Word w → (x : Leaving) → WordLeaves w hart x → FetchedLeaves q hart x
fetched_leaves q hart w e Returning k = (w, (e, k))
fetched_leaves q hart w e (Demoting gpa) never = absurd never

fetch_does : (q : State) (h : ℕ) (hart : Hart) (x : Fetched) → IsMoving q h hart → fetch_of q hart ≡ x → Does (FetchedWrites q hart) (FetchedLeaves q hart) q h hart (act_on_fetch q h hart x)
unfolding act_on_fetch carry_out_word
fetch_does q h hart (NoWord cause) at e = exception_does _ _ q h hart cause hart.pc at
fetch_does q h hart (Stray gpa) at e = demote_does _ _ q h hart gpa at (inl (strays q hart gpa e))
fetch_does q h hart (Word w) at e =
    does_for (WritesGuarded q hart w) (FetchedWrites q hart) (WordLeaves w hart) (FetchedLeaves q hart) q h hart _ (λ gpa k. (w, (e, k))) (fetched_leaves q hart w e)
    (instruction_does q h hart w (instruction_of w) at refl)

pub moving_left : (q : State) (h : ℕ) (hart : Hart) → IsMoving q h hart → IsMoving (leave_entry q h hart) h (outside_entry hart)
moving_left q h hart at = record {
  sound = (leave_goes q h hart at.sound (at.sound.harts h hart at.found)).sound;
  found = get_back q.harts h hart (outside_entry hart) at.found;
  started = at.started;
  running = at.running;
}

left_writes : (q : State) (h : ℕ) (hart : Hart) (gpa : ℕ) → FetchedWrites (leave_entry q h hart) (outside_entry hart) gpa → FetchedWrites q hart gpa
unfolding is_protected
left_writes q h hart gpa k = (k.0, (k.1.0, record { effect = k.1.1.effect; is = k.1.1.is; address = k.1.1.address; width = k.1.1.width; writes = k.1.1.writes; leads = k.1.1.leads }))

left_leaves : (q : State) (h : ℕ) (hart : Hart) (x : Leaving) → FetchedLeaves (leave_entry q h hart) (outside_entry hart) x → FetchedLeaves q hart x
unfolding bound_entry
left_leaves q h hart Returning k = k
left_leaves q h hart (Demoting gpa) (inl k) = inl (record { leads = k.leads; inside = k.inside; unapproved = k.unapproved })
left_leaves q h hart (Demoting gpa) (inr k) = let none = k.bound in absurd (cc)

away_does : (q : State) (h : ℕ) (hart : Hart) → IsMoving q h hart → Does (FetchedWrites q hart) (FetchedLeaves q hart) q h hart (fetch_and_act (leave_entry q h hart) h (outside_entry hart))
away_does q h hart at =
    does_left (FetchedWrites q hart) (FetchedLeaves q hart) q h hart (fetch_and_act (leave_entry q h hart) h (outside_entry hart)) at
    (does_for (FetchedWrites (leave_entry q h hart) (outside_entry hart)) (FetchedWrites q hart) (FetchedLeaves (leave_entry q h hart) (outside_entry hart)) (FetchedLeaves q hart)
    (leave_entry q h hart) h (outside_entry hart) _ (left_writes q h hart) (left_leaves q h hart)
    (fetch_does (leave_entry q h hart) h (outside_entry hart) (fetch_of (leave_entry q h hart) (outside_entry hart)) (moving_left q h hart at) refl))

entry_does : (q : State) (h : ℕ) (hart : Hart) (x : Option Binding) → IsMoving q h hart → bound_entry q.rules hart.entry ≡ x
    → Does (FetchedWrites q hart) (FetchedLeaves q hart) q h hart (fetch_in_entry q h hart x)
unfolding fetch_in_entry
entry_does q h hart None at bound = fetch_does q h hart (fetch_of q hart) at refl
entry_does q h hart (Some entry) at bound =
    decide_does _ _ q h hart (leads_into q (page_of entry.gpa) (place_of_pc q hart)) _ _ (λ inside. fetch_does q h hart (fetch_of q hart) at refl)
    (λ away. decide_does _ _ q h hart (hart.pc == entry.va) _ _
    (λ there. demote_does _ _ q h hart (noted_gpa q.ram (place_of_pc q hart)) at
    (inr (record { entry = entry; bound = bound; there = eqb-true hart.pc entry.va there; away = away; noted = refl })))
    (λ other. away_does q h hart at))

pending_does : (q : State) (h : ℕ) (hart : Hart) (x : Option Interrupt) → IsMoving q h hart → Does (FetchedWrites q hart) (FetchedLeaves q hart) q h hart (act_on_pending q h hart x)
unfolding act_on_pending
pending_does q h hart (Some interrupt) at = trap_does _ _ q h hart hart.mode true (interrupt_number interrupt) 0 at refl
pending_does q h hart None at = entry_does q h hart (bound_entry q.rules hart.entry) at refl

act_does : (q : State) (h : ℕ) (hart : Hart) → IsMoving q h hart → Does (FetchedWrites q hart) (FetchedLeaves q hart) q h hart (act q h hart)
unfolding act
act_does q h hart at = pending_does q h hart (deliverable hart.mode hart.supervisor (lines_at q.devices h)) at

started_does : (q : State) (h : ℕ) (hart : Hart) (x : Option Loading) → IsMoving q h hart → q.loading ≡ x → Does (FetchedWrites q hart) (FetchedLeaves q hart) q h hart (turn_of_started q h hart x)
unfolding turn_of_started
started_does q h hart None at under = act_does q h hart at
started_does q h hart (Some load) at under =
    choose_does _ _ q h hart (load.hart == h) _ _ (load_step_does _ _ q h hart load load.left at under) (act_does q h hart at)

-- the turn of a started hart
pub turn_does : (q : State) (h : ℕ) (hart : Hart) → IsMoving q h hart → Does (FetchedWrites q hart) (FetchedLeaves q hart) q h hart (turn q h)
unfolding turn turn_of
turn_does q h hart at =
    subst (Does (FetchedWrites q hart) (FetchedLeaves q hart) q h hart)
    (sym (ap (turn_of q h) at.found ∙ ap (λ (b : Bool). if b then turn_of_started q h hart q.loading else q) at.started))
    (started_does q h hart q.loading at refl)
