-- What a turn of one hart leaves of another that is started: its mode, its pc, its entry and its interrupts' bit.
use Rattle.std.proofs.Common.{◌≡◌, ℕ, zero, suc, ◌+◌, List, [], ◌∷◌, map, length, refl, sym, ◌∙◌, ap, subst, Bool, true, false, slice_get, slice_set}
use Rattle.std.specs.Prelude.{Option, Some, None, option_map, if◌then◌else◌, ◌==◌}
use Rattle.std.proofs.lemmas.Bool.{eqb-false}
use Rattle.spec_processor.specs.Bytes.{page_of, ram_offset}
use Rattle.spec_processor.specs.Causes.{cause_number}
use Rattle.spec_processor.specs.Effects.{effect_of}
use Rattle.spec_processor.specs.Instructions.{instruction_of}
use Rattle.spec_processor.specs.Requests.{covers}
use Rattle.spec_processor.specs.Traps.{trap_target, interrupt_number, deliverable}
use Rattle.spec_processor.specs.declared.cause.Cause.{Cause}
use Rattle.spec_processor.specs.declared.csr.Csr.{Csr}
use Rattle.spec_processor.specs.declared.effect.Effect.{Effect}
use Rattle.spec_processor.specs.declared.instruction.AmoOp.{AmoOp}
use Rattle.spec_processor.specs.declared.instruction.CsrOp.{CsrOp}
use Rattle.spec_processor.specs.declared.instruction.Instr.{Instr}
use Rattle.sv_types.specs.declared.saved.ModulePlacement.{ModulePlacement}
use Rattle.spec_processor.specs.declared.interrupt.Interrupt.{Interrupt}
use Rattle.spec_processor.specs.declared.mode.Mode.{Mode}
use Rattle.spec_processor.specs.declared.mode.Mode.TheVariants.{Kernel, User}
use Rattle.spec_reference.specs.Answers.{with_reply, devices_side_effect, journal_side_effect, pages_side_effect, harts_side_effect, state_after_answer, call}
use Rattle.spec_reference.specs.Calls.{asked_by, facts_of, extension_of, mask_names, interrupt_harts, with_software}
use Rattle.spec_reference.specs.declared.answers.Answer.{Answer}
use Rattle.spec_reference.specs.declared.answers.SideEffect.{SideEffect}
use Rattle.spec_reference.specs.declared.answers.SideEffect.TheVariants.{SendsInterrupts, StartsHart, BeginsLoad, ApprovesModule, ReleasesModule}
use Rattle.spec_reference.specs.Devices.{DeviceLoad, DeviceStore, device_load, device_store, hart_after_write, lines_at, with_bytes}
use Rattle.spec_reference.specs.Loads.{decide, is_good_load, load_step_of}
use Rattle.spec_reference.specs.ModuleCalls.{answer_of, load_decision}
use Rattle.spec_reference.specs.Requests.{carried_out_writing, Source, NoSource, FromRam, FromDevice, Target, NoTarget, Guarded, ToRam}
use Rattle.spec_reference.specs.Requests.{ToDevice, carry_out_device_load, carry_out_load, carry_out_load_reserved, carry_out_device_store}
use Rattle.spec_reference.specs.Requests.{carry_out_store, write_stopped, carry_out_store_conditional, carry_out_amo, carry_out_csr}
use Rattle.spec_reference.specs.Requests.{source_of, target_of, csr_asked}
use Rattle.spec_reference.specs.States.{State, Hart, Binding, Devices, Journal, Loading}
use Rattle.spec_reference.specs.Trapping.{trap_from, exception, returned_from_trap, may_enter}
use Rattle.spec_reference.specs.Turn.{place_of_pc, leads_into, outside_entry, leave_entry, fetch_in_entry, bound_entry}
use Rattle.spec_reference.specs.Turn.{carry_out_kernel_only, carry_out_ecall, carry_out_sret, carry_out_effect, carry_out_instruction}
use Rattle.spec_reference.specs.Turn.{carry_out_word, Fetched, NoWord, Stray, Word, fetch_of, act_on_fetch, act_on_pending, act}
use Rattle.spec_reference.specs.Turn.{turn_of_started, turn_of, turn}
use Rattle.laws_simulation.specs.Agree.{IsNotLoading}
use Rattle.laws_simulation.proofs.AnswersMay.{MayHaveSideEffect, answer_may}
use Rattle.laws_simulation.proofs.Lookups.{both}
use Rattle.sv_types.proofs.SetElements.{set_other}

-- a started hart, as another one was
pub record LooksLike (at hart : Hart) : Type 0 where
  pub started : hart.started ≡ true
  pub mode : hart.mode ≡ at.mode
  pub pc : hart.pc ≡ at.pc
  pub entry : hart.entry ≡ at.entry
  pub status : hart.supervisor.sstatus ≡ at.supervisor.sstatus

-- hart k waits for its turn, no load of it under way
pub record IsWaiting (k : ℕ) (at : Hart) (r : State) : Type 0 where
  pub hart : Hart
  pub found : slice_get r.harts k ≡ Some hart
  pub looks : LooksLike at hart
  pub free : IsNotLoading k r.loading

-- it is watched while another hart moves
pub record Watched : Type 0 where
  pub watched : ℕ
  pub mover : ℕ
  pub at : Hart
  pub other : (mover == watched) ≡ false

abbrev pub Leaves : Watched → State → State → Type 0
Leaves z r next = IsWaiting z.watched z.at r → IsWaiting z.watched z.at next

choose_rests : (z : Watched) (r : State) (b : Bool) (x y : State) → Leaves z r x → Leaves z r y → Leaves z r (if b then x else y)
choose_rests z r true x y s t = s
choose_rests z r false x y s t = t

then_rests : (z : Watched) (r mid next : State) → Leaves z r mid → Leaves z mid next → Leaves z r next
then_rests z r mid next s t w = t (s w)

-- ---- lists of harts

pub get_beside : (harts : List Hart) (h k : ℕ) (x y : Hart) → (h ≡ k → ⊥) → slice_get harts k ≡ Some y → slice_get (slice_set harts h x) k ≡ Some y
get_beside harts h k x y other e = set_other harts h k x (λ same. other (sym same)) ∙ e

pub get_after : (f : Hart → Hart) (harts : List Hart) (k : ℕ) (y : Hart) → slice_get harts k ≡ Some y → slice_get (map f harts) k ≡ Some (f y)
get_after f [] k y e = absurd (cc)
get_after f (a ∷ harts) zero y e = ap (option_map f) e
get_after f (a ∷ harts) (suc k) y e = get_after f harts k y e

-- a hart with its software interrupt set, or as it was
abbrev pub with_software_if : Bool → Hart → Hart
with_software_if b hart = if b then with_software hart else hart

pub get_sent : (named : ℕ → Bool) (first : ℕ) (harts : List Hart) (k : ℕ) (y : Hart) → slice_get harts k ≡ Some y
    → (b : Bool) × (slice_get (interrupt_harts named first harts) k ≡ Some (with_software_if b y))
unfolding interrupt_harts
get_sent named first [] k y e = absurd (cc)
get_sent named first (a ∷ harts) zero y e = (named first, ap (option_map (with_software_if (named first))) e)
get_sent named first (a ∷ harts) (suc k) y e = get_sent named (first + 1) harts k y e

looks_sent : (at : Hart) (b : Bool) (hart : Hart) → LooksLike at hart → LooksLike at (with_software_if b hart)
looks_sent at true hart l = record { started = l.started; mode = l.mode; pc = l.pc; entry = l.entry; status = l.status }
looks_sent at false hart l = l

-- ---- what moves

nobody : (z : Watched) (r next : State) → next.harts ≡ r.harts → next.loading ≡ r.loading → Leaves z r next
nobody z r next harts loading w = record {
  hart = w.hart;
  found = ap (λ (l : List Hart). slice_get l z.watched) harts ∙ w.found;
  looks = w.looks;
  free = subst (IsNotLoading z.watched) (sym loading) w.free;
}

set_there : (z : Watched) (harts : List Hart) (x y : Hart) → slice_get harts z.watched ≡ Some y → slice_get (slice_set harts z.mover x) z.watched ≡ Some y
set_there z harts x y e = get_beside harts z.mover z.watched x y (eqb-false z.mover z.watched z.other) e

sets : (z : Watched) (r next : State) (x : Hart) → next.harts ≡ slice_set r.harts z.mover x → next.loading ≡ r.loading → Leaves z r next
sets z r next x harts loading w = record {
  hart = w.hart;
  found = ap (λ (l : List Hart). slice_get l z.watched) harts ∙ set_there z r.harts x w.hart w.found;
  looks = w.looks;
  free = subst (IsNotLoading z.watched) (sym loading) w.free;
}

-- bytes are written too
writes : (z : Watched) (r : State) (x : Hart) (next : State) (at width : ℕ) → next.harts ≡ map (hart_after_write at width) (slice_set r.harts z.mover x) → next.loading ≡ r.loading → Leaves z r next
writes z r x next at width harts loading w = record {
  hart = hart_after_write at width w.hart;
  found = ap (λ (l : List Hart). slice_get l z.watched) harts
      ∙ get_after (hart_after_write at width) (slice_set r.harts z.mover x) z.watched w.hart (set_there z r.harts x w.hart w.found);
  looks = record { started = w.looks.started; mode = w.looks.mode; pc = w.looks.pc; entry = w.looks.entry; status = w.looks.status };
  free = subst (IsNotLoading z.watched) (sym loading) w.free;
}

-- software interrupts are sent
sends : (z : Watched) (r next : State) (x : Hart) (named : ℕ → Bool) → next.harts ≡ interrupt_harts named 0 (slice_set r.harts z.mover x) → next.loading ≡ r.loading → Leaves z r next
sends z r next x named harts loading w =
    let there = get_sent named 0 (slice_set r.harts z.mover x) z.watched w.hart (set_there z r.harts x w.hart w.found) in
    record {
      hart = with_software_if there.0 w.hart;
      found = ap (λ (l : List Hart). slice_get l z.watched) harts ∙ there.1;
      looks = looks_sent z.at there.0 w.hart w.looks;
      free = subst (IsNotLoading z.watched) (sym loading) w.free;
    }

pub same_one : (x : Option Hart) (a b : Hart) → x ≡ Some a → x ≡ Some b → a ≡ b
same_one x a b e f = cc

-- a stopped hart begins
starts : (z : Watched) (r next : State) (x : Hart) (i : ℕ) (other new : Hart) → slice_get r.harts i ≡ Some other → other.started ≡ false
    → next.harts ≡ slice_set (slice_set r.harts z.mover x) i new → next.loading ≡ r.loading → Leaves z r next
starts z r next x i other new there off harts loading w =
    let second : i ≡ z.watched → ⊥ = λ same.
    let found : slice_get r.harts z.watched ≡ Some other = subst (λ (n : ℕ). slice_get r.harts n ≡ Some other) same there in
    let its : other ≡ w.hart = same_one (slice_get r.harts z.watched) other w.hart found w.found in
    both w.hart.started w.looks.started (subst (λ (y : Hart). y.started ≡ false) its off) in
    record {
      hart = w.hart;
      found = ap (λ (l : List Hart). slice_get l z.watched) harts
          ∙ get_beside (slice_set r.harts z.mover x) i z.watched new w.hart second (set_there z r.harts x w.hart w.found);
      looks = w.looks;
      free = subst (IsNotLoading z.watched) (sym loading) w.free;
    }

-- a load begins, ends, or goes on
begins : (z : Watched) (r next : State) (x : Hart) (load : Loading) → next.harts ≡ slice_set r.harts z.mover x → next.loading ≡ Some load → load.hart ≡ z.mover → Leaves z r next
begins z r next x load harts loading its w = record {
  hart = w.hart;
  found = ap (λ (l : List Hart). slice_get l z.watched) harts ∙ set_there z r.harts x w.hart w.found;
  looks = w.looks;
  free = subst (IsNotLoading z.watched) (sym loading) (ap (λ (n : ℕ). n == z.watched) its ∙ z.other);
}

ends : (z : Watched) (r next : State) (x : Hart) → next.harts ≡ slice_set r.harts z.mover x → next.loading ≡ None → Leaves z r next
ends z r next x harts loading w = record {
  hart = w.hart;
  found = ap (λ (l : List Hart). slice_get l z.watched) harts ∙ set_there z r.harts x w.hart w.found;
  looks = w.looks;
  free = subst (IsNotLoading z.watched) (sym loading) tt;
}

goes_on_loading : (z : Watched) (r next : State) (load new : Loading) → r.loading ≡ Some load → next.harts ≡ r.harts → next.loading ≡ Some new → new.hart ≡ load.hart → Leaves z r next
goes_on_loading z r next load new under harts loading its w = record {
  hart = w.hart;
  found = ap (λ (l : List Hart). slice_get l z.watched) harts ∙ w.found;
  looks = w.looks;
  free = subst (IsNotLoading z.watched) (sym loading) (ap (λ (n : ℕ). n == z.watched) its ∙ subst (IsNotLoading z.watched) under w.free);
}

-- ---- requests

pub trap_rests : (z : Watched) (r : State) (hart : Hart) (from : Mode) (interrupt : Bool) (cause tval : ℕ) → Leaves z r (trap_from r z.mover hart from interrupt cause tval)
unfolding trap_from
trap_rests z r hart from interrupt cause tval =
    choose_rests z r (may_enter r.rules from (trap_target hart.supervisor.stvec interrupt cause)) _ _
    (sets z r _ _ refl refl)
    (nobody z r _ refl refl)

pub exception_rests : (z : Watched) (r : State) (hart : Hart) (cause : Cause) (tval : ℕ) → Leaves z r (exception r z.mover hart cause tval)
exception_rests z r hart cause tval = trap_rests z r hart hart.mode false (cause_number cause) tval

pub return_rests : (z : Watched) (r : State) (hart : Hart) → Leaves z r (returned_from_trap r z.mover hart)
unfolding returned_from_trap
return_rests z r hart = sets z r _ _ refl refl

device_load_rests : (z : Watched) (r : State) (hart : Hart) (rd address width : ℕ) (signed : Bool) (x : Option DeviceLoad) → Leaves z r (carry_out_device_load r z.mover hart rd address width signed x)
unfolding carry_out_device_load
device_load_rests z r hart rd address width signed None = exception_rests z r hart Cause.LoadAccess address
device_load_rests z r hart rd address width signed (Some l) = sets z r _ _ refl refl

pub load_rests : (z : Watched) (r : State) (hart : Hart) (rd address width : ℕ) (signed : Bool) (x : Source) → Leaves z r (carry_out_load r z.mover hart rd address width signed x)
unfolding carry_out_load
load_rests z r hart rd address width signed (NoSource cause) = exception_rests z r hart cause address
load_rests z r hart rd address width signed (FromRam gpa) = sets z r _ _ refl refl
load_rests z r hart rd address width signed (FromDevice gpa) = device_load_rests z r hart rd address width signed (device_load r.devices gpa width)

pub load_reserved_rests : (z : Watched) (r : State) (hart : Hart) (rd address width : ℕ) (x : Source) → Leaves z r (carry_out_load_reserved r z.mover hart rd address width x)
unfolding carry_out_load_reserved
load_reserved_rests z r hart rd address width (NoSource cause) = exception_rests z r hart cause address
load_reserved_rests z r hart rd address width (FromRam gpa) = sets z r _ _ refl refl
load_reserved_rests z r hart rd address width (FromDevice gpa) = exception_rests z r hart Cause.LoadAccess address

device_store_rests : (z : Watched) (r : State) (hart : Hart) (address : ℕ) (x : Option DeviceStore) → Leaves z r (carry_out_device_store r z.mover hart address x)
unfolding carry_out_device_store
device_store_rests z r hart address None = exception_rests z r hart Cause.StoreAccess address
device_store_rests z r hart address (Some s) = sets z r _ _ refl refl

written_rests : (z : Watched) (r : State) (next : Hart) (at : ℕ) (bytes : List ℕ) → Leaves z r (carried_out_writing r z.mover next at bytes)
unfolding with_bytes
written_rests z r next at bytes = writes z r next _ at (length bytes) refl refl

guarded_rests : (z : Watched) (r : State) (hart : Hart) (gpa : ℕ) → Leaves z r (write_stopped r z.mover hart gpa)
guarded_rests z r hart gpa = nobody z r _ refl refl

pub store_rests : (z : Watched) (r : State) (hart : Hart) (address width value : ℕ) (x : Target) → Leaves z r (carry_out_store r z.mover hart address width value x)
unfolding carry_out_store
store_rests z r hart address width value (NoTarget cause) = exception_rests z r hart cause address
store_rests z r hart address width value (Guarded gpa) = guarded_rests z r hart gpa
store_rests z r hart address width value (ToRam gpa) = written_rests z r _ (ram_offset gpa) _
store_rests z r hart address width value (ToDevice gpa) =
    device_store_rests z r hart address (device_store r.devices r.journal gpa width value)

pub store_conditional_rests : (z : Watched) (r : State) (hart : Hart) (rd address width value : ℕ) (x : Target) → Leaves z r (carry_out_store_conditional r z.mover hart rd address width value x)
unfolding carry_out_store_conditional
store_conditional_rests z r hart rd address width value (NoTarget cause) = exception_rests z r hart cause address
store_conditional_rests z r hart rd address width value (Guarded gpa) = guarded_rests z r hart gpa
store_conditional_rests z r hart rd address width value (ToRam gpa) =
    choose_rests z r (covers hart.reservation (ram_offset gpa) width) _ _ (written_rests z r _ (ram_offset gpa) _) (sets z r _ _ refl refl)
store_conditional_rests z r hart rd address width value (ToDevice gpa) = exception_rests z r hart Cause.StoreAccess address

pub amo_rests : (z : Watched) (r : State) (hart : Hart) (rd address width : ℕ) (op : AmoOp) (value : ℕ) (x : Target) → Leaves z r (carry_out_amo r z.mover hart rd address width op value x)
unfolding carry_out_amo
amo_rests z r hart rd address width op value (NoTarget cause) = exception_rests z r hart cause address
amo_rests z r hart rd address width op value (Guarded gpa) = guarded_rests z r hart gpa
amo_rests z r hart rd address width op value (ToRam gpa) = written_rests z r _ (ram_offset gpa) _
amo_rests z r hart rd address width op value (ToDevice gpa) = exception_rests z r hart Cause.StoreAccess address

pub csr_rests : (z : Watched) (r : State) (hart : Hart) (w rd : ℕ) (op : CsrOp) (operand : ℕ) (writes : Bool) (x : Option Csr) → Leaves z r (carry_out_csr r z.mover hart w rd op operand writes x)
unfolding carry_out_csr
csr_rests z r hart w rd op operand writes None = exception_rests z r hart Cause.Illegal w
csr_rests z r hart w rd op operand writes (Some csr) = sets z r _ _ refl refl

-- ---- calls, by what an answer does

-- a hart that an answer begins was stopped
abbrev MayWake : State → SideEffect → Type 0
MayWake r (StartsHart other pc opaque) = slice_get (facts_of r).started other ≡ Some false
MayWake r _ = Unit {0}

may_wake : (r : State) (b : SideEffect) → MayHaveSideEffect r b → MayWake r b
may_wake r (StartsHart other pc opaque) may = may.0
may_wake r _ may = tt

pub was_stopped : (harts : List Hart) (i : ℕ) → slice_get (map (λ (hart : Hart). hart.started) harts) i ≡ Some false
    → (other : Hart) × ((slice_get harts i ≡ Some other) × (other.started ≡ false))
was_stopped [] i e = absurd (cc)
was_stopped (a ∷ harts) zero e = (a, (refl, cc))
was_stopped (a ∷ harts) (suc i) e = was_stopped harts i e

beside_rests : (z : Watched) (r : State) (x : Hart) (b : SideEffect) (d : Devices) (j : Journal) → MayWake r b
    → Leaves z r (record (pages_side_effect b z.mover r) { harts = harts_side_effect b (slice_set r.harts z.mover x); devices = d; journal = j })
unfolding pages_side_effect harts_side_effect
beside_rests z r x (SendsInterrupts mask base) d j may = sends z r _ x (mask_names mask base) refl refl
beside_rests z r x (StartsHart other pc opaque) d j may =
    let k = was_stopped r.harts other may in starts z r _ x other k.0 _ k.1.0 k.1.1 refl refl
beside_rests z r x (BeginsLoad m pages) d j may = begins z r _ x _ refl refl refl
beside_rests z r x (ApprovesModule m) d j may = ends z r _ x refl refl
beside_rests z r x (ReleasesModule m) d j may = ends z r _ x refl refl
beside_rests z r x _ d j may = sets z r _ x refl refl

answered_rests : (z : Watched) (r : State) (hart : Hart) (a : Answer) → MayWake r a.side_effect → Leaves z r (state_after_answer r z.mover hart a)
unfolding state_after_answer
answered_rests z r hart a may =
    beside_rests z r (with_reply a.reply hart) a.side_effect (devices_side_effect a.side_effect z.mover r.devices) (journal_side_effect a.side_effect z.mover r.journal) may

pub call_rests : (z : Watched) (r : State) (hart : Hart) → Leaves z r (call r z.mover hart)
call_rests z r hart =
    let a : Answer = answer_of (facts_of r) (asked_by hart.registers) in
    answered_rests z r hart a (may_wake r a.side_effect (answer_may r (asked_by hart.registers) (extension_of (asked_by hart.registers).extension)))

decision_by : (z : Watched) (r : State) (hart : Hart) (m : ModulePlacement) (good : Bool) → Leaves z r (state_after_answer r z.mover hart (load_decision good m))
decision_by z r hart m true = answered_rests z r hart (load_decision true m) tt
decision_by z r hart m false = answered_rests z r hart (load_decision false m) tt

decision_rests : (z : Watched) (r : State) (hart : Hart) (m : ModulePlacement) → Leaves z r (decide r z.mover hart m)
unfolding decide
decision_rests z r hart m = decision_by z r hart m (is_good_load r.rules r.ram m (slice_get r.rules.modules m.id))

pub load_step_rests : (z : Watched) (r : State) (hart : Hart) (load : Loading) (left : ℕ) → r.loading ≡ Some load → Leaves z r (load_step_of r z.mover hart load left)
unfolding load_step_of
load_step_rests z r hart load zero under = decision_rests z r hart load.about
load_step_rests z r hart load (suc left) under = goes_on_loading z r _ load _ under refl refl refl

-- ---- turns

illegal_rests : (z : Watched) (r : State) (hart : Hart) (w : ℕ) (mode : Mode) → Leaves z r (carry_out_kernel_only r z.mover hart w mode)
unfolding carry_out_kernel_only
illegal_rests z r hart w Kernel = sets z r _ _ refl refl
illegal_rests z r hart w User = exception_rests z r hart Cause.Illegal w

ecall_rests : (z : Watched) (r : State) (hart : Hart) (mode : Mode) → Leaves z r (carry_out_ecall r z.mover hart mode)
unfolding carry_out_ecall
ecall_rests z r hart Kernel = call_rests z r hart
ecall_rests z r hart User = exception_rests z r hart Cause.UserCall 0

sret_rests : (z : Watched) (r : State) (hart : Hart) (w : ℕ) (mode : Mode) → Leaves z r (carry_out_sret r z.mover hart w mode)
unfolding carry_out_sret
sret_rests z r hart w Kernel = return_rests z r hart
sret_rests z r hart w User = exception_rests z r hart Cause.Illegal w

effect_rests : (z : Watched) (r : State) (hart : Hart) (w : ℕ) (e : Effect) → Leaves z r (carry_out_effect r z.mover hart w e)
unfolding carry_out_effect
effect_rests z r hart w (Effect.Set rd value next) = sets z r _ _ refl refl
effect_rests z r hart w (Effect.MisalignedJump target) = exception_rests z r hart Cause.InstrMisaligned target
effect_rests z r hart w (Effect.Load rd address width signed) = load_rests z r hart rd address width signed (source_of r hart address width)
effect_rests z r hart w (Effect.Store address width value) = store_rests z r hart address width value (target_of r hart address width)
effect_rests z r hart w (Effect.LoadReserved rd address width) = load_reserved_rests z r hart rd address width (source_of r hart address width)
effect_rests z r hart w (Effect.StoreConditional rd address width value) =
    store_conditional_rests z r hart rd address width value (target_of r hart address width)
effect_rests z r hart w (Effect.Amo rd address width op value) = amo_rests z r hart rd address width op value (target_of r hart address width)
effect_rests z r hart w (Effect.Csr rd number op operand writes) = csr_rests z r hart w rd op operand writes (csr_asked hart number writes)
effect_rests z r hart w Effect.Ecall = ecall_rests z r hart hart.mode
effect_rests z r hart w Effect.Ebreak = exception_rests z r hart Cause.Breakpoint hart.pc
effect_rests z r hart w Effect.Sret = sret_rests z r hart w hart.mode
effect_rests z r hart w Effect.Wfi = illegal_rests z r hart w hart.mode
effect_rests z r hart w Effect.SfenceVma = illegal_rests z r hart w hart.mode
effect_rests z r hart w Effect.Fence = sets z r _ _ refl refl
effect_rests z r hart w Effect.Hyper = exception_rests z r hart Cause.Illegal w

instruction_rests : (z : Watched) (r : State) (hart : Hart) (w : ℕ) (x : Option Instr) → Leaves z r (carry_out_instruction r z.mover hart w x)
unfolding carry_out_instruction
instruction_rests z r hart w None = exception_rests z r hart Cause.Illegal w
instruction_rests z r hart w (Some i) = effect_rests z r hart w (effect_of i hart.registers hart.pc)

fetch_rests : (z : Watched) (r : State) (hart : Hart) (x : Fetched) → Leaves z r (act_on_fetch r z.mover hart x)
unfolding act_on_fetch carry_out_word
fetch_rests z r hart (NoWord cause) = exception_rests z r hart cause hart.pc
fetch_rests z r hart (Stray gpa) = sets z r _ _ refl refl
fetch_rests z r hart (Word w) = instruction_rests z r hart w (instruction_of w)

entry_rests : (z : Watched) (r : State) (hart : Hart) (x : Option Binding) → Leaves z r (fetch_in_entry r z.mover hart x)
unfolding fetch_in_entry
entry_rests z r hart None = fetch_rests z r hart (fetch_of r hart)
entry_rests z r hart (Some entry) =
    choose_rests z r (leads_into r (page_of entry.gpa) (place_of_pc r hart)) _ _ (fetch_rests z r hart (fetch_of r hart))
    (choose_rests z r (hart.pc == entry.va) _ _ (sets z r _ _ refl refl)
    (then_rests z r (leave_entry r z.mover hart) _ (sets z r _ _ refl refl)
    (fetch_rests z (leave_entry r z.mover hart) (outside_entry hart) (fetch_of (leave_entry r z.mover hart) (outside_entry hart)))))

pending_rests : (z : Watched) (r : State) (hart : Hart) (x : Option Interrupt) → Leaves z r (act_on_pending r z.mover hart x)
unfolding act_on_pending
pending_rests z r hart (Some interrupt) = trap_rests z r hart hart.mode true (interrupt_number interrupt) 0
pending_rests z r hart None = entry_rests z r hart (bound_entry r.rules hart.entry)

attempt_rests : (z : Watched) (r : State) (hart : Hart) → Leaves z r (act r z.mover hart)
unfolding act
attempt_rests z r hart = pending_rests z r hart (deliverable hart.mode hart.supervisor (lines_at r.devices z.mover))

started_rests : (z : Watched) (r : State) (hart : Hart) (x : Option Loading) → r.loading ≡ x → Leaves z r (turn_of_started r z.mover hart x)
unfolding turn_of_started
started_rests z r hart None under = attempt_rests z r hart
started_rests z r hart (Some load) under = choose_rests z r (load.hart == z.mover) _ _ (load_step_rests z r hart load load.left under) (attempt_rests z r hart)

hart_turn_rests : (z : Watched) (r : State) (x : Option Hart) → Leaves z r (turn_of r z.mover x)
unfolding turn_of
hart_turn_rests z r None = nobody z r _ refl refl
hart_turn_rests z r (Some hart) = choose_rests z r hart.started _ _ (started_rests z r hart r.loading refl) (nobody z r _ refl refl)

pub turn_rests : (z : Watched) (r : State) → Leaves z r (turn r z.mover)
unfolding turn
turn_rests z r = hart_turn_rests z r (slice_get r.harts z.mover)
