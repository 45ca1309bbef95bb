-- A state that can be saved can be saved after each event, and after each run.
use Rattle.std.proofs.Common.{◌≡◌, ℕ, zero, suc, ◌+◌, ◌<◌, ◌≤◌, List, [], ◌∷◌, ◌++◌, length, refl, sym, subst, Bool, true, false, not, arith, length-append, slice_get}
use Rattle.std.specs.Prelude.{Option, Some, None, if◌then◌else◌, ◌==◌, nat_lt}
use Rattle.std.proofs.lemmas.Bool.Decides.{nat_tests}
use Rattle.spec_processor.specs.Bytes.{page_of, ram_offset}
use Rattle.spec_processor.specs.Effects.{effect_of}
use Rattle.spec_processor.specs.Instructions.{instruction_of}
use Rattle.spec_processor.specs.Traps.{interrupt_number, deliverable}
use Rattle.spec_processor.specs.declared.cause.Cause.{Cause}
use Rattle.spec_processor.specs.declared.effect.Effect.{Effect}
use Rattle.spec_processor.specs.declared.instruction.Instr.{Instr}
use Rattle.spec_processor.specs.declared.interrupt.Interrupt.{Interrupt}
use Rattle.spec_processor.specs.declared.mode.Mode.{Mode}
use Rattle.spec_processor.specs.declared.mode.Mode.TheVariants.{Kernel, User}
use Rattle.sv_types.specs.Console.{max_queued, has_room}
use Rattle.sv_types.specs.declared.event.Event.{Event}
use Rattle.sv_types.specs.declared.event.Event.TheVariants.{Turn, Beat, Key, Tick, Poke}
use Rattle.sv_types.specs.declared.event.Note.TheVariants.{Demote, Denied}
use Rattle.sv_types.specs.declared.event.Verdict.{Verdict}
use Rattle.sv_types.specs.declared.event.Verdict.TheVariants.{Running, Shutdown, Stopped}
use Rattle.spec_reference.specs.Counting.{count, with_count, with_note, count_demote, count_dropped, count_turn, count_beat, count_key, count_tick}
use Rattle.spec_reference.specs.Devices.{lines_at, with_disk, after_move, after_dma_step, may_move_to, beat, poke, key, tick}
use Rattle.spec_reference.specs.Attacker.{poke_move}
use Rattle.spec_reference.specs.Disk.{DmaStep, disk_beat}
use Rattle.spec_reference.specs.Move.{Move, Idle, FromRam, IntoRam, DeniedAt, OutsideRam}
use Rattle.spec_reference.specs.Loads.{load_step_of, is_good_load}
use Rattle.spec_reference.specs.Requests.{source_of, target_of, csr_asked}
use Rattle.spec_reference.specs.Run.{happen, happen_under, step}
use Rattle.spec_reference.specs.Soundness.{IsSound, IsSoundLoad}
use Rattle.spec_reference.specs.States.{State, Hart, Loading, Binding, is_protected}
use Rattle.spec_reference.specs.Turn.{place_of_pc, leads_into, noted_gpa, outside_entry, leave_entry, demote, fetch_in_entry, bound_entry}
use Rattle.spec_reference.specs.Turn.{carry_out_kernel_only, carry_out_ecall, carry_out_sret, carry_out_effect, carry_out_instruction}
use Rattle.spec_reference.specs.Turn.{carry_out_word, Fetched, NoWord, Stray, Word, fetch_of, fetch_and_act, act_on_fetch, act_on_pending}
use Rattle.spec_reference.specs.Turn.{act, turn_of_started, turn_of, turn}
use Rattle.laws_simulation.specs.Agree.{IsNotLoading}
use Rattle.laws_simulation.proofs.AllTold.{all_told}
use Rattle.laws_simulation.proofs.EffectsAgree.{IsTold}
use Rattle.laws_simulation.proofs.AttemptsAgree.{get_back}
use Rattle.laws_simulation.proofs.AnswersMay.{decision_may}
use Rattle.laws_simulation.proofs.StepsSound.{leave_goes, counted_sound, step_goes}
use Rattle.laws_resume.specs.Keepable.{ram_size, IsKeepable, KeepsLaw}
use Rattle.laws_resume.proofs.KeepableParts.{zero_stays, keepable_at, below, journal_noted}
use Rattle.laws_resume.proofs.KeepableRequests.{Moving, hart_kept, there, aligned_pc, set_alone, retired, choose_keeps, trap_keeps}
use Rattle.laws_resume.proofs.KeepableRequests.{exception_keeps, return_keeps, load_keeps, source_inside, load_reserved_keeps, bytes_keep}
use Rattle.laws_resume.proofs.KeepableRequests.{store_keeps, store_conditional_keeps, amo_keeps, csr_keeps}
use Rattle.laws_resume.proofs.KeepableCalls.{call_keeps, Loads, decision_keeps, page_turn_keeps}

-- ---- instructions

kernel_only_keeps : (r : State) (h : ℕ) (hart : Hart) (w : ℕ) (mode : Mode) → Moving r h hart → IsKeepable (carry_out_kernel_only r h hart w mode)
unfolding carry_out_kernel_only
kernel_only_keeps r h hart w Kernel m = retired r h hart _ m (hart_kept m).zero (hart_kept m).reservation
kernel_only_keeps r h hart w User m = exception_keeps r h hart Cause.Illegal w m

ecall_keeps : (r : State) (h : ℕ) (hart : Hart) (mode : Mode) → Moving r h hart → hart.started ≡ true → hart.mode ≡ mode → IsKeepable (carry_out_ecall r h hart mode)
unfolding carry_out_ecall
ecall_keeps r h hart Kernel m on is = call_keeps r h hart m on is
ecall_keeps r h hart User m on is = exception_keeps r h hart Cause.UserCall 0 m

sret_keeps : (r : State) (h : ℕ) (hart : Hart) (w : ℕ) (mode : Mode) → Moving r h hart → IsKeepable (carry_out_sret r h hart w mode)
unfolding carry_out_sret
sret_keeps r h hart w Kernel m = return_keeps r h hart m
sret_keeps r h hart w User m = exception_keeps r h hart Cause.Illegal w m

effect_keeps : (r : State) (h : ℕ) (hart : Hart) (w : ℕ) (e : Effect) → Moving r h hart → hart.started ≡ true → IsTold w hart e → IsKeepable (carry_out_effect r h hart w e)
unfolding carry_out_effect
effect_keeps r h hart w (Effect.Set rd value next) m on told = retired r h hart _ m (zero_stays hart.registers rd value (hart_kept m).zero) (hart_kept m).reservation
effect_keeps r h hart w (Effect.MisalignedJump target) m on told = exception_keeps r h hart Cause.InstrMisaligned target m
effect_keeps r h hart w (Effect.Load rd address width signed) m on told = load_keeps r h hart rd address width signed (source_of r hart address width) m
effect_keeps r h hart w (Effect.Store address width value) m on told = store_keeps r h hart address width value (target_of r hart address width) m
effect_keeps r h hart w (Effect.LoadReserved rd address width) m on told =
    load_reserved_keeps r h hart rd address width (source_of r hart address width) m (source_inside r hart address width m.sound told.1)
effect_keeps r h hart w (Effect.StoreConditional rd address width value) m on told =
    store_conditional_keeps r h hart rd address width value (target_of r hart address width) m
effect_keeps r h hart w (Effect.Amo rd address width op value) m on told = amo_keeps r h hart rd address width op value (target_of r hart address width) m
effect_keeps r h hart w (Effect.Csr rd number op operand writes) m on told = csr_keeps r h hart w rd op operand writes (csr_asked hart number writes) m
effect_keeps r h hart w Effect.Ecall m on told = ecall_keeps r h hart hart.mode m on refl
effect_keeps r h hart w Effect.Ebreak m on told = exception_keeps r h hart Cause.Breakpoint hart.pc m
effect_keeps r h hart w Effect.Sret m on told = sret_keeps r h hart w hart.mode m
effect_keeps r h hart w Effect.Wfi m on told = kernel_only_keeps r h hart w hart.mode m
effect_keeps r h hart w Effect.SfenceVma m on told = kernel_only_keeps r h hart w hart.mode m
effect_keeps r h hart w Effect.Fence m on told = retired r h hart _ m (hart_kept m).zero (hart_kept m).reservation
effect_keeps r h hart w Effect.Hyper m on told = exception_keeps r h hart Cause.Illegal w m

instruction_keeps : (r : State) (h : ℕ) (hart : Hart) (w : ℕ) (x : Option Instr) → Moving r h hart → hart.started ≡ true → instruction_of w ≡ x
    → IsKeepable (carry_out_instruction r h hart w x)
unfolding carry_out_instruction
instruction_keeps r h hart w None m on e = exception_keeps r h hart Cause.Illegal w m
instruction_keeps r h hart w (Some i) m on e = effect_keeps r h hart w (effect_of i hart.registers hart.pc) m on (all_told hart w i e)

-- ---- fetches

demote_keeps : (r : State) (h : ℕ) (hart : Hart) (gpa : ℕ) → Moving r h hart → IsKeepable (demote r h hart gpa)
demote_keeps r h hart gpa m =
    set_alone r h hart _ (with_note (Demote h r.journal.counts.turns hart.pc gpa) (with_count count_demote r.journal)) m
    (record { zero = (hart_kept m).zero; reservation = tt })
    (journal_noted r.rules.harts r.journal.notes r.journal.counts.notes r.journal.verdict (Demote h r.journal.counts.turns hart.pc gpa) m.keepable.journal (there m, aligned_pc m))

fetched_keeps : (r : State) (h : ℕ) (hart : Hart) (x : Fetched) → Moving r h hart → hart.started ≡ true → IsKeepable (act_on_fetch r h hart x)
unfolding act_on_fetch carry_out_word
fetched_keeps r h hart (NoWord cause) m on = exception_keeps r h hart cause hart.pc m
fetched_keeps r h hart (Stray gpa) m on = demote_keeps r h hart gpa m
fetched_keeps r h hart (Word w) m on = instruction_keeps r h hart w (instruction_of w) m on refl

-- the entry is left
left_moving : (r : State) (h : ℕ) (hart : Hart) → Moving r h hart → Moving (leave_entry r h hart) h (outside_entry hart)
left_moving r h hart m = record {
  keepable = set_alone r h hart (outside_entry hart) r.journal m (record { zero = (hart_kept m).zero; reservation = (hart_kept m).reservation }) m.keepable.journal;
  sound = (leave_goes r h hart m.sound (m.sound.harts h hart m.found)).sound;
  found = get_back r.harts h hart (outside_entry hart) m.found;
  free = m.free;
}

again_keeps : (r : State) (h : ℕ) (hart : Hart) → Moving r h hart → hart.started ≡ true → IsKeepable (fetch_and_act (leave_entry r h hart) h (outside_entry hart))
again_keeps r h hart m on = fetched_keeps (leave_entry r h hart) h (outside_entry hart) _ (left_moving r h hart m) on

entry_keeps : (r : State) (h : ℕ) (hart : Hart) (x : Option Binding) → Moving r h hart → hart.started ≡ true → IsKeepable (fetch_in_entry r h hart x)
unfolding fetch_in_entry
entry_keeps r h hart None m on = fetched_keeps r h hart (fetch_of r hart) m on
entry_keeps r h hart (Some entry) m on =
    choose_keeps (leads_into r (page_of entry.gpa) (place_of_pc r hart)) _ _ (fetched_keeps r h hart (fetch_of r hart) m on)
    (choose_keeps (hart.pc == entry.va) _ _ (demote_keeps r h hart (noted_gpa r.ram (place_of_pc r hart)) m) (again_keeps r h hart m on))

-- ---- turns

pending_keeps : (r : State) (h : ℕ) (hart : Hart) (x : Option Interrupt) → Moving r h hart → hart.started ≡ true → IsKeepable (act_on_pending r h hart x)
unfolding act_on_pending
pending_keeps r h hart (Some interrupt) m on = trap_keeps r h hart hart.mode true (interrupt_number interrupt) 0 m
pending_keeps r h hart None m on = entry_keeps r h hart (bound_entry r.rules hart.entry) m on

attempt_keeps : (r : State) (h : ℕ) (hart : Hart) → Moving r h hart → hart.started ≡ true → IsKeepable (act r h hart)
unfolding act
attempt_keeps r h hart m on = pending_keeps r h hart (deliverable hart.mode hart.supervisor (lines_at r.devices h)) m on

-- a hart that is there
record Stands (r : State) (h : ℕ) (hart : Hart) : Type 0 where
  keepable : IsKeepable r
  sound : IsSound r
  found : slice_get r.harts h ≡ Some hart
  on : hart.started ≡ true

moves : {r : State} {h : ℕ} {hart : Hart} → Stands r h hart → IsNotLoading h r.loading → Moving r h hart
moves s free = record { keepable = s.keepable; sound = s.sound; found = s.found; free = free }

loads : (r : State) (h : ℕ) (hart : Hart) (load : Loading) → Stands r h hart → r.loading ≡ Some load → Loads r h hart load
loads r h hart load s under = record {
  keepable = s.keepable;
  number = s.sound.number;
  there = subst (λ (n : ℕ). h < n) s.sound.number (below r.harts h hart s.found);
  one = keepable_at (ram_size r.rules) r.harts h hart s.keepable.harts s.found;
  under = under;
}

load_step_keeps : (r : State) (h : ℕ) (hart : Hart) (load : Loading) (left : ℕ) → Stands r h hart → r.loading ≡ Some load → IsKeepable (load_step_of r h hart load left)
unfolding load_step_of
load_step_keeps r h hart load zero s under =
    decision_keeps r h hart load (loads r h hart load s under)
    (decision_may r load (is_good_load r.rules r.ram load.about (slice_get r.rules.modules load.about.id))
    (subst (IsSoundLoad r.rules r.approved r.loaded r.held) under s.sound.load) refl)
load_step_keeps r h hart load (suc left) s under = page_turn_keeps r load left s.keepable under

loading_by : (r : State) (h : ℕ) (hart : Hart) (load : Loading) (its : Bool) → Stands r h hart → r.loading ≡ Some load → (load.hart == h) ≡ its
    → IsKeepable (if its then load_step_of r h hart load load.left else act r h hart)
loading_by r h hart load true s under at = load_step_keeps r h hart load load.left s under
loading_by r h hart load false s under at = attempt_keeps r h hart (moves s (subst (IsNotLoading h) (sym under) at)) s.on

started_keeps : (r : State) (h : ℕ) (hart : Hart) (x : Option Loading) → Stands r h hart → r.loading ≡ x → IsKeepable (turn_of_started r h hart x)
unfolding turn_of_started
started_keeps r h hart None s under = attempt_keeps r h hart (moves s (subst (IsNotLoading h) (sym under) tt)) s.on
started_keeps r h hart (Some load) s under = loading_by r h hart load (load.hart == h) s under refl

on_keeps : (r : State) (h : ℕ) (hart : Hart) (on : Bool) → IsKeepable r → IsSound r → slice_get r.harts h ≡ Some hart → hart.started ≡ on
    → IsKeepable (if on then turn_of_started r h hart r.loading else r)
on_keeps r h hart true k s found on = started_keeps r h hart r.loading (record { keepable = k; sound = s; found = found; on = on }) refl
on_keeps r h hart false k s found on = k

hart_turn_keeps : (r : State) (h : ℕ) (x : Option Hart) → IsKeepable r → IsSound r → slice_get r.harts h ≡ x → IsKeepable (turn_of r h x)
unfolding turn_of
hart_turn_keeps r h None k s found = k
hart_turn_keeps r h (Some hart) k s found = on_keeps r h hart hart.started k s found refl

turn_keeps : (r : State) (h : ℕ) → IsKeepable r → IsSound r → IsKeepable (turn r h)
unfolding turn
turn_keeps r h k s = hart_turn_keeps r h (slice_get r.harts h) k s refl

-- ---- the other events

with_disk_keeps : (r : State) (b : DmaStep) → IsKeepable r → IsKeepable (with_disk r b.disk)
with_disk_keeps r b k =
    record { harts = k.harts; journal = k.journal; clock = k.clock; console = k.console; modules = k.modules; load = k.load; text = k.text }

moved_keeps : (r : State) (move : Move) → IsKeepable r → IsKeepable (after_move r move)
unfolding after_move
moved_keeps r Idle k = k
moved_keeps r (FromRam gpa) k = k
moved_keeps r (IntoRam gpa bytes) k = bytes_keep r (ram_offset gpa) bytes k
moved_keeps r (DeniedAt gpa) k = record {
  harts = k.harts;
  journal = journal_noted r.rules.harts r.journal.notes r.journal.counts.notes r.journal.verdict (Denied gpa) k.journal tt;
  clock = k.clock;
  console = k.console;
  modules = k.modules;
  load = k.load;
  text = k.text;
}
moved_keeps r OutsideRam k = k

dma_step_keeps : (r : State) (b : DmaStep) → IsKeepable r → IsKeepable (after_dma_step r b)
dma_step_keeps r b k = moved_keeps (with_disk r b.disk) b.move (with_disk_keeps r b k)

beat_keeps : (r : State) → IsKeepable r → IsKeepable (beat r)
unfolding beat
beat_keeps r k = dma_step_keeps r (disk_beat r.devices.disk r.ram (λ page. not (is_protected r page))) k

poke_keeps : (r : State) (gpa value : ℕ) → IsKeepable r → IsKeepable (poke r gpa value)
unfolding poke
poke_keeps r gpa value k = moved_keeps r (poke_move r.ram (λ page. may_move_to r page) gpa value) k

one_key : (queue : List ℕ) (byte : ℕ) (room : Bool) → nat_lt (length queue) max_queued ≡ room → length queue ≤ max_queued
    → length (if room then queue ++ byte ∷ [] else queue) ≤ max_queued
one_key queue byte true at k =
    let more : length (queue ++ byte ∷ []) ≡ length queue + 1 = length-append queue (byte ∷ []) in
    rw more (grind (arith, nat_tests))
one_key queue byte false at k = k

keyed_by : (r : State) (byte : ℕ) (room : Bool) → has_room r.devices.console ≡ room → IsKeepable r
    → IsKeepable (record r {
      devices = record r.devices { console = if room then r.devices.console ++ byte ∷ [] else r.devices.console };
      journal = if room then r.journal else with_count count_dropped r.journal;
    })
keyed_by r byte true at k =
    record { harts = k.harts; journal = k.journal; clock = k.clock; console = one_key r.devices.console byte true at k.console; modules = k.modules; load = k.load; text = k.text }
keyed_by r byte false at k =
    record { harts = k.harts; journal = k.journal; clock = k.clock; console = k.console; modules = k.modules; load = k.load; text = k.text }

key_keeps : (r : State) (byte : ℕ) → IsKeepable r → IsKeepable (key r byte)
unfolding key
key_keeps r byte k = keyed_by r byte (has_room r.devices.console) refl k

tick_keeps : (r : State) (by : ℕ) → IsKeepable r → IsKeepable (tick r by)
unfolding tick
tick_keeps r by k = record {
  harts = k.harts;
  journal = k.journal;
  clock = record { four = k.clock.four; unset = λ h past few. k.clock.unset h past few };
  console = k.console;
  modules = k.modules;
  load = k.load;
  text = k.text;
}

-- ---- each event, and each run

happen_keeps : (r : State) (e : Event) → IsKeepable r → IsSound r → IsKeepable (happen r e)
unfolding happen
happen_keeps r (Turn h) k s =
    turn_keeps (count r count_turn) h
    (record { harts = k.harts; journal = k.journal; clock = k.clock; console = k.console; modules = k.modules; load = k.load; text = k.text })
    (counted_sound r count_turn s).sound
happen_keeps r Beat k s =
    beat_keeps (count r count_beat)
    (record { harts = k.harts; journal = k.journal; clock = k.clock; console = k.console; modules = k.modules; load = k.load; text = k.text })
happen_keeps r (Key byte) k s =
    key_keeps (count r count_key) byte
    (record { harts = k.harts; journal = k.journal; clock = k.clock; console = k.console; modules = k.modules; load = k.load; text = k.text })
happen_keeps r (Tick by) k s =
    tick_keeps (count r count_tick) by
    (record { harts = k.harts; journal = k.journal; clock = k.clock; console = k.console; modules = k.modules; load = k.load; text = k.text })
happen_keeps r (Poke gpa value) k s =
    poke_keeps (count r count_beat) gpa value
    (record { harts = k.harts; journal = k.journal; clock = k.clock; console = k.console; modules = k.modules; load = k.load; text = k.text })

under_keeps : (verdict : Verdict) (r : State) (e : Event) → IsKeepable r → IsSound r → IsKeepable (happen_under verdict r e)
unfolding happen_under
under_keeps Running r e k s = happen_keeps r e k s
under_keeps Shutdown r e k s = k
under_keeps (Stopped rule h at) r e k s = k

pub step_keeps : (r : State) (e : Event) → IsKeepable r → IsSound r → IsKeepable (step r e)
unfolding step
step_keeps r e k s = under_keeps r.journal.verdict r e k s

pub keeps_law : KeepsLaw
keeps_law r [] s k = k
keeps_law r (e ∷ events) s k = keeps_law (step r e) events (step_goes r e s).sound (step_keeps r e k s)
