-- Each event keeps a sound state sound, and so does a run.
use Rattle.std.proofs.Common.{◌≡◌, ℕ, ◌%◌, ◌^◌, ◌<◌, List, [], ◌∷◌, refl, true, not, slice_get}
use Rattle.std.specs.Prelude.{Option, Some, None, if◌then◌else◌, ◌==◌}
use Rattle.spec_processor.specs.Bytes.{page_of, ram_offset}
use Rattle.sv_types.specs.Policies.{Rules}
use Rattle.sv_types.specs.Clock.{after_tick}
use Rattle.sv_types.specs.Console.{after_key, has_room}
use Rattle.spec_processor.specs.Effects.{effect_of, set_register}
use Rattle.spec_processor.specs.Instructions.{instruction_of}
use Rattle.spec_processor.specs.Traps.{interrupt_number, deliverable}
use Rattle.spec_processor.specs.declared.cause.Cause.{Cause}
use Rattle.spec_processor.specs.declared.effect.Effect.{Effect}
use Rattle.sv_types.specs.declared.event.Counts.{Counts}
use Rattle.sv_types.specs.declared.event.Event.{Event}
use Rattle.sv_types.specs.declared.event.Event.TheVariants.{Turn, Beat, Key, Tick, Poke}
use Rattle.spec_processor.specs.declared.instruction.Instr.{Instr}
use Rattle.spec_processor.specs.declared.interrupt.Interrupt.{Interrupt}
use Rattle.spec_processor.specs.declared.mode.Mode.{Mode}
use Rattle.spec_processor.specs.declared.mode.Mode.TheVariants.{Kernel, User}
use Rattle.sv_types.specs.declared.event.Note.TheVariants.{Demote, Denied}
use Rattle.sv_types.specs.declared.event.Verdict.{Verdict}
use Rattle.sv_types.specs.declared.event.Verdict.TheVariants.{Running, Shutdown, Stopped}
use Rattle.spec_reference.specs.States.{State, Hart, Binding, Loading, is_protected}
use Rattle.spec_reference.specs.Counting.{count, with_count, with_note, count_turn, count_beat, count_key, count_tick, count_retired, count_demote, count_denied, count_dropped}
use Rattle.spec_reference.specs.Attacker.{poke_move}
use Rattle.spec_reference.specs.Disk.{DmaStep, disk_beat}
use Rattle.spec_reference.specs.Move.{Move, Idle, FromRam, IntoRam, DeniedAt, OutsideRam}
use Rattle.spec_reference.specs.Devices.{lines_at, with_disk, after_move, beat, poke, key, tick}
use Rattle.spec_reference.specs.Trapping.{exception}
use Rattle.spec_reference.specs.Origins.{ownership}
use Rattle.spec_reference.specs.Requests.{at_next_instruction, carried_out, source_of, target_of, csr_asked}
use Rattle.spec_reference.specs.Turn.{fetch_and_act, place_of_pc, leads_into, noted_gpa, outside_entry, leave_entry, fetch_in_entry}
use Rattle.spec_reference.specs.Turn.{bound_entry, carry_out_kernel_only, carry_out_ecall, carry_out_sret, with_set, carry_out_effect}
use Rattle.spec_reference.specs.Turn.{carry_out_instruction, carry_out_word, Fetched, NoWord, Stray, Word, fetch_of, demote, act_on_fetch}
use Rattle.spec_reference.specs.Turn.{act_on_pending, act, turn_of_started, turn_of, turn}
use Rattle.spec_reference.specs.Run.{happen, happen_under, step, run}
use Rattle.spec_reference.specs.Soundness.{IsSound, IsSoundHart}
use Rattle.laws_simulation.proofs.AllTold.{all_told}
use Rattle.laws_simulation.proofs.EffectsAgree.{IsTold}
use Rattle.laws_simulation.proofs.BeatsSound.{FreeMove, IsSoundBeat, beat_page, beat_sound, free_with_disk, poke_sound}
use Rattle.laws_simulation.proofs.CallsSound.{call_goes, load_step_goes}
use Rattle.laws_simulation.proofs.HartsSound.{at_pc, demoted_sound, GoesRight, effects_right}
use Rattle.laws_simulation.proofs.RequestsSound.{exception_goes, trap_goes, return_goes, retire_goes, load_goes, load_reserved_goes}
use Rattle.laws_simulation.proofs.RequestsSound.{store_goes, store_conditional_goes, amo_goes, target_free, csr_goes}
use Rattle.laws_simulation.proofs.Sounds.{Goes, goes_set, goes_beside, goes_bytes, goes_on, choose_goes, decide_goes, text_stays}

-- ---- instructions

illegal_goes : (r : State) (h : ℕ) (hart : Hart) (w : ℕ) → IsSound r → IsSoundHart r.rules hart → Goes r (exception r h hart Cause.Illegal w)
illegal_goes r h hart w s k = exception_goes r h hart Cause.Illegal w s k

after_goes : (r : State) (h : ℕ) (hart : Hart) → IsSound r → IsSoundHart r.rules hart → Goes r (carried_out r h (at_next_instruction hart))
after_goes r h hart s k = retire_goes r h hart hart.registers hart.reservation s k

kernel_only_goes : (r : State) (h : ℕ) (hart : Hart) (w : ℕ) (mode : Mode) → IsSound r → IsSoundHart r.rules hart → Goes r (carry_out_kernel_only r h hart w mode)
unfolding carry_out_kernel_only
kernel_only_goes r h hart w Kernel s k = after_goes r h hart s k
kernel_only_goes r h hart w User s k = illegal_goes r h hart w s k

ecall_goes : (r : State) (h : ℕ) (hart : Hart) (mode : Mode) → IsSound r → IsSoundHart r.rules hart → hart.mode ≡ mode → Goes r (carry_out_ecall r h hart mode)
unfolding carry_out_ecall
ecall_goes r h hart Kernel s k at = call_goes r h hart s k at
ecall_goes r h hart User s k at = exception_goes r h hart Cause.UserCall 0 s k

sret_goes : (r : State) (h : ℕ) (hart : Hart) (w : ℕ) (mode : Mode) → IsSound r → IsSoundHart r.rules hart → hart.started ≡ true → Goes r (carry_out_sret r h hart w mode)
unfolding carry_out_sret
sret_goes r h hart w Kernel s k on = return_goes r h hart s k on
sret_goes r h hart w User s k on = illegal_goes r h hart w s k

set_goes : (r : State) (h : ℕ) (hart : Hart) (rd value next : ℕ) → IsSound r → IsSoundHart r.rules hart → (next % 4 ≡ 0) × (next < 2 ^ 64) → Goes r (carried_out r h (with_set hart rd value next))
set_goes r h hart rd value next s k right =
    goes_set r h (with_set hart rd value next) r.devices (with_count count_retired r.journal) s
    (at_pc hart (set_register hart.registers rd value) next hart.reservation k right.0 right.1) s.disk

effect_goes : (r : State) (h : ℕ) (hart : Hart) (w : ℕ) (e : Effect) → IsSound r → IsSoundHart r.rules hart → hart.started ≡ true → IsTold w hart e → GoesRight e
    → Goes r (carry_out_effect r h hart w e)
unfolding carry_out_effect
effect_goes r h hart w (Effect.Set rd value next) s k on told right = set_goes r h hart rd value next s k right
effect_goes r h hart w (Effect.MisalignedJump target) s k on told right = exception_goes r h hart Cause.InstrMisaligned target s k
effect_goes r h hart w (Effect.Load rd address width signed) s k on told right = load_goes r h hart rd address width signed (source_of r hart address width) s k
effect_goes r h hart w (Effect.Store address width value) s k on told right =
    store_goes r h hart address width value (target_of r hart address width) s k told.1 (target_free r hart address width told.1)
effect_goes r h hart w (Effect.LoadReserved rd address width) s k on told right = load_reserved_goes r h hart rd address width (source_of r hart address width) s k
effect_goes r h hart w (Effect.StoreConditional rd address width value) s k on told right =
    store_conditional_goes r h hart rd address width value (target_of r hart address width) s k told.1 (target_free r hart address width told.1)
effect_goes r h hart w (Effect.Amo rd address width op value) s k on told right =
    amo_goes r h hart rd address width op value (target_of r hart address width) s k told.1 (target_free r hart address width told.1)
effect_goes r h hart w (Effect.Csr rd number op operand writes) s k on told right = csr_goes r h hart w rd op operand writes (csr_asked hart number writes) s k
effect_goes r h hart w Effect.Ecall s k on told right = ecall_goes r h hart hart.mode s k refl
effect_goes r h hart w Effect.Ebreak s k on told right = exception_goes r h hart Cause.Breakpoint hart.pc s k
effect_goes r h hart w Effect.Sret s k on told right = sret_goes r h hart w hart.mode s k on
effect_goes r h hart w Effect.Wfi s k on told right = kernel_only_goes r h hart w hart.mode s k
effect_goes r h hart w Effect.SfenceVma s k on told right = kernel_only_goes r h hart w hart.mode s k
effect_goes r h hart w Effect.Fence s k on told right = after_goes r h hart s k
effect_goes r h hart w Effect.Hyper s k on told right = illegal_goes r h hart w s k

instruction_goes : (r : State) (h : ℕ) (hart : Hart) (w : ℕ) (x : Option Instr) → IsSound r → IsSoundHart r.rules hart → hart.started ≡ true → instruction_of w ≡ x
    → Goes r (carry_out_instruction r h hart w x)
unfolding carry_out_instruction
instruction_goes r h hart w None s k on e = illegal_goes r h hart w s k
instruction_goes r h hart w (Some i) s k on e =
    effect_goes r h hart w (effect_of i hart.registers hart.pc) s k on (all_told hart w i e) (effects_right i hart.registers hart.pc k.aligned)

-- ---- the fetch

demote_goes : (r : State) (h : ℕ) (hart : Hart) (gpa : ℕ) → IsSound r → IsSoundHart r.rules hart → hart.started ≡ true → Goes r (demote r h hart gpa)
demote_goes r h hart gpa s k on =
    goes_set r h (record hart { mode = User; reservation = None; entry = None }) r.devices (with_note (Demote h r.journal.counts.turns hart.pc gpa) (with_count count_demote r.journal)) s
    (demoted_sound hart on k) s.disk

fetch_goes : (r : State) (h : ℕ) (hart : Hart) (x : Fetched) → IsSound r → IsSoundHart r.rules hart → hart.started ≡ true → Goes r (act_on_fetch r h hart x)
unfolding act_on_fetch carry_out_word
fetch_goes r h hart (NoWord cause) s k on = exception_goes r h hart cause hart.pc s k
fetch_goes r h hart (Stray gpa) s k on = demote_goes r h hart gpa s k on
fetch_goes r h hart (Word w) s k on = instruction_goes r h hart w (instruction_of w) s k on refl

-- the entry is left
pub outside_sound : {rules : Rules} (hart : Hart) → IsSoundHart rules hart → IsSoundHart rules (outside_entry hart)
outside_sound hart k =
    record { aligned = k.aligned; small = k.small; legal = k.legal; entry = tt; stopped = λ off. record { mode = (k.stopped off).mode; entry = refl } }

pub leave_goes : (r : State) (h : ℕ) (hart : Hart) → IsSound r → IsSoundHart r.rules hart → Goes r (leave_entry r h hart)
leave_goes r h hart s k = goes_set r h (outside_entry hart) r.devices r.journal s (outside_sound hart k) s.disk

again_goes : (r : State) (h : ℕ) (hart : Hart) → IsSound r → IsSoundHart r.rules hart → hart.started ≡ true → Goes r (fetch_and_act (leave_entry r h hart) h (outside_entry hart))
again_goes r h hart s k on =
    let left = leave_goes r h hart s k in
    goes_on r (leave_entry r h hart) (fetch_and_act (leave_entry r h hart) h (outside_entry hart)) left
    (fetch_goes (leave_entry r h hart) h (outside_entry hart) (fetch_of (leave_entry r h hart) (outside_entry hart)) left.sound (outside_sound hart k) on)

entry_goes : (r : State) (h : ℕ) (hart : Hart) (x : Option Binding) → IsSound r → IsSoundHart r.rules hart → hart.started ≡ true → Goes r (fetch_in_entry r h hart x)
unfolding fetch_in_entry
entry_goes r h hart None s k on = fetch_goes r h hart (fetch_of r hart) s k on
entry_goes r h hart (Some entry) s k on =
    choose_goes r (leads_into r (page_of entry.gpa) (place_of_pc r hart)) _ _ (fetch_goes r h hart (fetch_of r hart) s k on)
    (choose_goes r (hart.pc == entry.va) _ _ (demote_goes r h hart (noted_gpa r.ram (place_of_pc r hart)) s k on) (again_goes r h hart s k on))

-- ---- the turn

pending_goes : (r : State) (h : ℕ) (hart : Hart) (x : Option Interrupt) → IsSound r → IsSoundHart r.rules hart → hart.started ≡ true → Goes r (act_on_pending r h hart x)
unfolding act_on_pending
pending_goes r h hart (Some interrupt) s k on = trap_goes r h hart true (interrupt_number interrupt) 0 s k
pending_goes r h hart None s k on = entry_goes r h hart (bound_entry r.rules hart.entry) s k on

attempt_goes : (r : State) (h : ℕ) (hart : Hart) → IsSound r → IsSoundHart r.rules hart → hart.started ≡ true → Goes r (act r h hart)
unfolding act
attempt_goes r h hart s k on = pending_goes r h hart (deliverable hart.mode hart.supervisor (lines_at r.devices h)) s k on

started_goes : (r : State) (h : ℕ) (hart : Hart) (x : Option Loading) → IsSound r → IsSoundHart r.rules hart → hart.started ≡ true → r.loading ≡ x → Goes r (turn_of_started r h hart x)
unfolding turn_of_started
started_goes r h hart None s k on under = attempt_goes r h hart s k on
started_goes r h hart (Some load) s k on under =
    choose_goes r (load.hart == h) _ _ (load_step_goes r h hart load load.left s k under refl) (attempt_goes r h hart s k on)

nothing_goes : (r : State) → IsSound r → Goes r r
nothing_goes r s = record { sound = s; text = text_stays (ownership r) }

hart_turn_goes : (r : State) (h : ℕ) (x : Option Hart) → IsSound r → slice_get r.harts h ≡ x → Goes r (turn_of r h x)
unfolding turn_of
hart_turn_goes r h None s there = nothing_goes r s
hart_turn_goes r h (Some hart) s there =
    decide_goes r hart.started _ _ (λ on. started_goes r h hart r.loading s (s.harts h hart there) on refl) (λ off. nothing_goes r s)

pub turn_goes : (r : State) (h : ℕ) → IsSound r → Goes r (turn r h)
unfolding turn
turn_goes r h s = hart_turn_goes r h (slice_get r.harts h) s refl

-- ---- beats and pokes

move_goes : (r : State) (x : Move) → IsSound r → FreeMove r x → Goes r (after_move r x)
unfolding after_move
move_goes r Idle s free = nothing_goes r s
move_goes r (FromRam gpa) s free = nothing_goes r s
move_goes r (IntoRam gpa bytes) s free = goes_bytes r (ram_offset gpa) bytes s (beat_page r gpa bytes free)
move_goes r (DeniedAt gpa) s free = goes_beside r r.devices (with_note (Denied gpa) (with_count count_denied r.journal)) s s.disk
move_goes r OutsideRam s free = nothing_goes r s

pub beat_goes : (r : State) → IsSound r → Goes r (beat r)
unfolding beat
beat_goes r s =
    let b : DmaStep = disk_beat r.devices.disk r.ram (λ page. not (is_protected r page)) in
    let k : IsSoundBeat r b = beat_sound r s in
    let first : Goes r (with_disk r b.disk) = goes_beside r (record r.devices { disk = b.disk }) r.journal s k.disk in
    goes_on r (with_disk r b.disk) (after_move (with_disk r b.disk) b.move) first
    (move_goes (with_disk r b.disk) b.move first.sound (free_with_disk r b.disk b.move k.move))

pub poke_goes : (r : State) (gpa value : ℕ) → IsSound r → Goes r (poke r gpa value)
unfolding poke
poke_goes r gpa value s = move_goes r (poke_move r.ram (λ page. not (is_protected r page)) gpa value) s (poke_sound r gpa value)

pub key_goes : (r : State) (byte : ℕ) → IsSound r → Goes r (key r byte)
unfolding key
key_goes r byte s =
    goes_beside r (record r.devices { console = after_key r.devices.console byte })
    (if has_room r.devices.console then r.journal else with_count count_dropped r.journal) s s.disk

pub tick_goes : (r : State) (n : ℕ) → IsSound r → Goes r (tick r n)
unfolding tick
tick_goes r n s = goes_beside r (record r.devices { clock = after_tick r.devices.clock n }) r.journal s s.disk

-- ---- events and runs

pub counted_sound : (r : State) (f : Counts → Counts) → IsSound r → Goes r (count r f)
counted_sound r f s = goes_beside r r.devices (with_count f r.journal) s s.disk

happen_goes : (r : State) (e : Event) → IsSound r → Goes r (happen r e)
unfolding happen
happen_goes r (Turn h) s =
    let first = counted_sound r count_turn s in goes_on r (count r count_turn) (turn (count r count_turn) h) first (turn_goes (count r count_turn) h first.sound)
happen_goes r Beat s =
    let first = counted_sound r count_beat s in goes_on r (count r count_beat) (beat (count r count_beat)) first (beat_goes (count r count_beat) first.sound)
happen_goes r (Key byte) s =
    let first = counted_sound r count_key s in goes_on r (count r count_key) (key (count r count_key) byte) first (key_goes (count r count_key) byte first.sound)
happen_goes r (Tick n) s =
    let first = counted_sound r count_tick s in goes_on r (count r count_tick) (tick (count r count_tick) n) first (tick_goes (count r count_tick) n first.sound)
happen_goes r (Poke gpa value) s =
    let first = counted_sound r count_beat s in
    goes_on r (count r count_beat) (poke (count r count_beat) gpa value) first (poke_goes (count r count_beat) gpa value first.sound)

under_goes : (verdict : Verdict) (r : State) (e : Event) → IsSound r → Goes r (happen_under verdict r e)
unfolding happen_under
under_goes Running r e s = happen_goes r e s
under_goes Shutdown r e s = nothing_goes r s
under_goes (Stopped rule h at) r e s = nothing_goes r s

-- each event
pub step_goes : (r : State) (e : Event) → IsSound r → Goes r (step r e)
unfolding step
step_goes r e s = under_goes r.journal.verdict r e s

-- and each run
pub run_goes : (r : State) (events : List Event) → IsSound r → Goes r (run r events)
run_goes r [] s = nothing_goes r s
run_goes r (e ∷ events) s =
    let first = step_goes r e s in goes_on r (step r e) (run (step r e) events) first (run_goes (step r e) events first.sound)
