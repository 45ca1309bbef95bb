-- The journal after each event.
use Rattle.std.proofs.Common.{ℕ, Bool, true, false, not, slice_get}
use Rattle.std.specs.Prelude.{Option, Some, None, if◌then◌else◌, ◌==◌}
use Rattle.sv_types.specs.Console.{has_room}
use Rattle.spec_processor.specs.Effects.{effect_of}
use Rattle.spec_processor.specs.Instructions.{instruction_of}
use Rattle.spec_processor.specs.Traps.{interrupt_number, deliverable}
use Rattle.spec_processor.specs.declared.cause.Cause.{Cause}
use Rattle.spec_processor.specs.declared.effect.Effect.{Effect}
use Rattle.sv_types.specs.declared.event.Event.{Event}
use Rattle.sv_types.specs.declared.event.Event.TheVariants.{Turn, Beat, Key, Tick, Poke}
use Rattle.sv_types.specs.declared.event.Note.TheVariants.{Demote, Denied}
use Rattle.sv_types.specs.declared.event.Verdict.{Verdict}
use Rattle.sv_types.specs.declared.event.Verdict.TheVariants.{Running, Shutdown, Stopped}
use Rattle.spec_processor.specs.declared.instruction.Instr.{Instr}
use Rattle.spec_processor.specs.declared.interrupt.Interrupt.{Interrupt}
use Rattle.spec_processor.specs.declared.mode.Mode.{Mode}
use Rattle.spec_processor.specs.declared.mode.Mode.TheVariants.{Kernel, User}
use Rattle.spec_processor.specs.Bytes.{page_of}
use Rattle.spec_reference.specs.States.{State, Hart, Journal, Loading, is_protected, Binding}
use Rattle.spec_reference.specs.Counting.{with_count, count, count_dropped, count_turn, count_beat, count_key, count_tick}
use Rattle.spec_reference.specs.Attacker.{poke_move}
use Rattle.spec_reference.specs.Disk.{DmaStep, disk_beat}
use Rattle.spec_reference.specs.Move.{Move, Idle, FromRam, IntoRam, DeniedAt, OutsideRam}
use Rattle.spec_reference.specs.Devices.{lines_at, with_disk, with_bytes, after_move, may_move_to, beat, poke, key, tick}
use Rattle.spec_reference.specs.Requests.{source_of, target_of, csr_asked}
use Rattle.spec_reference.specs.Run.{happen, happen_under, step}
use Rattle.spec_reference.specs.Turn.{place_of_pc, leads_into, noted_gpa, outside_entry, leave_entry, fetch_in_entry, bound_entry}
use Rattle.spec_reference.specs.Turn.{carry_out_kernel_only, carry_out_ecall, carry_out_sret, carry_out_effect, carry_out_instruction}
use Rattle.spec_reference.specs.Turn.{carry_out_word, Fetched, NoWord, Stray, Word, fetch_of, act_on_fetch, act_on_pending, act}
use Rattle.spec_reference.specs.Turn.{turn_of_started, turn_of, turn}
use Rattle.laws_simulation.specs.GrowthLaws.{Grows, GrowsLaw}
use Rattle.laws_simulation.proofs.CallsGrow.{call_gains, load_step_gains}
use Rattle.laws_simulation.proofs.Growth.{Moves, Gains, choose_gains, still, retires, demotes, denies, drops, turn_grows, beat_grows, key_grows, tick_grows, rests_grows}
use Rattle.laws_simulation.proofs.RequestsGrow.{exception_gains, trap_gains, return_gains, load_gains, load_reserved_gains, store_gains, store_conditional_gains, amo_gains, csr_gains}

-- ---- instructions

illegal_gains : (r : State) (h : ℕ) (hart : Hart) (w : ℕ) (mode : Mode) → Gains r (carry_out_kernel_only r h hart w mode)
unfolding carry_out_kernel_only
illegal_gains r h hart w Kernel = retires r.journal
illegal_gains r h hart w User = exception_gains r h hart Cause.Illegal w

ecall_gains : (r : State) (h : ℕ) (hart : Hart) (mode : Mode) → Gains r (carry_out_ecall r h hart mode)
unfolding carry_out_ecall
ecall_gains r h hart Kernel = call_gains r h hart
ecall_gains r h hart User = exception_gains r h hart Cause.UserCall 0

sret_gains : (r : State) (h : ℕ) (hart : Hart) (w : ℕ) (mode : Mode) → Gains r (carry_out_sret r h hart w mode)
unfolding carry_out_sret
sret_gains r h hart w Kernel = return_gains r h hart
sret_gains r h hart w User = exception_gains r h hart Cause.Illegal w

effect_gains : (r : State) (h : ℕ) (hart : Hart) (w : ℕ) (e : Effect) → Gains r (carry_out_effect r h hart w e)
unfolding carry_out_effect
effect_gains r h hart w (Effect.Set rd value next) = retires r.journal
effect_gains r h hart w (Effect.MisalignedJump target) = exception_gains r h hart Cause.InstrMisaligned target
effect_gains r h hart w (Effect.Load rd address width signed) = load_gains r h hart rd address width signed (source_of r hart address width)
effect_gains r h hart w (Effect.Store address width value) = store_gains r h hart address width value (target_of r hart address width)
effect_gains r h hart w (Effect.LoadReserved rd address width) = load_reserved_gains r h hart rd address width (source_of r hart address width)
effect_gains r h hart w (Effect.StoreConditional rd address width value) =
    store_conditional_gains r h hart rd address width value (target_of r hart address width)
effect_gains r h hart w (Effect.Amo rd address width op value) = amo_gains r h hart rd address width op value (target_of r hart address width)
effect_gains r h hart w (Effect.Csr rd number op operand writes) = csr_gains r h hart w rd op operand writes (csr_asked hart number writes)
effect_gains r h hart w Effect.Ecall = ecall_gains r h hart hart.mode
effect_gains r h hart w Effect.Ebreak = exception_gains r h hart Cause.Breakpoint hart.pc
effect_gains r h hart w Effect.Sret = sret_gains r h hart w hart.mode
effect_gains r h hart w Effect.Wfi = illegal_gains r h hart w hart.mode
effect_gains r h hart w Effect.SfenceVma = illegal_gains r h hart w hart.mode
effect_gains r h hart w Effect.Fence = retires r.journal
effect_gains r h hart w Effect.Hyper = exception_gains r h hart Cause.Illegal w

instruction_gains : (r : State) (h : ℕ) (hart : Hart) (w : ℕ) (x : Option Instr) → Gains r (carry_out_instruction r h hart w x)
unfolding carry_out_instruction
instruction_gains r h hart w None = exception_gains r h hart Cause.Illegal w
instruction_gains r h hart w (Some i) = effect_gains r h hart w (effect_of i hart.registers hart.pc)

-- ---- turns

fetch_gains : (r : State) (h : ℕ) (hart : Hart) (x : Fetched) → Gains r (act_on_fetch r h hart x)
unfolding act_on_fetch carry_out_word
fetch_gains r h hart (NoWord cause) = exception_gains r h hart cause hart.pc
fetch_gains r h hart (Stray gpa) = demotes r.journal (Demote h r.journal.counts.turns hart.pc gpa)
fetch_gains r h hart (Word w) = instruction_gains r h hart w (instruction_of w)

entry_gains : (r : State) (h : ℕ) (hart : Hart) (x : Option Binding) → Gains r (fetch_in_entry r h hart x)
unfolding fetch_in_entry
entry_gains r h hart None = fetch_gains r h hart (fetch_of r hart)
entry_gains r h hart (Some entry) =
    choose_gains r (leads_into r (page_of entry.gpa) (place_of_pc r hart)) _ _ (fetch_gains r h hart (fetch_of r hart))
    (choose_gains r (hart.pc == entry.va) _ _ (demotes r.journal (Demote h r.journal.counts.turns hart.pc (noted_gpa r.ram (place_of_pc r hart))))
    (fetch_gains (leave_entry r h hart) h (outside_entry hart) (fetch_of (leave_entry r h hart) (outside_entry hart))))

pending_gains : (r : State) (h : ℕ) (hart : Hart) (x : Option Interrupt) → Gains r (act_on_pending r h hart x)
unfolding act_on_pending
pending_gains r h hart (Some interrupt) = trap_gains r h hart hart.mode true (interrupt_number interrupt) 0
pending_gains r h hart None = entry_gains r h hart (bound_entry r.rules hart.entry)

attempt_gains : (r : State) (h : ℕ) (hart : Hart) → Gains r (act r h hart)
unfolding act
attempt_gains r h hart = pending_gains r h hart (deliverable hart.mode hart.supervisor (lines_at r.devices h))

started_gains : (r : State) (h : ℕ) (hart : Hart) (x : Option Loading) → Gains r (turn_of_started r h hart x)
unfolding turn_of_started
started_gains r h hart None = attempt_gains r h hart
started_gains r h hart (Some load) = choose_gains r (load.hart == h) _ _ (load_step_gains r h hart load load.left) (attempt_gains r h hart)

hart_turn_gains : (r : State) (h : ℕ) (x : Option Hart) → Gains r (turn_of r h x)
unfolding turn_of
hart_turn_gains r h None = still r.journal
hart_turn_gains r h (Some hart) = choose_gains r hart.started _ _ (started_gains r h hart r.loading) (still r.journal)

pub turn_gains : (r : State) (h : ℕ) → Gains r (turn r h)
unfolding turn
turn_gains r h = hart_turn_gains r h (slice_get r.harts h)

-- ---- the other events

move_gains : (r : State) (x : Move) → Gains r (after_move r x)
unfolding after_move with_bytes
move_gains r Idle = still r.journal
move_gains r (FromRam gpa) = still r.journal
move_gains r (IntoRam gpa bytes) = still r.journal
move_gains r (DeniedAt gpa) = denies r.journal (Denied gpa)
move_gains r OutsideRam = still r.journal

beat_gains : (r : State) → Gains r (beat r)
unfolding beat
beat_gains r =
    let b : DmaStep = disk_beat r.devices.disk r.ram (λ page. not (is_protected r page)) in
    move_gains (with_disk r b.disk) b.move

poke_gains : (r : State) (gpa value : ℕ) → Gains r (poke r gpa value)
unfolding poke
poke_gains r gpa value = move_gains r (poke_move r.ram (λ page. may_move_to r page) gpa value)

room_moves : (j : Journal) (room : Bool) → Moves j (if room then j else with_count count_dropped j)
room_moves j true = still j
room_moves j false = drops j

key_gains : (r : State) (byte : ℕ) → Gains r (key r byte)
unfolding key
key_gains r byte = room_moves r.journal (has_room r.devices.console)

tick_gains : (r : State) (n : ℕ) → Gains r (tick r n)
unfolding tick
tick_gains r n = still r.journal

-- ---- each event

happen_grows : (r : State) (e : Event) → Grows r.journal (happen r e).journal
unfolding happen
happen_grows r (Turn h) = turn_grows r.journal _ (turn_gains (count r count_turn) h)
happen_grows r Beat = beat_grows r.journal _ (beat_gains (count r count_beat))
happen_grows r (Key byte) = key_grows r.journal _ (key_gains (count r count_key) byte)
happen_grows r (Tick by) = tick_grows r.journal _ (tick_gains (count r count_tick) by)
happen_grows r (Poke gpa value) = beat_grows r.journal _ (poke_gains (count r count_beat) gpa value)

under_grows : (verdict : Verdict) (r : State) (e : Event) → Grows r.journal (happen_under verdict r e).journal
unfolding happen_under
under_grows Running r e = happen_grows r e
under_grows Shutdown r e = rests_grows r.journal
under_grows (Stopped rule h at) r e = rests_grows r.journal

pub grows_law : GrowsLaw
unfolding step
grows_law r e = under_grows r.journal.verdict r e
