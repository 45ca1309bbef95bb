-- The notes of each event.
use Rattle.std.proofs.Common.{ℕ, Bool, true, false, not, slice_get}
use Rattle.std.specs.Prelude.{Option, Some, None, if◌then◌else◌, ◌==◌}
use Rattle.sv_types.specs.Console.{after_key, has_room}
use Rattle.spec_processor.specs.Effects.{effect_of}
use Rattle.spec_processor.specs.Instructions.{instruction_of}
use Rattle.spec_processor.specs.Traps.{interrupt_number, deliverable}
use Rattle.spec_processor.specs.declared.cause.Cause.{Cause}
use Rattle.spec_processor.specs.declared.effect.Effect.{Effect}
use Rattle.sv_types.specs.declared.event.Event.{Event}
use Rattle.sv_types.specs.declared.event.Event.TheVariants.{Turn, Beat, Key, Tick, Poke}
use Rattle.sv_types.specs.declared.event.Note.TheVariants.{Demote, Denied}
use Rattle.sv_types.specs.declared.event.Verdict.{Verdict}
use Rattle.sv_types.specs.declared.event.Verdict.TheVariants.{Running, Shutdown, Stopped}
use Rattle.spec_processor.specs.declared.instruction.Instr.{Instr}
use Rattle.spec_processor.specs.declared.interrupt.Interrupt.{Interrupt}
use Rattle.spec_processor.specs.declared.mode.Mode.{Mode}
use Rattle.spec_processor.specs.declared.mode.Mode.TheVariants.{Kernel, User}
use Rattle.spec_processor.specs.Bytes.{page_of}
use Rattle.spec_reference.specs.States.{State, Hart, Journal, Loading, is_protected, with_hart, Binding}
use Rattle.spec_reference.specs.Counting.{with_count, count, count_dropped, count_turn, count_beat, count_key, count_tick, count_demote, count_denied}
use Rattle.spec_reference.specs.Attacker.{poke_move}
use Rattle.spec_reference.specs.Disk.{DmaStep, disk_beat}
use Rattle.spec_reference.specs.Move.{Move, Idle, FromRam, IntoRam, DeniedAt, OutsideRam}
use Rattle.spec_reference.specs.Devices.{lines_at, with_disk, with_bytes, after_move, may_move_to, beat, poke, key, tick}
use Rattle.spec_reference.specs.Requests.{source_of, target_of, csr_asked}
use Rattle.spec_reference.specs.Run.{happen, happen_under, step}
use Rattle.spec_reference.specs.Turn.{place_of_pc, leads_into, noted_gpa, outside_entry, leave_entry, fetch_in_entry, bound_entry, in_user_mode}
use Rattle.spec_reference.specs.Turn.{carry_out_kernel_only, carry_out_ecall, carry_out_sret, carry_out_effect, carry_out_instruction}
use Rattle.spec_reference.specs.Turn.{carry_out_word, Fetched, NoWord, Stray, Word, fetch_of, act_on_fetch, act_on_pending, act}
use Rattle.spec_reference.specs.Turn.{turn_of_started, turn_of, turn}
use Rattle.machine.specs.Noting.{noting}
use Rattle.machine_journal.specs.Journals.{with_notes}
use Rattle.cli_survey.proofs.KeepsNotes.{Notes, choose, one, quiet}
use Rattle.cli_survey.proofs.CallsNote.{call_notes, load_step_notes}
use Rattle.cli_survey.proofs.RequestsNote.{exception_notes, trap_notes, return_notes, load_notes, load_reserved_notes, store_notes, store_conditional_notes, amo_notes, csr_notes}

-- the input's byte waits, or not
abbrev with_key : State → ℕ → Journal → State
with_key r byte journal = record r { devices = record r.devices { console = after_key r.devices.console byte }; journal = journal }

-- ---- instructions

illegal_notes : (r : State) (h : ℕ) (hart : Hart) (w : ℕ) (mode : Mode) → Notes (λ notes. carry_out_kernel_only (noting notes r) h hart w mode) (carry_out_kernel_only r h hart w mode)
unfolding carry_out_kernel_only
illegal_notes r h hart w Kernel = quiet _
illegal_notes r h hart w User = exception_notes r h hart Cause.Illegal w

ecall_notes : (r : State) (h : ℕ) (hart : Hart) (mode : Mode) → Notes (λ notes. carry_out_ecall (noting notes r) h hart mode) (carry_out_ecall r h hart mode)
unfolding carry_out_ecall
ecall_notes r h hart Kernel = call_notes r h hart
ecall_notes r h hart User = exception_notes r h hart Cause.UserCall 0

sret_notes : (r : State) (h : ℕ) (hart : Hart) (w : ℕ) (mode : Mode) → Notes (λ notes. carry_out_sret (noting notes r) h hart w mode) (carry_out_sret r h hart w mode)
unfolding carry_out_sret
sret_notes r h hart w Kernel = return_notes r h hart
sret_notes r h hart w User = exception_notes r h hart Cause.Illegal w

effect_notes : (r : State) (h : ℕ) (hart : Hart) (w : ℕ) (e : Effect) → Notes (λ notes. carry_out_effect (noting notes r) h hart w e) (carry_out_effect r h hart w e)
unfolding carry_out_effect is_protected
effect_notes r h hart w (Effect.Set rd value next) = quiet _
effect_notes r h hart w (Effect.MisalignedJump target) = exception_notes r h hart Cause.InstrMisaligned target
effect_notes r h hart w (Effect.Load rd address width signed) = load_notes r h hart rd address width signed (source_of r hart address width)
effect_notes r h hart w (Effect.Store address width value) = store_notes r h hart address width value (target_of r hart address width)
effect_notes r h hart w (Effect.LoadReserved rd address width) = load_reserved_notes r h hart rd address width (source_of r hart address width)
effect_notes r h hart w (Effect.StoreConditional rd address width value) =
    store_conditional_notes r h hart rd address width value (target_of r hart address width)
effect_notes r h hart w (Effect.Amo rd address width op value) = amo_notes r h hart rd address width op value (target_of r hart address width)
effect_notes r h hart w (Effect.Csr rd number op operand writes) = csr_notes r h hart w rd op operand writes (csr_asked hart number writes)
effect_notes r h hart w Effect.Ecall = ecall_notes r h hart hart.mode
effect_notes r h hart w Effect.Ebreak = exception_notes r h hart Cause.Breakpoint hart.pc
effect_notes r h hart w Effect.Sret = sret_notes r h hart w hart.mode
effect_notes r h hart w Effect.Wfi = illegal_notes r h hart w hart.mode
effect_notes r h hart w Effect.SfenceVma = illegal_notes r h hart w hart.mode
effect_notes r h hart w Effect.Fence = quiet _
effect_notes r h hart w Effect.Hyper = exception_notes r h hart Cause.Illegal w

instruction_notes : (r : State) (h : ℕ) (hart : Hart) (w : ℕ) (x : Option Instr) → Notes (λ notes. carry_out_instruction (noting notes r) h hart w x) (carry_out_instruction r h hart w x)
unfolding carry_out_instruction
instruction_notes r h hart w None = exception_notes r h hart Cause.Illegal w
instruction_notes r h hart w (Some i) = effect_notes r h hart w (effect_of i hart.registers hart.pc)

-- ---- turns

fetch_notes : (r : State) (h : ℕ) (hart : Hart) (x : Fetched) → Notes (λ notes. act_on_fetch (noting notes r) h hart x) (act_on_fetch r h hart x)
unfolding act_on_fetch carry_out_word
fetch_notes r h hart (NoWord cause) = exception_notes r h hart cause hart.pc
fetch_notes r h hart (Stray gpa) = one (Demote h r.journal.counts.turns hart.pc gpa) (count (with_hart r h (in_user_mode hart)) count_demote)
fetch_notes r h hart (Word w) = instruction_notes r h hart w (instruction_of w)

entry_notes : (r : State) (h : ℕ) (hart : Hart) (x : Option Binding) → Notes (λ notes. fetch_in_entry (noting notes r) h hart x) (fetch_in_entry r h hart x)
unfolding fetch_in_entry leads_into act_on_fetch
entry_notes r h hart None = fetch_notes r h hart (fetch_of r hart)
entry_notes r h hart (Some entry) =
    choose (leads_into r (page_of entry.gpa) (place_of_pc r hart)) _ _ _ _ (fetch_notes r h hart (fetch_of r hart))
    (choose (hart.pc == entry.va) _ _ _ _ (one (Demote h r.journal.counts.turns hart.pc (noted_gpa r.ram (place_of_pc r hart))) (count (with_hart r h (in_user_mode hart)) count_demote))
    (fetch_notes (leave_entry r h hart) h (outside_entry hart) (fetch_of (leave_entry r h hart) (outside_entry hart))))

pending_notes : (r : State) (h : ℕ) (hart : Hart) (x : Option Interrupt) → Notes (λ notes. act_on_pending (noting notes r) h hart x) (act_on_pending r h hart x)
unfolding act_on_pending
pending_notes r h hart (Some interrupt) = trap_notes r h hart hart.mode true (interrupt_number interrupt) 0
pending_notes r h hart None = entry_notes r h hart (bound_entry r.rules hart.entry)

attempt_notes : (r : State) (h : ℕ) (hart : Hart) → Notes (λ notes. act (noting notes r) h hart) (act r h hart)
unfolding act
attempt_notes r h hart = pending_notes r h hart (deliverable hart.mode hart.supervisor (lines_at r.devices h))

started_notes : (r : State) (h : ℕ) (hart : Hart) (x : Option Loading) → Notes (λ notes. turn_of_started (noting notes r) h hart x) (turn_of_started r h hart x)
unfolding turn_of_started
started_notes r h hart None = attempt_notes r h hart
started_notes r h hart (Some load) = choose (load.hart == h) _ _ _ _ (load_step_notes r h hart load load.left) (attempt_notes r h hart)

hart_turn_notes : (r : State) (h : ℕ) (x : Option Hart) → Notes (λ notes. turn_of (noting notes r) h x) (turn_of r h x)
unfolding turn_of
hart_turn_notes r h None = quiet _
hart_turn_notes r h (Some hart) = choose hart.started _ _ _ _ (started_notes r h hart r.loading) (quiet _)

pub turn_notes : (r : State) (h : ℕ) → Notes (λ notes. turn (noting notes r) h) (turn r h)
unfolding turn
turn_notes r h = hart_turn_notes r h (slice_get r.harts h)

-- ---- the other events

move_notes : (r : State) (x : Move) → Notes (λ notes. after_move (noting notes r) x) (after_move r x)
unfolding after_move with_bytes
move_notes r Idle = quiet _
move_notes r (FromRam gpa) = quiet _
move_notes r (IntoRam gpa bytes) = quiet _
move_notes r (DeniedAt gpa) = one (Denied gpa) (count r count_denied)
move_notes r OutsideRam = quiet _

beat_notes : (r : State) → Notes (λ notes. beat (noting notes r)) (beat r)
unfolding beat is_protected
beat_notes r =
    let b : DmaStep = disk_beat r.devices.disk r.ram (λ page. not (is_protected r page)) in
    move_notes (with_disk r b.disk) b.move

poke_notes : (r : State) (gpa value : ℕ) → Notes (λ notes. poke (noting notes r) gpa value) (poke r gpa value)
unfolding poke is_protected
poke_notes r gpa value = move_notes r (poke_move r.ram (λ page. may_move_to r page) gpa value)

key_notes_by : (room : Bool) (r : State) (byte : ℕ) →
    Notes (λ notes. with_key (noting notes r) byte (if room then with_notes notes r.journal else with_count count_dropped (with_notes notes r.journal)))
    (with_key r byte (if room then r.journal else with_count count_dropped r.journal))
key_notes_by true r byte = quiet _
key_notes_by false r byte = quiet _

key_notes : (r : State) (byte : ℕ) → Notes (λ notes. key (noting notes r) byte) (key r byte)
unfolding key
key_notes r byte = key_notes_by (has_room r.devices.console) r byte

tick_notes : (r : State) (n : ℕ) → Notes (λ notes. tick (noting notes r) n) (tick r n)
unfolding tick
tick_notes r n = quiet _

-- ---- each event

happen_notes : (r : State) (e : Event) → Notes (λ notes. happen (noting notes r) e) (happen r e)
unfolding happen
happen_notes r (Turn h) = turn_notes (count r count_turn) h
happen_notes r Beat = beat_notes (count r count_beat)
happen_notes r (Key byte) = key_notes (count r count_key) byte
happen_notes r (Tick by) = tick_notes (count r count_tick) by
happen_notes r (Poke gpa value) = poke_notes (count r count_beat) gpa value

under_notes : (verdict : Verdict) (r : State) (e : Event) → Notes (λ notes. happen_under verdict (noting notes r) e) (happen_under verdict r e)
unfolding happen_under
under_notes Running r e = happen_notes r e
under_notes Shutdown r e = quiet r
under_notes (Stopped rule h at) r e = quiet r

pub step_notes : (r : State) (e : Event) → Notes (λ notes. step (noting notes r) e) (step r e)
unfolding step
step_notes r e = under_notes r.journal.verdict r e
