-- Two states that are alike, after each event.
use Rattle.std.proofs.Common.{◌≡◌, ℕ, List, Bool, true, false, not, ◌&&◌, ap, subst, sym, refl, slice_get}
use Rattle.std.specs.Prelude.{Option, Some, None, if◌then◌else◌, ◌==◌, is_some}
use Rattle.sv_types.specs.Console.{has_room, after_key}
use Rattle.spec_processor.specs.Bytes.{page_of, in_ram}
use Rattle.spec_processor.specs.Effects.{effect_of}
use Rattle.spec_processor.specs.Instructions.{instruction_of}
use Rattle.spec_processor.specs.Traps.{interrupt_number, deliverable}
use Rattle.spec_processor.specs.Translation.{Destination, At, PageFault, Unreadable}
use Rattle.spec_processor.specs.declared.cause.Cause.{Cause}
use Rattle.spec_processor.specs.declared.effect.Effect.{Effect}
use Rattle.spec_processor.specs.declared.instruction.Instr.{Instr}
use Rattle.spec_processor.specs.declared.interrupt.Interrupt.{Interrupt}
use Rattle.spec_processor.specs.declared.mode.Mode.{Mode}
use Rattle.spec_processor.specs.declared.mode.Mode.TheVariants.{Kernel, User}
use Rattle.sv_types.specs.declared.event.Event.{Event}
use Rattle.sv_types.specs.declared.event.Event.TheVariants.{Turn, Beat, Key, Tick, Poke}
use Rattle.sv_types.specs.declared.event.Verdict.{Verdict}
use Rattle.sv_types.specs.declared.event.Verdict.TheVariants.{Running, Shutdown, Stopped}
use Rattle.spec_reference.specs.States.{State, Hart, Loading, is_protected, Binding}
use Rattle.spec_reference.specs.Counting.{with_count, count, count_dropped, count_turn, count_beat, count_key, count_tick}
use Rattle.spec_reference.specs.Attacker.{poke_move}
use Rattle.spec_reference.specs.Disk.{DmaStep, disk_beat}
use Rattle.spec_reference.specs.Move.{Move, Idle, FromRam, IntoRam, DeniedAt, OutsideRam}
use Rattle.spec_reference.specs.Devices.{lines_at, with_disk, with_bytes, after_move, after_dma_step, beat, poke, key, tick}
use Rattle.spec_reference.specs.Requests.{source_of, target_of, csr_asked, carry_out_store, carry_out_store_conditional, carry_out_amo, Target}
use Rattle.spec_reference.specs.Run.{happen, happen_under, step}
use Rattle.spec_reference.specs.Turn.{place_of_pc, leads_into, noted_gpa, outside_entry, leave_entry, demote, fetch_in_entry, bound_entry}
use Rattle.spec_reference.specs.Turn.{carry_out_kernel_only, carry_out_ecall, carry_out_sret, carry_out_effect, carry_out_instruction}
use Rattle.spec_reference.specs.Turn.{carry_out_word, Fetched, NoWord, Stray, Word, fetch, fetched_at, fetched_in, fetch_of, fetch_and_act}
use Rattle.spec_reference.specs.Turn.{act_on_fetch, act_on_pending, act, turn_of_started, turn_of, turn}
use Rattle.laws_resume.specs.Continues.{Alike, AlikeLaw}
use Rattle.laws_resume.proofs.AlikeRequests.{Twins, second, AlikeAfter, choose_alike, protected_same, exception_alike, trap_alike}
use Rattle.laws_resume.proofs.AlikeRequests.{return_alike, load_alike, load_reserved_alike, target_same, store_alike}
use Rattle.laws_resume.proofs.AlikeRequests.{store_conditional_alike, amo_alike, csr_alike}
use Rattle.laws_resume.proofs.AlikeCalls.{call_alike, load_step_alike}

-- ---- instructions

kernel_only_alike : (x : Twins) (h : ℕ) (hart : Hart) (w : ℕ) (mode : Mode) → AlikeAfter x (λ r. carry_out_kernel_only r h hart w mode)
unfolding carry_out_kernel_only
kernel_only_alike x h hart w Kernel = record { approved = x.same; printed = x.before; rest = refl }
kernel_only_alike x h hart w User = exception_alike x h hart Cause.Illegal w

ecall_alike : (x : Twins) (h : ℕ) (hart : Hart) (mode : Mode) → AlikeAfter x (λ r. carry_out_ecall r h hart mode)
unfolding carry_out_ecall
ecall_alike x h hart Kernel = call_alike x h hart
ecall_alike x h hart User = exception_alike x h hart Cause.UserCall 0

sret_alike : (x : Twins) (h : ℕ) (hart : Hart) (w : ℕ) (mode : Mode) → AlikeAfter x (λ r. carry_out_sret r h hart w mode)
unfolding carry_out_sret
sret_alike x h hart w Kernel = return_alike x h hart
sret_alike x h hart w User = exception_alike x h hart Cause.Illegal w

-- a request whose target is found among the protected pages
targeted_alike : (x : Twins) (hart : Hart) (address width : ℕ) (change : State → Target → State) → ((target : Target) → AlikeAfter x (λ r. change r target))
    → AlikeAfter x (λ r. change r (target_of r hart address width))
targeted_alike x hart address width change alike =
    subst (λ (target : Target). Alike x.front (change x.r (target_of x.r hart address width)) (change (second x) target))
    (sym (target_same x hart address width)) (alike (target_of x.r hart address width))

effect_alike : (x : Twins) (h : ℕ) (hart : Hart) (w : ℕ) (e : Effect) → AlikeAfter x (λ r. carry_out_effect r h hart w e)
unfolding carry_out_effect
effect_alike x h hart w (Effect.Set rd value next) = record { approved = x.same; printed = x.before; rest = refl }
effect_alike x h hart w (Effect.MisalignedJump target) = exception_alike x h hart Cause.InstrMisaligned target
effect_alike x h hart w (Effect.Load rd address width signed) = load_alike x h hart rd address width signed (source_of x.r hart address width)
effect_alike x h hart w (Effect.Store address width value) =
    targeted_alike x hart address width (λ r. λ target. carry_out_store r h hart address width value target) (store_alike x h hart address width value)
effect_alike x h hart w (Effect.LoadReserved rd address width) = load_reserved_alike x h hart rd address width (source_of x.r hart address width)
effect_alike x h hart w (Effect.StoreConditional rd address width value) =
    targeted_alike x hart address width (λ r. λ target. carry_out_store_conditional r h hart rd address width value target)
    (store_conditional_alike x h hart rd address width value)
effect_alike x h hart w (Effect.Amo rd address width op value) =
    targeted_alike x hart address width (λ r. λ target. carry_out_amo r h hart rd address width op value target) (amo_alike x h hart rd address width op value)
effect_alike x h hart w (Effect.Csr rd number op operand writes) = csr_alike x h hart w rd op operand writes (csr_asked hart number writes)
effect_alike x h hart w Effect.Ecall = ecall_alike x h hart hart.mode
effect_alike x h hart w Effect.Ebreak = exception_alike x h hart Cause.Breakpoint hart.pc
effect_alike x h hart w Effect.Sret = sret_alike x h hart w hart.mode
effect_alike x h hart w Effect.Wfi = kernel_only_alike x h hart w hart.mode
effect_alike x h hart w Effect.SfenceVma = kernel_only_alike x h hart w hart.mode
effect_alike x h hart w Effect.Fence = record { approved = x.same; printed = x.before; rest = refl }
effect_alike x h hart w Effect.Hyper = exception_alike x h hart Cause.Illegal w

instruction_alike : (x : Twins) (h : ℕ) (hart : Hart) (w : ℕ) (i : Option Instr) → AlikeAfter x (λ r. carry_out_instruction r h hart w i)
unfolding carry_out_instruction
instruction_alike x h hart w None = exception_alike x h hart Cause.Illegal w
instruction_alike x h hart w (Some i) = effect_alike x h hart w (effect_of i hart.registers hart.pc)

-- ---- fetches

fetched_alike : (x : Twins) (h : ℕ) (hart : Hart) (fetched : Fetched) → AlikeAfter x (λ r. act_on_fetch r h hart fetched)
unfolding act_on_fetch carry_out_word
fetched_alike x h hart (NoWord cause) = exception_alike x h hart cause hart.pc
fetched_alike x h hart (Stray gpa) = record { approved = x.same; printed = x.before; rest = refl }
fetched_alike x h hart (Word w) = instruction_alike x h hart w (instruction_of w)

fetched_same : (x : Twins) (mode : Mode) (to : Destination) → fetched_at x.r.ram x.approved mode to ≡ fetched_at x.r.ram x.r.approved mode to
unfolding fetched_at
fetched_same x mode PageFault = refl
fetched_same x mode (Unreadable entry) = refl
fetched_same x mode (At gpa) =
    ap (λ (bytes : Option (List ℕ)). if in_ram x.r.ram gpa 4 then fetched_in x.r.ram mode gpa bytes else NoWord Cause.InstrAccess) (x.same (page_of gpa))

fetch_same : (x : Twins) (hart : Hart) → fetch_of (second x) hart ≡ fetch_of x.r hart
unfolding fetch
fetch_same x hart = fetched_same x hart.mode (place_of_pc x.r hart)

fetch_alike : (x : Twins) (h : ℕ) (hart : Hart) → AlikeAfter x (λ r. fetch_and_act r h hart)
fetch_alike x h hart =
    subst (λ (fetched : Fetched). Alike x.front (fetch_and_act x.r h hart) (act_on_fetch (second x) h hart fetched))
    (sym (fetch_same x hart)) (fetched_alike x h hart (fetch_of x.r hart))

-- ---- fetches in an entry

leads_same : (x : Twins) (page : ℕ) (to : Destination) → leads_into (second x) page to ≡ leads_into x.r page to
unfolding leads_into
leads_same x page PageFault = refl
leads_same x page (Unreadable entry) = refl
leads_same x page (At gpa) =
    ap (λ (bytes : Option (List ℕ)). in_ram x.r.ram gpa 4 && is_some bytes && page_of gpa == page) (x.same (page_of gpa))

-- by whether the pc leads into the entry's page
abbrev in_entry : Bool → State → ℕ → Hart → Binding → State
in_entry leads r h hart entry =
    if leads then fetch_and_act r h hart
    else if hart.pc == entry.va then demote r h hart (noted_gpa r.ram (place_of_pc r hart))
    else fetch_and_act (leave_entry r h hart) h (outside_entry hart)

without_entry : Twins → ℕ → Hart → Twins
without_entry x h hart = record { front = x.front; r = leave_entry x.r h hart; approved = x.approved; printed = x.printed; same = x.same; before = x.before }

in_entry_alike : (x : Twins) (leads : Bool) (h : ℕ) (hart : Hart) (entry : Binding) → AlikeAfter x (λ r. in_entry leads r h hart entry)
unfolding without_entry
in_entry_alike x leads h hart entry =
    choose_alike x.front leads _ _ _ _ (fetch_alike x h hart)
    (choose_alike x.front (hart.pc == entry.va) _ _ _ _
    (record { approved = x.same; printed = x.before; rest = refl })
    (fetch_alike (without_entry x h hart) h (outside_entry hart)))

entry_alike : (x : Twins) (h : ℕ) (hart : Hart) (entry : Option Binding) → AlikeAfter x (λ r. fetch_in_entry r h hart entry)
unfolding fetch_in_entry
entry_alike x h hart None = fetch_alike x h hart
entry_alike x h hart (Some entry) =
    let leads : Bool = leads_into x.r (page_of entry.gpa) (place_of_pc x.r hart) in
    subst (λ (other : Bool). Alike x.front (in_entry leads x.r h hart entry) (in_entry other (second x) h hart entry))
    (sym (leads_same x (page_of entry.gpa) (place_of_pc x.r hart))) (in_entry_alike x leads h hart entry)

-- ---- turns

pending_alike : (x : Twins) (h : ℕ) (hart : Hart) (pending : Option Interrupt) → AlikeAfter x (λ r. act_on_pending r h hart pending)
unfolding act_on_pending
pending_alike x h hart (Some interrupt) = trap_alike x h hart hart.mode true (interrupt_number interrupt) 0
pending_alike x h hart None = entry_alike x h hart (bound_entry x.r.rules hart.entry)

attempt_alike : (x : Twins) (h : ℕ) (hart : Hart) → AlikeAfter x (λ r. act r h hart)
unfolding act
attempt_alike x h hart = pending_alike x h hart (deliverable hart.mode hart.supervisor (lines_at x.r.devices h))

started_alike : (x : Twins) (h : ℕ) (hart : Hart) (loading : Option Loading) → AlikeAfter x (λ r. turn_of_started r h hart loading)
unfolding turn_of_started
started_alike x h hart None = attempt_alike x h hart
started_alike x h hart (Some load) = choose_alike x.front (load.hart == h) _ _ _ _ (load_step_alike x h hart load load.left) (attempt_alike x h hart)

rests_alike : (x : Twins) → AlikeAfter x (λ r. r)
rests_alike x = record { approved = x.same; printed = x.before; rest = refl }

hart_turn_alike : (x : Twins) (h : ℕ) (hart : Option Hart) → AlikeAfter x (λ r. turn_of r h hart)
unfolding turn_of
hart_turn_alike x h None = rests_alike x
hart_turn_alike x h (Some hart) = choose_alike x.front hart.started _ _ _ _ (started_alike x h hart x.r.loading) (rests_alike x)

turn_alike : (x : Twins) (h : ℕ) → AlikeAfter x (λ r. turn r h)
unfolding turn
turn_alike x h = hart_turn_alike x h (slice_get x.r.harts h)

-- ---- the other events

move_alike : (x : Twins) (move : Move) → AlikeAfter x (λ r. after_move r move)
unfolding after_move with_bytes
move_alike x Idle = rests_alike x
move_alike x (FromRam gpa) = rests_alike x
move_alike x (IntoRam gpa bytes) = record { approved = x.same; printed = x.before; rest = refl }
move_alike x (DeniedAt gpa) = record { approved = x.same; printed = x.before; rest = refl }
move_alike x OutsideRam = rests_alike x

dma_step_alike : (x : Twins) (dma_step : DmaStep) → AlikeAfter x (λ r. after_dma_step r dma_step)
dma_step_alike x dma_step =
    move_alike
    (record { front = x.front; r = with_disk x.r dma_step.disk; approved = x.approved; printed = x.printed; same = x.same; before = x.before })
    dma_step.move

beat_alike : (x : Twins) → AlikeAfter x (λ r. beat r)
unfolding beat
beat_alike x =
    subst
    (λ (protected : ℕ → Bool). Alike x.front (beat x.r) (after_dma_step (second x) (disk_beat x.r.devices.disk x.r.ram (λ page. not (protected page)))))
    (sym (protected_same x)) (dma_step_alike x (disk_beat x.r.devices.disk x.r.ram (λ page. not (is_protected x.r page))))

poke_alike : (x : Twins) (gpa value : ℕ) → AlikeAfter x (λ r. poke r gpa value)
unfolding poke
poke_alike x gpa value =
    subst
    (λ (protected : ℕ → Bool). Alike x.front (poke x.r gpa value) (after_move (second x) (poke_move x.r.ram (λ page. not (protected page)) gpa value)))
    (sym (protected_same x)) (move_alike x (poke_move x.r.ram (λ page. not (is_protected x.r page)) gpa value))

keyed_alike : (x : Twins) (byte : ℕ) (room : Bool)
    → AlikeAfter x (λ r. record r {
      devices = record r.devices { console = after_key r.devices.console byte };
      journal = if room then r.journal else with_count count_dropped r.journal;
    })
keyed_alike x byte true = record { approved = x.same; printed = x.before; rest = refl }
keyed_alike x byte false = record { approved = x.same; printed = x.before; rest = refl }

key_alike : (x : Twins) (byte : ℕ) → AlikeAfter x (λ r. key r byte)
unfolding key
key_alike x byte = keyed_alike x byte (has_room x.r.devices.console)

tick_alike : (x : Twins) (by : ℕ) → AlikeAfter x (λ r. tick r by)
unfolding tick
tick_alike x by = record { approved = x.same; printed = x.before; rest = refl }

-- ---- each event

happen_alike : (x : Twins) (e : Event) → AlikeAfter x (λ r. happen r e)
unfolding happen
happen_alike x (Turn h) =
    turn_alike (record { front = x.front; r = count x.r count_turn; approved = x.approved; printed = x.printed; same = x.same; before = x.before }) h
happen_alike x Beat =
    beat_alike (record { front = x.front; r = count x.r count_beat; approved = x.approved; printed = x.printed; same = x.same; before = x.before })
happen_alike x (Key byte) =
    key_alike (record { front = x.front; r = count x.r count_key; approved = x.approved; printed = x.printed; same = x.same; before = x.before }) byte
happen_alike x (Tick by) =
    tick_alike (record { front = x.front; r = count x.r count_tick; approved = x.approved; printed = x.printed; same = x.same; before = x.before }) by
happen_alike x (Poke gpa value) =
    poke_alike (record { front = x.front; r = count x.r count_beat; approved = x.approved; printed = x.printed; same = x.same; before = x.before }) gpa value

under_alike : (verdict : Verdict) (x : Twins) (e : Event) → AlikeAfter x (λ r. happen_under verdict r e)
unfolding happen_under
under_alike Running x e = happen_alike x e
under_alike Shutdown x e = rests_alike x
under_alike (Stopped rule h at) x e = rests_alike x

step_alike : (x : Twins) (e : Event) → AlikeAfter x (λ r. step r e)
unfolding step
step_alike x e = under_alike x.r.journal.verdict x e

pub alike_law : AlikeLaw
alike_law front r next e alike =
    let x : Twins = record {
      front = front;
      r = r;
      approved = next.approved;
      printed = next.journal.printed;
      same = alike.approved;
      before = alike.printed;
    } in
    subst (λ (other : State). Alike front (step r e) (step other e)) (sym alike.rest) (step_alike x e)
