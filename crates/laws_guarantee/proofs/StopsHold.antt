-- The machine stops at a trap from user mode that leads elsewhere than to a permitted entry, and at a word that writes into a
-- protected page, and nowhere else.
use Rattle.std.proofs.Common.{◌≡◌, ℕ, zero, suc, inl, inr, refl, sym, ◌∙◌, ap, subst, Bool, true, false, not, slice_get}
use Rattle.std.specs.Prelude.{Option, Some, None, option_map, if◌then◌else◌, ◌==◌}
use Rattle.std.proofs.lemmas.Bool.{cases_Bool}
use Rattle.std.proofs.lemmas.Option.{none-some}
use Rattle.spec_processor.specs.Causes.{cause_number}
use Rattle.sv_types.specs.Console.{has_room}
use Rattle.spec_processor.specs.Effects.{effect_of}
use Rattle.spec_processor.specs.Instructions.{instruction_of}
use Rattle.spec_processor.specs.Requests.{WritesBytes}
use Rattle.spec_processor.specs.Traps.{trap_target, interrupt_number, deliverable}
use Rattle.spec_processor.specs.declared.effect.Effect.{Effect}
use Rattle.sv_types.specs.declared.event.Event.{Event}
use Rattle.sv_types.specs.declared.event.Event.TheVariants.{Turn, Beat, Key, Tick, Poke}
use Rattle.sv_types.specs.declared.event.Rule.{Rule}
use Rattle.sv_types.specs.declared.event.Rule.TheVariants.{Entry, Write}
use Rattle.sv_types.specs.declared.event.Verdict.{Verdict}
use Rattle.sv_types.specs.declared.event.Verdict.TheVariants.{Running, Shutdown, Stopped}
use Rattle.sv_types.specs.declared.saved.ModulePlacement.{ModulePlacement}
use Rattle.spec_processor.specs.declared.instruction.Instr.{Instr}
use Rattle.spec_processor.specs.declared.interrupt.Interrupt.{Interrupt}
use Rattle.spec_processor.specs.declared.mode.Mode.{Mode}
use Rattle.spec_processor.specs.declared.mode.Mode.TheVariants.{Kernel, User}
use Rattle.spec_reference.specs.Answers.{state_after_answer}
use Rattle.spec_reference.specs.Counting.{count, with_count, count_dropped, count_turn, count_beat, count_key, stopped_by}
use Rattle.spec_reference.specs.Devices.{may_move_to, beat, poke, key, tick, lines_at, with_disk, with_bytes, after_move}
use Rattle.spec_reference.specs.Attacker.{poke_move}
use Rattle.spec_reference.specs.Disk.{DmaStep, disk_beat}
use Rattle.spec_reference.specs.Loads.{decide, is_good_load, load_step, load_step_of}
use Rattle.spec_reference.specs.ModuleCalls.{load_decision}
use Rattle.spec_reference.specs.Move.{Move, Idle, FromRam, IntoRam, DeniedAt, OutsideRam}
use Rattle.spec_reference.specs.Requests.{Guarded, target_of, carry_out_store, carry_out_store_conditional, carry_out_amo}
use Rattle.spec_reference.specs.Run.{step, happen}
use Rattle.spec_reference.specs.Soundness.{IsSound}
use Rattle.spec_reference.specs.States.{State, Hart, Loading, has_number, is_protected}
use Rattle.spec_reference.specs.Trapping.{trap_from, trap_entered}
use Rattle.spec_reference.specs.Turn.{going_hart, after_going, Fetched, NoWord, Word, fetch_of, turn_of_started, carry_out_word, carry_out_instruction, carry_out_effect}
use Rattle.laws_simulation.specs.Agree.{IsNotLoading}
use Rattle.laws_simulation.proofs.EntriesHold.{runs_on, running}
use Rattle.laws_simulation.proofs.StepsSound.{counted_sound}
use Rattle.laws_guarantee.specs.UserTraps.{UserTrap, user_trap, pending_trap, fetch_trap}
use Rattle.laws_guarantee.specs.Guarantee.{Fetches, HasTurn, UserTurn, Interrupted, Faults, Carries, WritesGuarded, CarriesOut, Stops, AtEntry, AtWrite, StopsRight, StopsLaw}
use Rattle.laws_guarantee.proofs.Does.{IsMoving, IsNoStop, Ends, GoesOn, StopsAtEntry, StopsAtWrite}
use Rattle.laws_guarantee.proofs.Turns.{instruction_does, moving_left, beside_verdict}
use Rattle.laws_guarantee.proofs.UserTrapsHold.{IsNoEntryStop, word_quiet}
use Rattle.laws_guarantee.proofs.ReachedHolds.{two_modes}
use Rattle.laws_guarantee.proofs.TurnCases.{Attempts, ByInterrupt, ByFault, ByStray, ByPlace, ByWord, act_is, turn_acts, turn_carries, user_turn, user_traps, user_trap_stops, write_stops}
use Rattle.laws_guarantee.proofs.LawsHold.{moves, turn_started}

-- ---- verdicts

abbrev hart_of : Verdict → ℕ
hart_of Running = 0
hart_of Shutdown = 0
hart_of (Stopped rule h at) = h

no_stop_there : (v : Verdict) (rule : Rule) (h at : ℕ) → IsNoStop v → v ≡ Stopped rule h at → ⊥
no_stop_there v rule h at on e = subst IsNoStop e on

still_runs : (v : Verdict) (rule : Rule) (h at : ℕ) → v ≡ Running → v ≡ Stopped rule h at → ⊥
still_runs v rule h at on e = subst IsNoStop (sym on ∙ e) tt

named : (next q : State) (rule other : Rule) (k h at : ℕ) → next ≡ stopped_by q k rule → next.journal.verdict ≡ Stopped other h at → k ≡ h
named next q rule other k h at same e = ap hart_of (sym (ap (λ (x : State). x.journal.verdict) same) ∙ e)

-- ---- words that write into a protected page

guarded_there : (q : State) (hart : Hart) (gpa at address bytes width : ℕ) → at ≡ address → bytes ≡ width → target_of q hart address width ≡ Guarded gpa
    → target_of q hart at bytes ≡ Guarded gpa
guarded_there q hart gpa at address bytes width same size leads =
    subst (λ (a : ℕ). target_of q hart a bytes ≡ Guarded gpa) (sym same) (subst (λ (n : ℕ). target_of q hart address n ≡ Guarded gpa) (sym size) leads)

-- a write into a protected page, by the effects that write
effect_stops : (q : State) (h : ℕ) (hart : Hart) (w gpa : ℕ) (e : Effect) (address width : ℕ) → WritesBytes e address width → target_of q hart address width ≡ Guarded gpa
    → carry_out_effect q h hart w e ≡ stopped_by q h (Write hart.pc gpa)
unfolding carry_out_effect carry_out_store carry_out_store_conditional carry_out_amo
effect_stops q h hart w gpa (Effect.Store at bytes value) address width is leads =
    ap (carry_out_store q h hart at bytes value) (guarded_there q hart gpa at address bytes width is.0 is.1 leads)
effect_stops q h hart w gpa (Effect.StoreConditional rd at bytes value) address width is leads =
    ap (carry_out_store_conditional q h hart rd at bytes value) (guarded_there q hart gpa at address bytes width is.0 is.1 leads)
effect_stops q h hart w gpa (Effect.Amo rd at bytes op value) address width is leads =
    ap (carry_out_amo q h hart rd at bytes op value) (guarded_there q hart gpa at address bytes width is.0 is.1 leads)
effect_stops q h hart w gpa _ address width is leads = absurd is

instruction_stops : (q : State) (h : ℕ) (hart : Hart) (w gpa : ℕ) (x : Option Instr) (e : Effect) (address width : ℕ)
    → option_map (λ (i : Instr). effect_of i hart.registers hart.pc) x ≡ Some e → WritesBytes e address width → target_of q hart address width ≡ Guarded gpa
    → carry_out_instruction q h hart w x ≡ stopped_by q h (Write hart.pc gpa)
unfolding carry_out_instruction
instruction_stops q h hart w gpa None e address width is writes leads = absurd (none-some e is)
instruction_stops q h hart w gpa (Some i) e address width is writes leads =
    let same : effect_of i hart.registers hart.pc ≡ e = cc in
    effect_stops q h hart w gpa (effect_of i hart.registers hart.pc) address width (subst (λ (x : Effect). WritesBytes x address width) (sym same) writes) leads

word_stops : (q : State) (h : ℕ) (hart : Hart) (w gpa : ℕ) → WritesGuarded q hart w gpa → carry_out_word q h hart w ≡ stopped_by q h (Write hart.pc gpa)
unfolding carry_out_word
word_stops q h hart w gpa k = instruction_stops q h hart w gpa (instruction_of w) k.effect k.address k.width k.is k.writes k.leads

-- ---- what stops

-- a trap that stops comes from user mode, and leads elsewhere
entry_by : (q : State) (h : ℕ) (hart : Hart) (interrupt : Bool) (cause tval : ℕ) (rule : Rule) (k at : ℕ) (b : Bool) → q.journal.verdict ≡ Running
    → (if b then trap_entered q h hart User interrupt cause tval else stopped_by q h (Entry (trap_target hart.supervisor.stvec interrupt cause))).journal.verdict ≡ Stopped rule k at
    → b ≡ false
entry_by q h hart interrupt cause tval rule k at true on e = absurd (still_runs q.journal.verdict rule k at on e)
entry_by q h hart interrupt cause tval rule k at false on e = refl

user_stop : (q : State) (h : ℕ) (hart : Hart) (interrupt : Bool) (cause tval : ℕ) (rule : Rule) (k at : ℕ) → q.journal.verdict ≡ Running
    → (trap_from q h hart User interrupt cause tval).journal.verdict ≡ Stopped rule k at
    → has_number q.rules.entries (trap_target hart.supervisor.stvec interrupt cause) ≡ false
unfolding trap_from
user_stop q h hart interrupt cause tval rule k at on e =
    entry_by q h hart interrupt cause tval rule k at (has_number q.rules.entries (trap_target hart.supervisor.stvec interrupt cause)) on e

no_kernel_stop : (q : State) (h : ℕ) (hart : Hart) (from : Mode) (interrupt : Bool) (cause tval : ℕ) (rule : Rule) (k at : ℕ) → from ≡ Kernel → q.journal.verdict ≡ Running
    → (trap_from q h hart from interrupt cause tval).journal.verdict ≡ Stopped rule k at → ⊥
unfolding trap_from
no_kernel_stop q h hart Kernel interrupt cause tval rule k at kernel on e = still_runs q.journal.verdict rule k at on e
no_kernel_stop q h hart User interrupt cause tval rule k at kernel on e = cc

going_verdict : (left : Bool) (q : State) (h : ℕ) (hart : Hart) → (after_going left q h hart).journal.verdict ≡ q.journal.verdict
going_verdict true q h hart = refl
going_verdict false q h hart = refl

going_moves : (left : Bool) (q : State) (h : ℕ) (hart : Hart) → IsMoving q h hart → IsMoving (after_going left q h hart) h (going_hart left hart)
going_moves true q h hart at = moving_left q h hart at
going_moves false q h hart at = at

went_mode : (left : Bool) (hart : Hart) → (going_hart left hart).mode ≡ hart.mode
went_mode true hart = refl
went_mode false hart = refl

-- what the hart that left its entry writes, it writes before too
went_writes : (left : Bool) (q : State) (h : ℕ) (hart : Hart) (w gpa : ℕ) → WritesGuarded (after_going left q h hart) (going_hart left hart) w gpa → WritesGuarded q hart w gpa
unfolding is_protected
went_writes false q h hart w gpa k = k
went_writes true q h hart w gpa k = record { effect = k.effect; is = k.is; address = k.address; width = k.width; writes = k.writes; leads = k.leads }

-- a word that stops the machine
word_ends : (q : State) (h : ℕ) (hart : Hart) (w : ℕ) → IsMoving q h hart → Ends (WritesGuarded q hart w) q h hart (carry_out_word q h hart w)
unfolding carry_out_word
word_ends q h hart w at = (instruction_does q h hart w (instruction_of w) at refl).ends

counted_moves : (r : State) (h : ℕ) (hart : Hart) → IsSound r → HasTurn r h hart → IsMoving (count r count_turn) h hart
counted_moves r h hart s k = record { sound = (counted_sound r count_turn s).sound; found = k.found; started = k.started; running = k.running }

abbrev StopsThere : State → ℕ → Hart → Type 0
StopsThere r h hart = Stops r h hart (step r (Turn h))

by_write : (r : State) (h : ℕ) (hart : Hart) (w gpa : ℕ) → (k : CarriesOut r h hart w) → WritesGuarded (count r count_turn) hart w gpa → StopsThere r h hart
by_write r h hart w gpa k writes = AtWrite w gpa k writes (write_stops word_stops r h hart w gpa k writes).same

by_word : (r : State) (h : ℕ) (hart : Hart) (w : ℕ) (rule : Rule) (n at : ℕ) (k : CarriesOut r h hart w)
    → (carry_out_word (after_going k.left (count r count_turn) h hart) h (going_hart k.left hart) w).journal.verdict ≡ Stopped rule n at
    → ((hart.mode ≡ User) → IsNoEntryStop (carry_out_word (after_going k.left (count r count_turn) h hart) h (going_hart k.left hart) w).journal.verdict)
    → Ends (WritesGuarded (after_going k.left (count r count_turn) h hart) (going_hart k.left hart) w) (after_going k.left (count r count_turn) h hart) h (going_hart k.left hart)
    (carry_out_word (after_going k.left (count r count_turn) h hart) h (going_hart k.left hart) w) → StopsThere r h hart
by_word r h hart w rule n at k verdict quiet (GoesOn on) = absurd (no_stop_there _ rule n at on verdict)
by_word r h hart w rule n at k verdict quiet (StopsAtEntry interrupt cause user other same) =
    absurd (subst IsNoEntryStop (ap (λ (x : State). x.journal.verdict) same) (quiet (sym (went_mode k.left hart) ∙ user)))
by_word r h hart w rule n at k verdict quiet (StopsAtWrite left gpa writes same) =
    by_write r h hart w gpa k (went_writes k.left (count r count_turn) h hart w gpa writes)

word_stop : (r : State) (h : ℕ) (hart : Hart) (w : ℕ) (rule : Rule) (n at : ℕ) → IsSound r → (k : CarriesOut r h hart w)
    → (step r (Turn h)).journal.verdict ≡ Stopped rule n at
    → ((hart.mode ≡ User) → IsNoEntryStop (carry_out_word (after_going k.left (count r count_turn) h hart) h (going_hart k.left hart) w).journal.verdict)
    → StopsThere r h hart
word_stop r h hart w rule n at s k verdict quiet =
    by_word r h hart w rule n at k (sym (ap (λ (x : State). x.journal.verdict) (turn_carries r h hart w k)) ∙ verdict) quiet
    (word_ends (after_going k.left (count r count_turn) h hart) h (going_hart k.left hart) w
    (going_moves k.left (count r count_turn) h hart (counted_moves r h hart s k.turn)))

-- ---- in kernel mode

kernel_no_user : (hart : Hart) → hart.mode ≡ Kernel → hart.mode ≡ User → ⊥
kernel_no_user hart kernel user = two_modes hart.mode kernel user

kernel_stop : (r : State) (h : ℕ) (hart : Hart) (rule : Rule) (n at : ℕ) → IsSound r → HasTurn r h hart → hart.mode ≡ Kernel
    → (step r (Turn h)).journal.verdict ≡ Stopped rule n at → Attempts (count r count_turn) h hart (step r (Turn h)) → StopsThere r h hart
kernel_stop r h hart rule n at s k kernel verdict (ByInterrupt interrupt pending same) =
    absurd (no_kernel_stop (count r count_turn) h hart hart.mode true (interrupt_number interrupt) 0 rule n at kernel k.running
    (sym (ap (λ (x : State). x.journal.verdict) same) ∙ verdict))
kernel_stop r h hart rule n at s k kernel verdict (ByFault left cause fetches fetched same) =
    absurd (no_kernel_stop (after_going left (count r count_turn) h hart) h (going_hart left hart) hart.mode false (cause_number cause) hart.pc rule n at kernel
    (going_verdict left (count r count_turn) h hart ∙ k.running) (sym (ap (λ (x : State). x.journal.verdict) same) ∙ verdict))
kernel_stop r h hart rule n at s k kernel verdict (ByStray left gpa fetches fetched same) =
    absurd (still_runs (step r (Turn h)).journal.verdict rule n at (ap (λ (x : State). x.journal.verdict) same ∙ k.running) verdict)
kernel_stop r h hart rule n at s k kernel verdict (ByPlace entry quiet bound away there same) =
    absurd (still_runs (step r (Turn h)).journal.verdict rule n at (ap (λ (x : State). x.journal.verdict) same ∙ k.running) verdict)
kernel_stop r h hart rule n at s k kernel verdict (ByWord left w fetches fetched same) =
    word_stop r h hart w rule n at s (record { turn = k; left = left; fetches = fetches; fetched = fetched }) verdict
    (λ user. absurd (kernel_no_user hart kernel user))

-- ---- in user mode

pending_user : (q : State) (h : ℕ) (hart : Hart) (x : Option Interrupt) → hart.mode ≡ User → deliverable hart.mode hart.supervisor (lines_at q.devices h) ≡ x
    → user_trap q h hart ≡ pending_trap q hart x
pending_user q h hart x user e = ap (pending_trap q hart) (sym (ap (λ (m : Mode). deliverable m hart.supervisor (lines_at q.devices h)) user) ∙ e)

fetched_user : (q : State) (h : ℕ) (hart : Hart) (x : Fetched) → hart.mode ≡ User → Fetches q h hart false → fetch_of q hart ≡ x
    → user_trap q h hart ≡ fetch_trap q hart x
fetched_user q h hart x user k e = pending_user q h hart None user k.quiet ∙ ap (fetch_trap q hart) e

quiet_stop : (r : State) (h : ℕ) (hart : Hart) (rule : Rule) (n at : ℕ) → IsSound r → HasTurn r h hart → hart.mode ≡ User → user_trap (count r count_turn) h hart ≡ None
    → (step r (Turn h)).journal.verdict ≡ Stopped rule n at → UserTurn (count r count_turn) h hart (step r (Turn h)) → StopsThere r h hart
quiet_stop r h hart rule n at s k user none verdict (Interrupted interrupt pending same) =
    absurd (none-some _ (sym none ∙ pending_user (count r count_turn) h hart (Some interrupt) user pending))
quiet_stop r h hart rule n at s k user none verdict (Faults cause fetches fetched same) =
    absurd (none-some _ (sym none ∙ fetched_user (count r count_turn) h hart (NoWord cause) user fetches fetched))
quiet_stop r h hart rule n at s k user none verdict (Carries w fetches fetched free same) =
    word_stop r h hart w rule n at s (record { turn = k; left = false; fetches = fetches; fetched = fetched }) verdict
    (λ mode. word_quiet (count r count_turn) h hart w k.running (sym (fetched_user (count r count_turn) h hart (Word w) user fetches fetched) ∙ none))

user_stop_by : (r : State) (h : ℕ) (hart : Hart) (rule : Rule) (n at : ℕ) (x : Option UserTrap) → IsSound r → HasTurn r h hart → hart.mode ≡ User
    → user_trap (count r count_turn) h hart ≡ x → (step r (Turn h)).journal.verdict ≡ Stopped rule n at → StopsThere r h hart
user_stop_by r h hart rule n at None s k user none verdict = quiet_stop r h hart rule n at s k user none verdict (user_turn r h hart s k user)
user_stop_by r h hart rule n at (Some t) s k user e verdict =
    let other = user_stop (count r count_turn) h hart t.interrupt t.cause t.tval rule n at k.running
    (sym (ap (λ (x : State). x.journal.verdict) (user_traps r h hart t s k user e)) ∙ verdict) in
    AtEntry t k user e other (user_trap_stops r h hart t s k user e other).same

-- ---- in both

by_mode : (r : State) (h : ℕ) (hart : Hart) (rule : Rule) (n at : ℕ) (mode : Mode) → IsSound r → HasTurn r h hart → hart.mode ≡ mode
    → (step r (Turn h)).journal.verdict ≡ Stopped rule n at → StopsThere r h hart
by_mode r h hart rule n at Kernel s k mode verdict =
    kernel_stop r h hart rule n at s k mode verdict
    (subst (Attempts (count r count_turn) h hart) (sym (turn_acts r h hart k)) (act_is (count r count_turn) h hart))
by_mode r h hart rule n at User s k mode verdict = user_stop_by r h hart rule n at (user_trap (count r count_turn) h hart) s k mode refl verdict

-- a load of its own stops nothing
decide_runs : (q : State) (h : ℕ) (hart : Hart) (m : ModulePlacement) → q.journal.verdict ≡ Running → IsNoStop (decide q h hart m).journal.verdict
unfolding decide state_after_answer
decide_runs q h hart m on = beside_verdict q.journal h (load_decision (is_good_load q.rules q.ram m (slice_get q.rules.modules m.id)) m).side_effect on

load_runs : (q : State) (h : ℕ) (hart : Hart) (load : Loading) (left : ℕ) → q.journal.verdict ≡ Running → IsNoStop (load_step_of q h hart load left).journal.verdict
unfolding load_step_of
load_runs q h hart load zero on = decide_runs q h hart load.about on
load_runs q h hart load (suc left) on = subst IsNoStop (sym on) tt

its_load : (q : State) (h : ℕ) (hart : Hart) (load : Loading) → (load.hart == h) ≡ true → turn_of_started q h hart (Some load) ≡ load_step q h hart load
unfolding turn_of_started
its_load q h hart load its = rw its refl

own_stop : (r : State) (h : ℕ) (hart : Hart) (rule : Rule) (n at : ℕ) (x : Option Loading) → IsSound r → IsMoving (count r count_turn) h hart → r.loading ≡ x
    → (step r (Turn h)).journal.verdict ≡ Stopped rule n at → StopsThere r h hart
own_stop r h hart rule n at None s m under verdict =
    by_mode r h hart rule n at hart.mode s
    (record { running = m.running; found = m.found; started = m.started; free = subst (IsNotLoading h) (sym under) tt }) refl verdict
own_stop r h hart rule n at (Some load) s m under verdict = elim (cases_Bool (load.hart == h)) [
  | inl its ↦
      let same : step r (Turn h) ≡ load_step (count r count_turn) h hart load = running r h m.running
      ∙ turn_started (count r count_turn) h hart m.found m.started ∙ ap (turn_of_started (count r count_turn) h hart) under
      ∙ its_load (count r count_turn) h hart load its in
      absurd (no_stop_there _ rule n at (load_runs (count r count_turn) h hart load load.left m.running) (sym (ap (λ (x : State). x.journal.verdict) same) ∙ verdict))
  | inr other ↦ by_mode r h hart rule n at hart.mode s
      (record { running = m.running; found = m.found; started = m.started; free = subst (IsNotLoading h) (sym under) other }) refl verdict
]

stops_here : (r : State) (k : ℕ) (hart : Hart) (rule : Rule) (h at : ℕ) → (step r (Turn k)).journal.verdict ≡ Stopped rule h at → StopsThere r k hart
    → StopsRight r (Turn k) h
stops_here r k hart rule h at verdict (AtEntry t turn user e other same) =
    subst (StopsRight r (Turn k)) (named (step r (Turn k)) (count r count_turn) _ rule k h at same verdict)
    (record { hart = hart; turn = refl; stops = AtEntry t turn user e other same })
stops_here r k hart rule h at verdict (AtWrite w gpa carries writes same) =
    subst (StopsRight r (Turn k)) (named (step r (Turn k)) (after_going carries.left (count r count_turn) k hart) _ rule k h at same verdict)
    (record { hart = hart; turn = refl; stops = AtWrite w gpa carries writes same })

turn_stops : (r : State) (k : ℕ) (rule : Rule) (h at : ℕ) → IsSound r → r.journal.verdict ≡ Running
    → (step r (Turn k)).journal.verdict ≡ Stopped rule h at → StopsRight r (Turn k) h
turn_stops r k rule h at s on verdict = elim (moves (count r count_turn) k (counted_sound r count_turn s).sound on) [
  | inl none ↦ absurd (still_runs (step r (Turn k)).journal.verdict rule h at (ap (λ (x : State). x.journal.verdict) (running r k on ∙ none) ∙ on) verdict)
  | inr m ↦ stops_here r k m.0 rule h at verdict (own_stop r k m.0 rule h at r.loading s m.1 refl verdict)
]

-- ---- other events

move_verdict : (q : State) (x : Move) → (after_move q x).journal.verdict ≡ q.journal.verdict
unfolding after_move with_bytes
move_verdict q Idle = refl
move_verdict q (FromRam gpa) = refl
move_verdict q (IntoRam gpa bytes) = refl
move_verdict q (DeniedAt gpa) = refl
move_verdict q OutsideRam = refl

beat_verdict : (q : State) → (beat q).journal.verdict ≡ q.journal.verdict
unfolding beat
beat_verdict q = let b : DmaStep = disk_beat q.devices.disk q.ram (λ page. not (is_protected q page)) in move_verdict (with_disk q b.disk) b.move

poke_verdict : (q : State) (gpa value : ℕ) → (poke q gpa value).journal.verdict ≡ q.journal.verdict
unfolding poke
poke_verdict q gpa value = move_verdict q (poke_move q.ram (λ page. may_move_to q page) gpa value)

key_verdict : (q : State) (byte : ℕ) → (key q byte).journal.verdict ≡ q.journal.verdict
unfolding key
key_verdict q byte = by_room (has_room q.devices.console)
  where
    by_room : (b : Bool) → (if b then q.journal else with_count count_dropped q.journal).verdict ≡ q.journal.verdict
    by_room true = refl
    by_room false = refl

event_stops : (r : State) (e : Event) (rule : Rule) (h at : ℕ) → IsSound r → r.journal.verdict ≡ Running → step r e ≡ happen r e
    → (happen r e).journal.verdict ≡ Stopped rule h at → StopsRight r e h
unfolding happen tick
event_stops r (Turn k) rule h at s on same verdict = turn_stops r k rule h at s on (ap (λ (x : State). x.journal.verdict) same ∙ verdict)
event_stops r Beat rule h at s on same verdict = absurd (still_runs _ rule h at (beat_verdict (count r count_beat) ∙ on) verdict)
event_stops r (Key byte) rule h at s on same verdict = absurd (still_runs _ rule h at (key_verdict (count r count_key) byte ∙ on) verdict)
event_stops r (Tick n) rule h at s on same verdict = absurd (still_runs _ rule h at on verdict)
event_stops r (Poke gpa value) rule h at s on same verdict = absurd (still_runs _ rule h at (poke_verdict (count r count_beat) gpa value ∙ on) verdict)

only_there : (r : State) (e : Event) (rule : Rule) (h at : ℕ) → IsSound r → r.journal.verdict ≡ Running
    → (step r e).journal.verdict ≡ Stopped rule h at → StopsRight r e h
only_there r e rule h at sound on verdict =
    event_stops r e rule h at sound on (runs_on r e on) (sym (ap (λ (x : State). x.journal.verdict) (runs_on r e on)) ∙ verdict)

pub stops_law : StopsLaw
stops_law = record {
  only = λ r sound e rule h at on verdict. only_there r e rule h at sound on verdict;
  traps = λ r sound h hart t k user e other. user_trap_stops r h hart t sound k user e other;
  writes = write_stops word_stops;
}
