-- An attempt of the hardware's is the reference machine's: interrupts, fetches and instructions.
use Rattle.std.proofs.Common.{◌≡◌, ℕ, zero, suc, List, [], ◌∷◌, slice_set, length, refl, sym, ◌∙◌, ap, subst, Bool, true, false, slice_get}
use Rattle.std.specs.Prelude.{Option, Some, None, if◌then◌else◌}
use Rattle.spec_processor.specs.Bits.{bit}
use Rattle.spec_processor.specs.Effects.{effect_of}
use Rattle.spec_processor.specs.Hardware.{Step, with_region, after_interrupt, interrupt_exit, leave, guest_trap}
use Rattle.spec_processor.specs.HardwareAttempt.{after_instruction, after_word, after_pending, attempt}
use Rattle.spec_processor.specs.HypervisorRegisters.{HypervisorRegisters, pending, virtual_number}
use Rattle.spec_processor.specs.Instructions.{instruction_of}
use Rattle.spec_processor.specs.Regions.{IsWidth}
use Rattle.spec_processor.specs.Traps.{deliverable, interrupt_number}
use Rattle.spec_processor.specs.declared.cause.Cause.{Cause}
use Rattle.spec_processor.specs.declared.instruction.Instr.{Instr}
use Rattle.spec_processor.specs.declared.interrupt.Interrupt.{Interrupt}
use Rattle.spec_processor.specs.declared.interrupt.Interrupt.TheVariants.{External, Software, Timer}
use Rattle.spec_processor.specs.declared.mode.Mode.{Mode}
use Rattle.spec_processor.specs.declared.mode.Mode.TheVariants.{Kernel, User}
use Rattle.laws_processor.proofs.GuestViews.{guest_pending}
use Rattle.spec_reference.specs.States.{State, Hart, Loading}
use Rattle.spec_reference.specs.Devices.{lines_at}
use Rattle.spec_reference.specs.Trapping.{take_interrupt}
use Rattle.spec_reference.specs.Turn.{fetch_and_act, fetch_in_entry, bound_entry, outside_entry, leave_entry, turn, turn_of}
use Rattle.spec_reference.specs.Turn.{turn_of_started, carry_out_instruction, carry_out_word, act_on_pending, act}
use Rattle.spec_hardware.specs.Served.{plain_answer, exit_answered}
use Rattle.laws_simulation.proofs.Plain.{serve_plain}
use Rattle.spec_hardware.specs.StandsFor.{Unseen, hregs_in, hw_core}
use Rattle.spec_processor.specs.GuestView.{with_guest, hideleg_in}
use Rattle.laws_simulation.specs.Agree.{IsAt, Agrees, region_at, core_at, IsNotLoading}
use Rattle.laws_simulation.proofs.Excepts.{exception_agrees, kernel_trap_agrees, leaves_agrees, other_exit}
use Rattle.laws_simulation.proofs.StoresAgree.{FreeKeeps}
use Rattle.laws_simulation.proofs.FetchAgrees.{fetch_agrees, WordsAgree, TurnsAgain}
use Rattle.laws_simulation.proofs.EffectsAgree.{IsTold, effect_agrees}

-- ---- words

-- what is known of each word
abbrev pub AllTold : Hart → Type 0
AllTold hart = (w : ℕ) (i : Instr) → instruction_of w ≡ Some i → IsTold w hart (effect_of i hart.registers hart.pc)

instruction_agrees : (o : Unseen) (r : State) (h : ℕ) (hart : Hart) (c : HypervisorRegisters) (w : ℕ) (x : Option Instr)
    → IsAt o r h hart c → ((width value : ℕ) → IsWidth width → FreeKeeps r width value) → AllTold hart → instruction_of w ≡ x
    → Agrees o r h hart c (after_instruction (region_at o r) (core_at o c hart) (lines_at r.devices h) w x) (carry_out_instruction r h hart w x)
unfolding after_instruction carry_out_instruction
instruction_agrees o r h hart c w None at kept told found = exception_agrees o r h hart c Cause.Illegal w at refl
instruction_agrees o r h hart c w (Some i) at kept told found =
    effect_agrees o r h hart c w (effect_of i hart.registers hart.pc) at kept (told w i found)

words_agree : (o : Unseen) (r : State) (h : ℕ) (hart : Hart) (c : HypervisorRegisters)
    → IsAt o r h hart c → ((width value : ℕ) → IsWidth width → FreeKeeps r width value) → AllTold hart → WordsAgree o r h hart c
unfolding after_word carry_out_word
words_agree o r h hart c at kept told w = instruction_agrees o r h hart c w (instruction_of w) at kept told refl

-- ---- interrupts

interrupt_served : (r : State) (h : ℕ) (hart : Hart) (interrupt : Interrupt) (pc : ℕ)
    → take_interrupt r h hart interrupt ≡ serve_plain r h hart (interrupt_exit interrupt pc)
unfolding serve_plain plain_answer exit_answered
interrupt_served r h hart External pc = refl
interrupt_served r h hart Software pc = refl
interrupt_served r h hart Timer pc = refl

delegated_in : (interrupt : Interrupt) → bit (hideleg_in Kernel) (virtual_number interrupt) ≡ true
delegated_in External = refl
delegated_in Software = refl
delegated_in Timer = refl

undelegated_in : (interrupt : Interrupt) → bit (hideleg_in User) (virtual_number interrupt) ≡ false
undelegated_in External = refl
undelegated_in Software = refl
undelegated_in Timer = refl

kernel_interrupts : (t : ℕ) (c : HypervisorRegisters) (hart : Hart) (interrupt : Interrupt) → hart.mode ≡ Kernel
    → after_interrupt (hw_core t c hart) interrupt ≡ guest_trap (hw_core t c hart) true (interrupt_number interrupt) 0
unfolding after_interrupt
kernel_interrupts t c hart interrupt kernel = rw (kernel, delegated_in interrupt) refl

user_interrupts : (t : ℕ) (c : HypervisorRegisters) (hart : Hart) (interrupt : Interrupt) → hart.mode ≡ User
    → after_interrupt (hw_core t c hart) interrupt ≡ leave (hw_core t c hart) (interrupt_exit interrupt hart.pc)
unfolding after_interrupt
user_interrupts t c hart interrupt user = rw (user, undelegated_in interrupt) refl

interrupt_agrees : (o : Unseen) (r : State) (h : ℕ) (hart : Hart) (c : HypervisorRegisters) (interrupt : Interrupt) (mode : Mode) → IsAt o r h hart c → hart.mode ≡ mode
    → Agrees o r h hart c (with_region (region_at o r) (after_interrupt (core_at o c hart) interrupt)) (take_interrupt r h hart interrupt)
interrupt_agrees o r h hart c interrupt Kernel at kernel =
    subst (λ (s : Step). Agrees o r h hart c (with_region (region_at o r) s) (take_interrupt r h hart interrupt))
    (sym (kernel_interrupts (length o.tables) c hart interrupt kernel))
    (kernel_trap_agrees o r h hart c true (interrupt_number interrupt) 0 at kernel)
interrupt_agrees o r h hart c interrupt User at user =
    leaves_agrees o r h hart c (after_interrupt (core_at o c hart) interrupt) (interrupt_exit interrupt hart.pc) (take_interrupt r h hart interrupt)
    (user_interrupts (length o.tables) c hart interrupt user)
    (interrupt_served r h hart interrupt hart.pc ∙ sym (other_exit r h hart (interrupt_exit interrupt hart.pc) refl))

-- ---- attempts

pending_agrees : (o : Unseen) (r : State) (h : ℕ) (hart : Hart) (c : HypervisorRegisters) (x : Option Interrupt)
    → IsAt o r h hart c → ((width value : ℕ) → IsWidth width → FreeKeeps r width value) → AllTold hart → (x ≡ None → TurnsAgain r h hart)
    → Agrees o r h hart c (after_pending (region_at o r) (core_at o c hart) (lines_at r.devices h) x) (act_on_pending r h hart x)
unfolding after_pending act_on_pending
pending_agrees o r h hart c (Some interrupt) at kept told again = interrupt_agrees o r h hart c interrupt hart.mode at refl
pending_agrees o r h hart c None at kept told again =
    let sound = at.sound.harts h hart at.found in
    fetch_agrees o r h hart c hart.mode hart.entry at (words_agree o r h hart c at kept told) sound.aligned (again refl) refl refl sound.entry

same_pending : (r : State) (h : ℕ) (hart : Hart) (c : HypervisorRegisters) (mode : Mode) (entry : Option ℕ)
    → pending (hregs_in mode entry) (with_guest c hart.supervisor) (lines_at r.devices h) ≡ deliverable mode hart.supervisor (lines_at r.devices h)
same_pending r h hart c Kernel entry = guest_pending (hregs_in Kernel entry) c hart.supervisor (lines_at r.devices h) refl
same_pending r h hart c User entry = guest_pending (hregs_in User entry) c hart.supervisor (lines_at r.devices h) refl

pub attempt_agrees : (o : Unseen) (r : State) (h : ℕ) (hart : Hart) (c : HypervisorRegisters)
    → IsAt o r h hart c → ((width value : ℕ) → IsWidth width → FreeKeeps r width value) → AllTold hart
    → (deliverable hart.mode hart.supervisor (lines_at r.devices h) ≡ None → TurnsAgain r h hart)
    → Agrees o r h hart c (attempt (region_at o r) (core_at o c hart) (lines_at r.devices h)) (act r h hart)
unfolding attempt act
attempt_agrees o r h hart c at kept told again =
    rw (same_pending r h hart c hart.mode hart.entry)
    (pending_agrees o r h hart c (deliverable hart.mode hart.supervisor (lines_at r.devices h)) at kept told again)

-- ---- turns

started_turn : (r : State) (h : ℕ) (hart : Hart) (x : Option Loading) → IsNotLoading h x → turn_of_started r h hart x ≡ act r h hart
unfolding turn_of_started
started_turn r h hart None other = refl
started_turn r h hart (Some load) other = rw other refl

pub turn_is : (r : State) (h : ℕ) (hart : Hart) → slice_get r.harts h ≡ Some hart → hart.started ≡ true → IsNotLoading h r.loading → turn r h ≡ act r h hart
unfolding turn turn_of
turn_is r h hart found started other =
    ap (turn_of r h) found ∙ ap (λ (b : Bool). if b then turn_of_started r h hart r.loading else r) started ∙ started_turn r h hart r.loading other

-- nothing happens where there is no hart, or it is stopped
pub turn_none : (r : State) (h : ℕ) → slice_get r.harts h ≡ None → turn r h ≡ r
unfolding turn turn_of
turn_none r h found = ap (turn_of r h) found

pub turn_stopped : (r : State) (h : ℕ) (hart : Hart) → slice_get r.harts h ≡ Some hart → hart.started ≡ false → turn r h ≡ r
unfolding turn turn_of
turn_stopped r h hart found off = ap (turn_of r h) found ∙ ap (λ (b : Bool). if b then turn_of_started r h hart r.loading else r) off

pub get_back : (harts : List Hart) (h : ℕ) (hart next : Hart) → slice_get harts h ≡ Some hart → slice_get (slice_set harts h next) h ≡ Some next
get_back [] h hart next e = cc
get_back (x ∷ harts) zero hart next e = refl
get_back (x ∷ harts) (suc h) hart next e = get_back harts h hart next e

-- without an interrupt a hart outside of an entry fetches
fetches_outside : (r : State) (h : ℕ) (hart : Hart) → hart.entry ≡ None → deliverable hart.mode hart.supervisor (lines_at r.devices h) ≡ None
    → act r h hart ≡ fetch_and_act r h hart
unfolding act act_on_pending fetch_in_entry bound_entry
fetches_outside r h hart none quiet = rw (quiet, none) refl

-- so the rest of a turn in which a hart leaves its entry is the turn of the state that it leaves
turns_again : (r : State) (h : ℕ) (hart : Hart) → slice_get r.harts h ≡ Some hart → hart.started ≡ true → IsNotLoading h r.loading
    → deliverable hart.mode hart.supervisor (lines_at r.devices h) ≡ None → TurnsAgain r h hart
turns_again r h hart found started other quiet =
    sym (turn_is (leave_entry r h hart) h (outside_entry hart) (get_back r.harts h hart (outside_entry hart) found) started other
    ∙ fetches_outside (leave_entry r h hart) h (outside_entry hart) refl quiet)

-- an attempt agrees with the reference machine's turn
pub turn_agrees : (o : Unseen) (r : State) (h : ℕ) (hart : Hart) (c : HypervisorRegisters)
    → IsAt o r h hart c → ((width value : ℕ) → IsWidth width → FreeKeeps r width value) → AllTold hart → IsNotLoading h r.loading
    → Agrees o r h hart c (attempt (region_at o r) (core_at o c hart) (lines_at r.devices h)) (turn r h)
turn_agrees o r h hart c at kept told other =
    subst (Agrees o r h hart c (attempt (region_at o r) (core_at o c hart) (lines_at r.devices h))) (sym (turn_is r h hart at.found at.started other))
    (attempt_agrees o r h hart c at kept told (turns_again r h hart at.found at.started other))
