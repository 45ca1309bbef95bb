-- Exceptions: delegated ones in kernel mode, exits in user mode.
use Rattle.std.proofs.Common.{◌≡◌, ℕ, length, refl, sym, ◌∙◌, ap, subst, Bool, true, false, ◌&&◌}
use Rattle.std.specs.Prelude.{Option, Some, None, not, ◌==◌}
use Rattle.sv_types.specs.Policies.{Rules}
use Rattle.spec_processor.specs.Bits.{bit}
use Rattle.spec_processor.specs.Causes.{cause_number}
use Rattle.spec_processor.specs.Hardware.{Step, with_region, raise, guest_trap, leave, plain_exception, exit_of}
use Rattle.spec_processor.specs.HypervisorRegisters.{HypervisorRegisters, registers_at_trap}
use Rattle.spec_processor.specs.Traps.{supervisor_at_trap}
use Rattle.spec_processor.specs.declared.cause.Cause.{Cause}
use Rattle.spec_processor.specs.declared.outcome.Exception.{Exception}
use Rattle.spec_processor.specs.declared.outcome.Outcome.{Outcome}
use Rattle.spec_processor.specs.declared.exit.Exit.{Exit}
use Rattle.spec_processor.specs.declared.mode.Mode.{Mode}
use Rattle.spec_processor.specs.declared.mode.Mode.TheVariants.{Kernel, User}
use Rattle.spec_reference.specs.States.{State, Hart, Binding, with_hart}
use Rattle.spec_reference.specs.Counting.{count, count_trap}
use Rattle.spec_reference.specs.Trapping.{hart_at_trap, trap_from, exception}
use Rattle.spec_hardware.specs.Served.{seen_of, serve_exit, exit_answer, answer_in, plain_answer, exit_answered, is_fetch_exit}
use Rattle.laws_simulation.proofs.Plain.{serve_plain}
use Rattle.spec_hardware.specs.StandsFor.{Unseen, hw_core, kernel_hedeleg, delegated_exceptions, entry_exceptions}
use Rattle.laws_simulation.specs.Agree.{IsAt, Agrees, QuietTo, region_at, core_at}
use Rattle.laws_simulation.proofs.Stays.{GoesOn, traps}
use Rattle.spec_reference.specs.Turn.{bound_entry}

-- ---- in kernel mode

pub kernel_traps : (t : ℕ) (c : HypervisorRegisters) (rules : Rules) (hart : Hart) (interrupt : Bool) (cause tval : ℕ) → hart.mode ≡ Kernel
    → guest_trap (hw_core t c hart) interrupt cause tval
    ≡ record { core = hw_core t c (hart_at_trap rules hart Kernel interrupt cause tval); outcome = Outcome.GuestTrap }
unfolding guest_trap hart_at_trap registers_at_trap supervisor_at_trap
kernel_traps t c rules hart interrupt cause tval kernel = rw kernel refl

kernel_raises : (t : ℕ) (c : HypervisorRegisters) (hart : Hart) (cause : Cause) (tval : ℕ) → hart.mode ≡ Kernel → bit (kernel_hedeleg hart.entry) (cause_number cause) ≡ true
    → raise (hw_core t c hart) (plain_exception cause tval) ≡ guest_trap (hw_core t c hart) false (cause_number cause) tval
unfolding raise
kernel_raises t c hart cause tval kernel delegated = rw (kernel, delegated) refl

kernel_trap_ref : (r : State) (h : ℕ) (hart : Hart) (interrupt : Bool) (cause tval : ℕ)
    → trap_from r h hart Kernel interrupt cause tval ≡ count (with_hart r h (hart_at_trap r.rules hart Kernel interrupt cause tval)) (count_trap Kernel)
unfolding trap_from
kernel_trap_ref r h hart interrupt cause tval = refl

trapped_goes_on : (rules : Rules) (hart : Hart) (interrupt : Bool) (cause tval : ℕ) → GoesOn hart (hart_at_trap rules hart Kernel interrupt cause tval)
unfolding hart_at_trap
trapped_goes_on rules hart interrupt cause tval = (refl, refl)

-- a trap that the guest's kernel takes itself
pub kernel_trap_agrees : (o : Unseen) (r : State) (h : ℕ) (hart : Hart) (c : HypervisorRegisters) (interrupt : Bool) (cause tval : ℕ) → IsAt o r h hart c
    → hart.mode ≡ Kernel
    → Agrees o r h hart c (with_region (region_at o r) (guest_trap (core_at o c hart) interrupt cause tval)) (trap_from r h hart hart.mode interrupt cause tval)
kernel_trap_agrees o r h hart c interrupt cause tval at kernel =
    subst (λ (s : Step). Agrees o r h hart c (with_region (region_at o r) s) (trap_from r h hart hart.mode interrupt cause tval))
    (sym (kernel_traps (length o.tables) c r.rules hart interrupt cause tval kernel))
    (subst (QuietTo o r h (with_region (region_at o r) (record { core = core_at o c (hart_at_trap r.rules hart Kernel interrupt cause tval); outcome = Outcome.GuestTrap })))
    (sym (ap (λ (m : Mode). trap_from r h hart m interrupt cause tval) kernel ∙ kernel_trap_ref r h hart interrupt cause tval))
    (traps o r h hart (hart_at_trap r.rules hart Kernel interrupt cause tval) c at (trapped_goes_on r.rules hart interrupt cause tval)))

-- ---- exits that are no fetch's

serve_other : (r : State) (h : ℕ) (hart : Hart) (exit : Exit) (x : Option Binding) → is_fetch_exit exit ≡ false
    → exit_answered r h hart (answer_in (seen_of r hart exit) exit x) ≡ serve_plain r h hart exit
unfolding answer_in serve_plain
serve_other r h hart exit None other = refl
serve_other r h hart exit (Some entry) other = rw other refl

-- in an entry or not, they are answered alike
pub other_exit : (r : State) (h : ℕ) (hart : Hart) (exit : Exit) → is_fetch_exit exit ≡ false → serve_exit r h hart exit ≡ serve_plain r h hart exit
unfolding serve_exit exit_answer
other_exit r h hart exit other = serve_other r h hart exit (bound_entry r.rules hart.entry) other

serve_outside : (r : State) (h : ℕ) (hart : Hart) (exit : Exit) (x : Option Binding) → x ≡ None
    → exit_answered r h hart (answer_in (seen_of r hart exit) exit x) ≡ serve_plain r h hart exit
unfolding answer_in serve_plain
serve_outside r h hart exit x none = rw none refl

pub bound_none : (r : State) (hart : Hart) → hart.entry ≡ None → bound_entry r.rules hart.entry ≡ None
unfolding bound_entry
bound_none r hart none = rw none refl

-- and outside of an entry all are
pub exit_outside : (r : State) (h : ℕ) (hart : Hart) (exit : Exit) → hart.entry ≡ None → serve_exit r h hart exit ≡ serve_plain r h hart exit
unfolding serve_exit exit_answer
exit_outside r h hart exit none = serve_outside r h hart exit (bound_entry r.rules hart.entry) (bound_none r hart none)

-- ---- in user mode

-- what SecVisor makes of a plain exception's exit
pub plain_served : (r : State) (h : ℕ) (hart : Hart) (cause : Cause) (tval pc : ℕ) → bit delegated_exceptions (cause_number cause) ≡ true
    → exception r h hart cause tval ≡ serve_plain r h hart (exit_of (plain_exception cause tval) pc)
unfolding serve_plain plain_answer exit_answered
plain_served r h hart Cause.InstrMisaligned tval pc e = refl
plain_served r h hart Cause.InstrAccess tval pc e = refl
plain_served r h hart Cause.Illegal tval pc e = refl
plain_served r h hart Cause.Breakpoint tval pc e = refl
plain_served r h hart Cause.LoadMisaligned tval pc e = refl
plain_served r h hart Cause.LoadAccess tval pc e = refl
plain_served r h hart Cause.StoreMisaligned tval pc e = refl
plain_served r h hart Cause.StoreAccess tval pc e = refl
plain_served r h hart Cause.UserCall tval pc e = refl
plain_served r h hart Cause.GuestCall tval pc e = cc
plain_served r h hart Cause.InstrPage tval pc e = refl
plain_served r h hart Cause.LoadPage tval pc e = refl
plain_served r h hart Cause.StorePage tval pc e = refl
plain_served r h hart Cause.GuestFetch tval pc e = cc
plain_served r h hart Cause.GuestLoad tval pc e = cc
plain_served r h hart Cause.Virtual tval pc e = cc
plain_served r h hart Cause.GuestStore tval pc e = cc

-- nothing is delegated there
none_delegated : (cause : Cause) → bit 0 (cause_number cause) ≡ false
none_delegated Cause.InstrMisaligned = refl
none_delegated Cause.InstrAccess = refl
none_delegated Cause.Illegal = refl
none_delegated Cause.Breakpoint = refl
none_delegated Cause.LoadMisaligned = refl
none_delegated Cause.LoadAccess = refl
none_delegated Cause.StoreMisaligned = refl
none_delegated Cause.StoreAccess = refl
none_delegated Cause.UserCall = refl
none_delegated Cause.GuestCall = refl
none_delegated Cause.InstrPage = refl
none_delegated Cause.LoadPage = refl
none_delegated Cause.StorePage = refl
none_delegated Cause.GuestFetch = refl
none_delegated Cause.GuestLoad = refl
none_delegated Cause.Virtual = refl
none_delegated Cause.GuestStore = refl

pub user_raises : (t : ℕ) (c : HypervisorRegisters) (hart : Hart) (e : Exception) → hart.mode ≡ User
    → raise (hw_core t c hart) e ≡ leave (hw_core t c hart) (exit_of e hart.pc)
unfolding raise
user_raises t c hart e user = rw (user, none_delegated e.cause) refl

-- an exit, whose answer is known
pub leaves_agrees : (o : Unseen) (r : State) (h : ℕ) (hart : Hart) (c : HypervisorRegisters) (s : Step) (exit : Exit) (next : State)
    → s ≡ leave (core_at o c hart) exit → next ≡ serve_exit r h hart exit → Agrees o r h hart c (with_region (region_at o r) s) next
unfolding leave
leaves_agrees o r h hart c s exit next is served =
    subst (λ (s : Step). Agrees o r h hart c (with_region (region_at o r) s) next) (sym is) (refl, served)

-- ---- in either

exception_agrees_in : (o : Unseen) (r : State) (h : ℕ) (hart : Hart) (c : HypervisorRegisters) (cause : Cause) (tval : ℕ) (mode : Mode) → IsAt o r h hart c
    → hart.mode ≡ mode → bit (kernel_hedeleg hart.entry) (cause_number cause) ≡ true
    → exception r h hart cause tval ≡ serve_exit r h hart (exit_of (plain_exception cause tval) hart.pc)
    → Agrees o r h hart c (with_region (region_at o r) (raise (core_at o c hart) (plain_exception cause tval))) (exception r h hart cause tval)
exception_agrees_in o r h hart c cause tval Kernel at kernel delegated served =
    subst (λ (s : Step). Agrees o r h hart c (with_region (region_at o r) s) (exception r h hart cause tval))
    (sym (kernel_raises (length o.tables) c hart cause tval kernel delegated))
    (kernel_trap_agrees o r h hart c false (cause_number cause) tval at kernel)
exception_agrees_in o r h hart c cause tval User at user delegated served =
    leaves_agrees o r h hart c (raise (core_at o c hart) (plain_exception cause tval)) (exit_of (plain_exception cause tval) hart.pc) (exception r h hart cause tval)
    (user_raises (length o.tables) c hart (plain_exception cause tval) user) served

-- what is delegated in an entry is delegated in kernel mode too, and is no fetch's
delegated_by : (entry : Option ℕ) (cause : Cause) → bit entry_exceptions (cause_number cause) ≡ true → bit (kernel_hedeleg entry) (cause_number cause) ≡ true
delegated_by None cause e = delegated_outside cause e
  where
    delegated_outside : (cause : Cause) → bit entry_exceptions (cause_number cause) ≡ true → bit delegated_exceptions (cause_number cause) ≡ true
    delegated_outside Cause.InstrMisaligned e = refl
    delegated_outside Cause.InstrAccess e = refl
    delegated_outside Cause.Illegal e = refl
    delegated_outside Cause.Breakpoint e = refl
    delegated_outside Cause.LoadMisaligned e = refl
    delegated_outside Cause.LoadAccess e = refl
    delegated_outside Cause.StoreMisaligned e = refl
    delegated_outside Cause.StoreAccess e = refl
    delegated_outside Cause.UserCall e = refl
    delegated_outside Cause.GuestCall e = cc
    delegated_outside Cause.InstrPage e = refl
    delegated_outside Cause.LoadPage e = refl
    delegated_outside Cause.StorePage e = refl
    delegated_outside Cause.GuestFetch e = cc
    delegated_outside Cause.GuestLoad e = cc
    delegated_outside Cause.Virtual e = cc
    delegated_outside Cause.GuestStore e = cc
delegated_by (Some i) cause e = e

no_fetch : (cause : Cause) (tval pc : ℕ) → bit entry_exceptions (cause_number cause) ≡ true → is_fetch_exit (exit_of (plain_exception cause tval) pc) ≡ false
no_fetch Cause.InstrMisaligned tval pc e = refl
no_fetch Cause.InstrAccess tval pc e = refl
no_fetch Cause.Illegal tval pc e = refl
no_fetch Cause.Breakpoint tval pc e = refl
no_fetch Cause.LoadMisaligned tval pc e = refl
no_fetch Cause.LoadAccess tval pc e = refl
no_fetch Cause.StoreMisaligned tval pc e = refl
no_fetch Cause.StoreAccess tval pc e = refl
no_fetch Cause.UserCall tval pc e = refl
no_fetch Cause.GuestCall tval pc e = refl
no_fetch Cause.InstrPage tval pc e = cc
no_fetch Cause.LoadPage tval pc e = refl
no_fetch Cause.StorePage tval pc e = refl
no_fetch Cause.GuestFetch tval pc e = cc
no_fetch Cause.GuestLoad tval pc e = refl
no_fetch Cause.Virtual tval pc e = refl
no_fetch Cause.GuestStore tval pc e = refl

pub exception_agrees : (o : Unseen) (r : State) (h : ℕ) (hart : Hart) (c : HypervisorRegisters) (cause : Cause) (tval : ℕ) → IsAt o r h hart c
    → bit entry_exceptions (cause_number cause) ≡ true
    → Agrees o r h hart c (with_region (region_at o r) (raise (core_at o c hart) (plain_exception cause tval))) (exception r h hart cause tval)
exception_agrees o r h hart c cause tval at delegated =
    exception_agrees_in o r h hart c cause tval hart.mode at refl (delegated_by hart.entry cause delegated)
    (plain_served r h hart cause tval hart.pc (delegated_by None cause delegated)
    ∙ sym (other_exit r h hart (exit_of (plain_exception cause tval) hart.pc) (no_fetch cause tval hart.pc delegated)))

-- the page fault of a fetch outside of an entry
pub page_fault_agrees : (o : Unseen) (r : State) (h : ℕ) (hart : Hart) (c : HypervisorRegisters) (tval : ℕ) → IsAt o r h hart c → hart.entry ≡ None
    → Agrees o r h hart c (with_region (region_at o r) (raise (core_at o c hart) (plain_exception Cause.InstrPage tval))) (exception r h hart Cause.InstrPage tval)
page_fault_agrees o r h hart c tval at none =
    exception_agrees_in o r h hart c Cause.InstrPage tval hart.mode at refl (rw none refl)
    (plain_served r h hart Cause.InstrPage tval hart.pc refl ∙ sym (exit_outside r h hart (exit_of (plain_exception Cause.InstrPage tval) hart.pc) none))

-- ---- exceptions that are never delegated

undelegated_in : (t : ℕ) (c : HypervisorRegisters) (hart : Hart) (e : Exception) (mode : Mode) → hart.mode ≡ mode → bit (kernel_hedeleg hart.entry) (cause_number e.cause) ≡ false
    → raise (hw_core t c hart) e ≡ leave (hw_core t c hart) (exit_of e hart.pc)
unfolding raise
undelegated_in t c hart e Kernel kernel not_delegated = rw (kernel, not_delegated) refl
undelegated_in t c hart e User user not_delegated = user_raises t c hart e user

-- such an exception leaves the guest in both modes
pub leaves_by : (o : Unseen) (r : State) (h : ℕ) (hart : Hart) (c : HypervisorRegisters) (e : Exception) (next : State)
    → bit (kernel_hedeleg hart.entry) (cause_number e.cause) ≡ false → next ≡ serve_exit r h hart (exit_of e hart.pc)
    → Agrees o r h hart c (with_region (region_at o r) (raise (core_at o c hart) e)) next
leaves_by o r h hart c e next not_delegated served =
    leaves_agrees o r h hart c (raise (core_at o c hart) e) (exit_of e hart.pc) next
    (undelegated_in (length o.tables) c hart e hart.mode refl not_delegated) served

-- what kernel mode leaves to SecVisor besides fetches
abbrev pub is_left : Cause → Bool
is_left cause = not (bit delegated_exceptions (cause_number cause)) && not (cause_number cause == 20)

left_by : (entry : Option ℕ) (cause : Cause) → is_left cause ≡ true → bit (kernel_hedeleg entry) (cause_number cause) ≡ false
left_by None cause e = left_outside (bit delegated_exceptions (cause_number cause)) (not (cause_number cause == 20)) e
  where
    left_outside : (a b : Bool) → (not a && b) ≡ true → a ≡ false
    left_outside true b e = cc
    left_outside false b e = refl
left_by (Some i) cause e = left_inside cause e
  where
    left_inside : (cause : Cause) → is_left cause ≡ true → bit entry_exceptions (cause_number cause) ≡ false
    left_inside Cause.InstrMisaligned e = cc
    left_inside Cause.InstrAccess e = cc
    left_inside Cause.Illegal e = cc
    left_inside Cause.Breakpoint e = cc
    left_inside Cause.LoadMisaligned e = cc
    left_inside Cause.LoadAccess e = cc
    left_inside Cause.StoreMisaligned e = cc
    left_inside Cause.StoreAccess e = cc
    left_inside Cause.UserCall e = cc
    left_inside Cause.GuestCall e = refl
    left_inside Cause.InstrPage e = cc
    left_inside Cause.LoadPage e = cc
    left_inside Cause.StorePage e = cc
    left_inside Cause.GuestFetch e = refl
    left_inside Cause.GuestLoad e = refl
    left_inside Cause.Virtual e = refl
    left_inside Cause.GuestStore e = refl

left_no_fetch : (e : Exception) (cause : Cause) (pc : ℕ) → e.cause ≡ cause → is_left cause ≡ true → is_fetch_exit (exit_of e pc) ≡ false
left_no_fetch e Cause.InstrMisaligned pc is left = cc
left_no_fetch e Cause.InstrAccess pc is left = cc
left_no_fetch e Cause.Illegal pc is left = cc
left_no_fetch e Cause.Breakpoint pc is left = cc
left_no_fetch e Cause.LoadMisaligned pc is left = cc
left_no_fetch e Cause.LoadAccess pc is left = cc
left_no_fetch e Cause.StoreMisaligned pc is left = cc
left_no_fetch e Cause.StoreAccess pc is left = cc
left_no_fetch e Cause.UserCall pc is left = cc
left_no_fetch e Cause.GuestCall pc is left = rw is refl
left_no_fetch e Cause.InstrPage pc is left = cc
left_no_fetch e Cause.LoadPage pc is left = cc
left_no_fetch e Cause.StorePage pc is left = cc
left_no_fetch e Cause.GuestFetch pc is left = cc
left_no_fetch e Cause.GuestLoad pc is left = rw is refl
left_no_fetch e Cause.Virtual pc is left = rw is refl
left_no_fetch e Cause.GuestStore pc is left = rw is refl

pub exit_agrees : (o : Unseen) (r : State) (h : ℕ) (hart : Hart) (c : HypervisorRegisters) (e : Exception) (next : State)
    → is_left e.cause ≡ true → next ≡ serve_plain r h hart (exit_of e hart.pc)
    → Agrees o r h hart c (with_region (region_at o r) (raise (core_at o c hart) e)) next
exit_agrees o r h hart c e next left served =
    leaves_by o r h hart c e next (left_by hart.entry e.cause left)
    (served ∙ sym (other_exit r h hart (exit_of e hart.pc) (left_no_fetch e e.cause hart.pc refl left)))
