-- An instruction of the hardware's is the reference machine's.
use Rattle.std.specs.Prelude.{Option}
use Rattle.std.proofs.Common.{◌≡◌, ℕ, refl, sym, ap, true, false}
use Rattle.spec_processor.specs.Hardware.{with_region, raise, plain_exception, exit_of}
use Rattle.spec_processor.specs.HardwareAttempt.{after_effect, after_supervisor_only, after_sret, virtual_instruction, call_cause}
use Rattle.spec_processor.specs.HardwareMemory.{load_htinst, store_htinst, atomic_htinst}
use Rattle.spec_processor.specs.HypervisorRegisters.{HypervisorRegisters}
use Rattle.spec_processor.specs.Regions.{IsWidth}
use Rattle.spec_processor.specs.declared.cause.Cause.{Cause}
use Rattle.spec_processor.specs.declared.effect.Effect.{Effect}
use Rattle.spec_processor.specs.declared.mode.Mode.{Mode}
use Rattle.spec_processor.specs.declared.mode.Mode.TheVariants.{Kernel, User}
use Rattle.spec_reference.specs.States.{State, Hart}
use Rattle.spec_reference.specs.Devices.{lines_at}
use Rattle.spec_reference.specs.Requests.{at_next_instruction}
use Rattle.spec_reference.specs.Answers.{call}
use Rattle.spec_reference.specs.Turn.{with_set, carry_out_kernel_only, carry_out_ecall, carry_out_effect, illegal_instruction, carry_out_sret}
use Rattle.spec_hardware.specs.Served.{exit_answered, plain_answer, virtual_answer, is_sret_word}
use Rattle.laws_simulation.proofs.Plain.{serve_plain}
use Rattle.spec_hardware.specs.StandsFor.{Unseen, hregs_in}
use Rattle.laws_simulation.specs.Agree.{IsAt, Agrees, region_at, core_at}
use Rattle.laws_simulation.proofs.Stays.{stays}
use Rattle.laws_simulation.proofs.Excepts.{exception_agrees, exit_agrees}
use Rattle.laws_simulation.proofs.LoadsAgree.{IsLoad, load_agrees}
use Rattle.laws_simulation.proofs.StoresAgree.{IsStore, FreeKeeps, store_agrees}
use Rattle.laws_simulation.proofs.CsrsAgree.{csr_agrees, virtual_served}
use Rattle.laws_simulation.proofs.AtomicsAgree.{IsAtomicWord, lr_agrees, sc_agrees, amo_agrees}
use Rattle.spec_hardware.proofs.Privileges.{same_mode}

-- what is known of a word's effect: what an exit tells of it, and whether it is SRET's
abbrev pub IsTold : ℕ → Hart → Effect → Type 0
IsTold w hart (Effect.Load rd address width signed) = IsLoad (load_htinst w) hart rd width signed × IsWidth width
IsTold w hart (Effect.Store address width value) = IsStore (store_htinst w) hart width value × IsWidth width
IsTold w hart (Effect.LoadReserved rd address width) = IsAtomicWord (atomic_htinst w) hart × IsWidth width
IsTold w hart (Effect.StoreConditional rd address width value) = IsAtomicWord (atomic_htinst w) hart × IsWidth width
IsTold w hart (Effect.Amo rd address width op value) = IsAtomicWord (atomic_htinst w) hart × IsWidth width
IsTold w hart Effect.Sret = is_sret_word w ≡ true
IsTold w hart (Effect.Csr rd number op value writes) = is_sret_word w ≡ false
IsTold w hart Effect.Wfi = is_sret_word w ≡ false
IsTold w hart Effect.SfenceVma = is_sret_word w ≡ false
IsTold w hart Effect.Hyper = is_sret_word w ≡ false
IsTold w hart _ = Unit {0}

-- ---- instructions of the system

virtual_agrees : (o : Unseen) (r : State) (h : ℕ) (hart : Hart) (c : HypervisorRegisters) (w : ℕ) → is_sret_word w ≡ false
    → Agrees o r h hart c (with_region (region_at o r) (raise (core_at o c hart) (virtual_instruction w))) (illegal_instruction r h hart w)
virtual_agrees o r h hart c w other = exit_agrees o r h hart c (virtual_instruction w) (illegal_instruction r h hart w) refl (virtual_served r h hart w hart.pc other)

supervisor_agrees : (o : Unseen) (r : State) (h : ℕ) (hart : Hart) (c : HypervisorRegisters) (w : ℕ) (mode : Mode) → IsAt o r h hart c → is_sret_word w ≡ false
    → Agrees o r h hart c (with_region (region_at o r) (after_supervisor_only (core_at o c hart) w mode)) (carry_out_kernel_only r h hart w mode)
unfolding after_supervisor_only carry_out_kernel_only
supervisor_agrees o r h hart c w Kernel at other = stays o r h hart (at_next_instruction hart) c at (refl, refl)
supervisor_agrees o r h hart c w User at other = virtual_agrees o r h hart c w other

-- an ECALL of the kernel's leaves for SecVisor
ecall_agrees : (o : Unseen) (r : State) (h : ℕ) (hart : Hart) (c : HypervisorRegisters) (mode : Mode) → IsAt o r h hart c
    → Agrees o r h hart c (with_region (region_at o r) (raise (core_at o c hart) (plain_exception (call_cause mode) 0))) (carry_out_ecall r h hart mode)
unfolding carry_out_ecall serve_plain plain_answer exit_answered
ecall_agrees o r h hart c Kernel at = exit_agrees o r h hart c (plain_exception Cause.GuestCall 0) (call r h hart) refl refl
ecall_agrees o r h hart c User at = exception_agrees o r h hart c Cause.UserCall 0 at refl

-- with VTSR set an SRET leaves too
sret_served : (r : State) (h : ℕ) (hart : Hart) (w pc : ℕ) (mode : Mode) → hart.mode ≡ mode → is_sret_word w ≡ true
    → carry_out_sret r h hart w mode ≡ serve_plain r h hart (exit_of (virtual_instruction w) pc)
unfolding carry_out_sret serve_plain plain_answer virtual_answer exit_answered
sret_served r h hart w pc Kernel e same = rw (e, same) refl
sret_served r h hart w pc User e same = ap (λ (m : Mode). exit_answered r h hart (virtual_answer m (exit_of (virtual_instruction w) pc))) (sym e)

has_vtsr : (mode : Mode) (entry : Option ℕ) → (hregs_in mode entry).vtsr ≡ true
has_vtsr Kernel entry = refl
has_vtsr User entry = refl

sret_agrees : (o : Unseen) (r : State) (h : ℕ) (hart : Hart) (c : HypervisorRegisters) (w : ℕ) (mode : Mode) → hart.mode ≡ mode → is_sret_word w ≡ true
    → Agrees o r h hart c (with_region (region_at o r) (after_sret (core_at o c hart) w mode)) (carry_out_sret r h hart w mode)
unfolding after_sret
sret_agrees o r h hart c w Kernel e same =
    rw (has_vtsr hart.mode hart.entry) (exit_agrees o r h hart c (virtual_instruction w) (carry_out_sret r h hart w Kernel) refl (sret_served r h hart w hart.pc Kernel e same))
sret_agrees o r h hart c w User e same =
    exit_agrees o r h hart c (virtual_instruction w) (carry_out_sret r h hart w User) refl (sret_served r h hart w hart.pc User e same)

-- ---- all effects

pub effect_agrees : (o : Unseen) (r : State) (h : ℕ) (hart : Hart) (c : HypervisorRegisters) (w : ℕ) (e : Effect)
    → IsAt o r h hart c → ((width value : ℕ) → IsWidth width → FreeKeeps r width value) → IsTold w hart e
    → Agrees o r h hart c (after_effect (region_at o r) (core_at o c hart) (lines_at r.devices h) w e) (carry_out_effect r h hart w e)
unfolding after_effect carry_out_effect
effect_agrees o r h hart c w (Effect.Set rd value next) at kept told = stays o r h hart (with_set hart rd value next) c at (refl, refl)
effect_agrees o r h hart c w (Effect.MisalignedJump target) at kept told = exception_agrees o r h hart c Cause.InstrMisaligned target at refl
effect_agrees o r h hart c w (Effect.Load rd address width signed) at kept told =
    load_agrees o r h hart c rd address width signed (load_htinst w) at told.0 told.1
effect_agrees o r h hart c w (Effect.Store address width value) at kept told =
    store_agrees o r h hart c address width value (store_htinst w) at told.0 told.1 (kept width value told.1)
effect_agrees o r h hart c w (Effect.LoadReserved rd address width) at kept told =
    lr_agrees o r h hart c rd address width (atomic_htinst w) at told.0 told.1
effect_agrees o r h hart c w (Effect.StoreConditional rd address width value) at kept told =
    sc_agrees o r h hart c rd address width value (atomic_htinst w) at told.0 told.1 (kept width value told.1)
effect_agrees o r h hart c w (Effect.Amo rd address width op value) at kept told =
    amo_agrees o r h hart c rd address width op value (atomic_htinst w) at told.0 told.1 (λ v. kept width v told.1)
effect_agrees o r h hart c w (Effect.Csr rd number op operand writes) at kept told =
    csr_agrees o r h hart c w rd op operand number writes at (at.sound.harts h hart at.found).legal told
effect_agrees o r h hart c w Effect.Ecall at kept told =
    rw (same_mode hart.mode hart.entry) (ecall_agrees o r h hart c hart.mode at)
effect_agrees o r h hart c w Effect.Ebreak at kept told = exception_agrees o r h hart c Cause.Breakpoint hart.pc at refl
effect_agrees o r h hart c w Effect.Sret at kept told = rw (same_mode hart.mode hart.entry) (sret_agrees o r h hart c w hart.mode refl told)
effect_agrees o r h hart c w Effect.Wfi at kept told = rw (same_mode hart.mode hart.entry) (supervisor_agrees o r h hart c w hart.mode at told)
effect_agrees o r h hart c w Effect.SfenceVma at kept told = rw (same_mode hart.mode hart.entry) (supervisor_agrees o r h hart c w hart.mode at told)
effect_agrees o r h hart c w Effect.Fence at kept told = stays o r h hart (at_next_instruction hart) c at (refl, refl)
effect_agrees o r h hart c w Effect.Hyper at kept told = virtual_agrees o r h hart c w told
