-- A register access of the hardware's is the reference machine's.
use Rattle.std.proofs.Common.{◌≡◌, ℕ, refl, sym, ◌∙◌, ap, subst, Bool, true, false}
use Rattle.std.specs.Prelude.{Option, Some, None, Result, Ok, Err}
use Rattle.std.specs.Result.{result_ok}
use Rattle.spec_processor.specs.GuestView.{with_guest, hideleg_in}
use Rattle.spec_processor.specs.Hardware.{Attempted, with_region, exit_of}
use Rattle.spec_processor.specs.HardwareAttempt.{after_csr, csr_or_exception, csr_reached, virtual_instruction}
use Rattle.spec_processor.specs.HypervisorRegisters.{HypervisorRegisters, csr_access, read_virtual, write_virtual}
use Rattle.spec_processor.specs.Registers.{IsLegalSupervisor, guest_access, write_csr}
use Rattle.spec_processor.specs.Requests.{csr_value}
use Rattle.spec_processor.specs.declared.cause.Cause.{Cause}
use Rattle.spec_processor.specs.declared.csr.Csr.{Csr}
use Rattle.spec_processor.specs.declared.csr.CsrFault.{CsrFault}
use Rattle.spec_processor.specs.declared.instruction.CsrOp.{CsrOp}
use Rattle.spec_processor.specs.declared.outcome.Outcome.{Outcome}
use Rattle.spec_processor.specs.declared.mode.Mode.{Mode}
use Rattle.spec_processor.specs.declared.mode.Mode.TheVariants.{Kernel, User}
use Rattle.laws_processor.proofs.GuestViews.{guest_accesses, reached_reads, reached_writes}
use Rattle.spec_reference.specs.States.{State, Hart}
use Rattle.spec_reference.specs.Devices.{lines_at}
use Rattle.spec_reference.specs.Requests.{carried_out, stepped_with, with_csr_set, csr_now, carry_out_csr, csr_asked}
use Rattle.spec_hardware.specs.Served.{exit_answered, plain_answer, virtual_answer, is_sret_word}
use Rattle.laws_simulation.proofs.Plain.{serve_plain}
use Rattle.spec_reference.specs.Turn.{illegal_instruction}
use Rattle.spec_hardware.specs.StandsFor.{Unseen, hregs_in}
use Rattle.laws_simulation.specs.Agree.{IsAt, Agrees, QuietTo, region_at, core_at}
use Rattle.laws_simulation.proofs.Stays.{GoesOn, stays}
use Rattle.laws_simulation.proofs.Excepts.{exception_agrees, exit_agrees}
use Rattle.spec_hardware.proofs.Privileges.{same_mode}

pub same_hideleg : (mode : Mode) (entry : Option ℕ) → (hregs_in mode entry).hideleg ≡ hideleg_in mode
same_hideleg Kernel entry = refl
same_hideleg User entry = refl

-- ---- a refused access

virtual_served_in : (r : State) (h : ℕ) (hart : Hart) (w pc : ℕ) (mode : Mode) → is_sret_word w ≡ false
    → illegal_instruction r h hart w ≡ exit_answered r h hart (virtual_answer mode (exit_of (virtual_instruction w) pc))
unfolding exit_answered virtual_answer
virtual_served_in r h hart w pc Kernel other = rw other refl
virtual_served_in r h hart w pc User other = refl

-- a virtual instruction but for SRET is illegal to the guest
pub virtual_served : (r : State) (h : ℕ) (hart : Hart) (w pc : ℕ) → is_sret_word w ≡ false
    → illegal_instruction r h hart w ≡ serve_plain r h hart (exit_of (virtual_instruction w) pc)
unfolding serve_plain plain_answer
virtual_served r h hart w pc other = virtual_served_in r h hart w pc hart.mode other

-- ---- an access that is carried out

reads_here : (o : Unseen) (r : State) (h : ℕ) (hart : Hart) (c : HypervisorRegisters) (number : ℕ) (writes : Bool) (csr : Csr) → IsAt o r h hart c
    → IsLegalSupervisor hart.supervisor → guest_access hart.mode hart.supervisor number writes ≡ Some csr
    → read_virtual (hregs_in hart.mode hart.entry).hideleg (with_guest c hart.supervisor) (lines_at r.devices h) csr ≡ csr_now r h hart csr
reads_here o r h hart c number writes csr at legal allowed =
    ap (λ (k : ℕ). read_virtual k (with_guest c hart.supervisor) (lines_at r.devices h) csr) (same_hideleg hart.mode hart.entry)
    ∙ reached_reads hart.mode c hart.supervisor (lines_at r.devices h) number writes csr legal allowed

writes_here : (hart : Hart) (c : HypervisorRegisters) (number : ℕ) (csr : Csr) (value : ℕ)
    → IsLegalSupervisor hart.supervisor → guest_access hart.mode hart.supervisor number true ≡ Some csr
    → write_virtual (hregs_in hart.mode hart.entry).hideleg (with_guest c hart.supervisor) csr value ≡ with_guest c (write_csr hart.supervisor csr value)
writes_here hart c number csr value legal allowed =
    ap (λ (k : ℕ). write_virtual k (with_guest c hart.supervisor) csr value) (same_hideleg hart.mode hart.entry)
    ∙ reached_writes hart.mode c hart.supervisor number csr value legal allowed

abbrev pub after_access : State → ℕ → Hart → CsrOp → ℕ → Bool → Csr → Hart
after_access r h hart op operand true csr = with_csr_set hart csr (csr_value op (csr_now r h hart csr) operand)
after_access r h hart op operand false csr = hart

reached_step : (o : Unseen) (r : State) (h : ℕ) (hart : Hart) (c : HypervisorRegisters) (rd : ℕ) (op : CsrOp) (operand number : ℕ) (writes : Bool) (csr : Csr)
    → IsAt o r h hart c → IsLegalSupervisor hart.supervisor → guest_access hart.mode hart.supervisor number writes ≡ Some csr
    → with_region (region_at o r) (after_csr (core_at o c hart) (lines_at r.devices h) rd op operand writes (Ok csr))
    ≡ record { region = region_at o r; core = core_at o c (stepped_with (after_access r h hart op operand writes csr) rd (csr_now r h hart csr)); outcome = Outcome.Retired None }
unfolding after_csr
reached_step o r h hart c rd op operand number true csr at legal allowed =
    rw (
      reads_here o r h hart c number true csr at legal allowed,
      writes_here hart c number csr (csr_value op (csr_now r h hart csr) operand) legal allowed,
    ) refl
reached_step o r h hart c rd op operand number false csr at legal allowed =
    rw (reads_here o r h hart c number false csr at legal allowed) refl

accessed_goes_on : (r : State) (h : ℕ) (hart : Hart) (op : CsrOp) (operand : ℕ) (writes : Bool) (csr : Csr) → GoesOn hart (after_access r h hart op operand writes csr)
accessed_goes_on r h hart op operand true csr = (refl, refl)
accessed_goes_on r h hart op operand false csr = (refl, refl)

accessed_ref : (r : State) (h : ℕ) (hart : Hart) (w rd : ℕ) (op : CsrOp) (operand : ℕ) (writes : Bool) (csr : Csr)
    → carry_out_csr r h hart w rd op operand writes (Some csr) ≡ carried_out r h (stepped_with (after_access r h hart op operand writes csr) rd (csr_now r h hart csr))
unfolding carry_out_csr
accessed_ref r h hart w rd op operand true csr = refl
accessed_ref r h hart w rd op operand false csr = refl

-- ---- by what the access gives

csr_at : (o : Unseen) (r : State) (h : ℕ) (hart : Hart) (c : HypervisorRegisters) (w rd : ℕ) (op : CsrOp) (operand number : ℕ) (writes : Bool) (x : Result Csr CsrFault)
    → IsAt o r h hart c → IsLegalSupervisor hart.supervisor → is_sret_word w ≡ false → guest_access hart.mode hart.supervisor number writes ≡ result_ok x
    → Agrees o r h hart c
    (with_region (region_at o r) (after_csr (core_at o c hart) (lines_at r.devices h) rd op operand writes (csr_or_exception w x)))
    (carry_out_csr r h hart w rd op operand writes (result_ok x))
unfolding after_csr carry_out_csr
csr_at o r h hart c w rd op operand number writes (Ok csr) at legal other allowed =
    subst (λ (a : Attempted). Agrees o r h hart c a (carry_out_csr r h hart w rd op operand writes (Some csr)))
    (sym (reached_step o r h hart c rd op operand number writes csr at legal allowed))
    (subst (QuietTo o r h (record {
      region = region_at o r;
      core = core_at o c (stepped_with (after_access r h hart op operand writes csr) rd (csr_now r h hart csr));
      outcome = Outcome.Retired None;
    })) (sym (accessed_ref r h hart w rd op operand writes csr))
    (stays o r h hart (stepped_with (after_access r h hart op operand writes csr) rd (csr_now r h hart csr)) c at (accessed_goes_on r h hart op operand writes csr)))
csr_at o r h hart c w rd op operand number writes (Err CsrFault.Illegal) at legal other allowed = exception_agrees o r h hart c Cause.Illegal w at refl
csr_at o r h hart c w rd op operand number writes (Err CsrFault.Virtual) at legal other allowed =
    exit_agrees o r h hart c (virtual_instruction w) (illegal_instruction r h hart w) refl (virtual_served r h hart w hart.pc other)

pub csr_agrees : (o : Unseen) (r : State) (h : ℕ) (hart : Hart) (c : HypervisorRegisters) (w rd : ℕ) (op : CsrOp) (operand number : ℕ) (writes : Bool)
    → IsAt o r h hart c → IsLegalSupervisor hart.supervisor → is_sret_word w ≡ false
    → Agrees o r h hart c
    (with_region (region_at o r) (after_csr (core_at o c hart) (lines_at r.devices h) rd op operand writes (csr_reached (core_at o c hart) w number writes)))
    (carry_out_csr r h hart w rd op operand writes (csr_asked hart number writes))
unfolding csr_reached
csr_agrees o r h hart c w rd op operand number writes at legal other =
    let x : Result Csr CsrFault = csr_access hart.mode (with_guest c hart.supervisor) number writes in
    let allowed : guest_access hart.mode hart.supervisor number writes ≡ result_ok x = guest_accesses hart.mode c hart.supervisor number writes in
    rw (allowed, same_mode hart.mode hart.entry) (csr_at o r h hart c w rd op operand number writes x at legal other allowed)
