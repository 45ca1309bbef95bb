-- One attempt of a hart with the hypervisor extension, in VS or VU mode: an interrupt, a fetch, an instruction.
-- RISC-V Privileged manual, "Supervisor Cause (scause) Register" for the order of exceptions, "Supervisor Instructions",
-- and H extension: "Trap Cause Codes", "Virtual-Instruction Exceptions"; Unprivileged manual, "Zicsr".
use Rattle.std.specs.Prelude.{◌≡◌, ℕ, Bool, if◌then◌else◌, Option, Some, None, Result, Ok, Err}
use Rattle.spec_processor.specs.Bytes.{instruction_size}
use Rattle.spec_processor.specs.Regions.{Region, host_word, write_host}
use Rattle.spec_processor.specs.Instructions.{instruction_of}
use Rattle.spec_processor.specs.Effects.{effect_of, set_register}
use Rattle.spec_processor.specs.Requests.{csr_value}
use Rattle.spec_processor.specs.Traps.{mode_at_return}
use Rattle.spec_processor.specs.HypervisorRegisters.{csr_access, read_virtual, write_virtual, registers_at_return, pending}
use Rattle.spec_processor.specs.Hardware.{Core, Step, Attempted, with_region, plain_exception, raise, after_interrupt}
use Rattle.spec_processor.specs.HardwareMemory.{translation_result, aligned_translation, load_htinst, store_htinst, atomic_htinst, retire}
use Rattle.spec_processor.specs.HardwareMemory.{retire_with, after_load, after_load_reserved, after_store, after_store_conditional}
use Rattle.spec_processor.specs.HardwareMemory.{after_amo}
use Rattle.spec_processor.specs.declared.cause.Cause.{Cause}
use Rattle.spec_processor.specs.declared.csr.Csr.{Csr}
use Rattle.spec_processor.specs.declared.csr.CsrFault.{CsrFault}
use Rattle.spec_processor.specs.declared.effect.Effect.{Effect}
use Rattle.spec_processor.specs.declared.instruction.CsrOp.{CsrOp}
use Rattle.spec_processor.specs.declared.instruction.Instr.{Instr}
use Rattle.spec_processor.specs.declared.outcome.Outcome.{Outcome}
use Rattle.spec_processor.specs.declared.outcome.Exception.{Exception}
use Rattle.spec_processor.specs.declared.access.Access.TheVariants as Access
use Rattle.spec_processor.specs.declared.interrupt.Interrupt.{Interrupt}
use Rattle.spec_processor.specs.declared.lines.Lines.{Lines}
use Rattle.spec_processor.specs.declared.mode.Mode.{Mode}
use Rattle.spec_processor.specs.declared.mode.Mode.TheVariants.{Kernel, User}

-- ---- an instruction that isn't carried out

abbrev pub illegal : ℕ → Exception
illegal w = plain_exception Cause.Illegal w

-- supervisor mode without V would have it
abbrev pub virtual_instruction : ℕ → Exception
virtual_instruction w = plain_exception Cause.Virtual w

-- ---- registers

abbrev pub csr_exception : ℕ → CsrFault → Exception
csr_exception w CsrFault.Illegal = illegal w
csr_exception w CsrFault.Virtual = virtual_instruction w

-- the register that an access reaches, or the exception
abbrev pub csr_or_exception : ℕ → Result Csr CsrFault → Result Csr Exception
csr_or_exception w (Ok csr) = Ok csr
csr_or_exception w (Err fault) = Err (csr_exception w fault)

unfoldable pub csr_reached : Core → (w number : ℕ) → (writes : Bool) → Result Csr Exception
csr_reached core w number writes = csr_or_exception w (csr_access core.hregs.mode core.csrs number writes)

-- the hart with a register written
abbrev pub with_csr : Core → Csr → ℕ → Core
with_csr core csr value = record core { csrs = write_virtual core.hregs.hideleg core.csrs csr value }

abbrev pub csr_read : Core → Lines → Csr → ℕ
csr_read core lines csr = read_virtual core.hregs.hideleg core.csrs lines csr

-- rd takes the value that was read before the write
unfoldable pub after_csr : Core → Lines → (rd : ℕ) → CsrOp → (operand : ℕ) → (writes : Bool) → Result Csr Exception → Step
after_csr core lines rd op operand writes (Ok csr) =
    retire_with (if writes then with_csr core csr (csr_value op (csr_read core lines csr) operand) else core) rd (csr_read core lines csr) None
after_csr core lines rd op operand writes (Err e) = raise core e

-- ---- instructions of the system

-- an instruction of supervisor mode that changes the pc alone
unfoldable pub after_supervisor_only : Core → ℕ → Mode → Step
after_supervisor_only core w Kernel = retire core None
after_supervisor_only core w User = raise core (virtual_instruction w)

-- the trap handler returns, and the reservation goes
unfoldable pub return_from_trap : Core → Step
return_from_trap core = record {
  core = record core {
    pc = core.csrs.vsepc;
    csrs = registers_at_return core.csrs;
    hregs = record core.hregs { mode = mode_at_return core.csrs.vsstatus };
    reservation = None;
  };
  outcome = Outcome.Retired None;
}

-- with VTSR supervisor mode has no SRET either
unfoldable pub after_sret : Core → ℕ → Mode → Step
after_sret core w Kernel = if core.hregs.vtsr then raise core (virtual_instruction w) else return_from_trap core
after_sret core w User = raise core (virtual_instruction w)

abbrev pub call_cause : Mode → Cause
call_cause Kernel = Cause.GuestCall
call_cause User = Cause.UserCall

-- ---- the effect of an instruction

abbrev pub after_set : Core → (rd value next : ℕ) → Step
after_set core rd value next =
    record { core = record core { registers = set_register core.registers rd value; pc = next }; outcome = Outcome.Retired None }

unfoldable pub after_effect : Region → Core → Lines → ℕ → Effect → Attempted
after_effect r core lines w (Effect.Set rd value next) = with_region r (after_set core rd value next)
after_effect r core lines w (Effect.MisalignedJump target) = with_region r (raise core (plain_exception Cause.InstrMisaligned target))
after_effect r core lines w (Effect.Load rd address width signed) =
    with_region r (after_load r core rd width signed (aligned_translation r core Access.Load address width (load_htinst w)))
after_effect r core lines w (Effect.Store address width value) =
    after_store r core width value (aligned_translation r core Access.Store address width (store_htinst w))
after_effect r core lines w (Effect.LoadReserved rd address width) =
    with_region r (after_load_reserved r core rd width (aligned_translation r core Access.Load address width (atomic_htinst w)))
after_effect r core lines w (Effect.StoreConditional rd address width value) =
    after_store_conditional r core rd width value (aligned_translation r core Access.Store address width (atomic_htinst w))
after_effect r core lines w (Effect.Amo rd address width op value) =
    after_amo r core rd width op value (aligned_translation r core Access.Store address width (atomic_htinst w))
after_effect r core lines w (Effect.Csr rd number op operand writes) =
    with_region r (after_csr core lines rd op operand writes (csr_reached core w number writes))
after_effect r core lines w Effect.Ecall = with_region r (raise core (plain_exception (call_cause core.hregs.mode) 0))
after_effect r core lines w Effect.Ebreak = with_region r (raise core (plain_exception Cause.Breakpoint core.pc))
after_effect r core lines w Effect.Sret = with_region r (after_sret core w core.hregs.mode)
after_effect r core lines w Effect.Wfi = with_region r (after_supervisor_only core w core.hregs.mode)
after_effect r core lines w Effect.SfenceVma = with_region r (after_supervisor_only core w core.hregs.mode)
after_effect r core lines w Effect.Fence = with_region r (retire core None)
after_effect r core lines w Effect.Hyper = with_region r (raise core (virtual_instruction w))

-- ---- a word, a fetch, an attempt

unfoldable pub after_instruction : Region → Core → Lines → ℕ → Option Instr → Attempted
after_instruction r core lines w (Some instr) = after_effect r core lines w (effect_of instr core.registers core.pc)
after_instruction r core lines w None = with_region r (raise core (illegal w))

unfoldable pub after_word : Region → Core → Lines → ℕ → Attempted
after_word r core lines w = after_instruction r core lines w (instruction_of w)

-- the word of the instruction is read at the place that the pc reached
unfoldable pub after_fetch : Region → Core → Lines → Result ℕ Exception → Attempted
after_fetch r core lines (Ok hpa) = after_word r core lines (host_word r hpa instruction_size)
after_fetch r core lines (Err e) = with_region r (raise core e)

unfoldable pub after_pending : Region → Core → Lines → Option Interrupt → Attempted
after_pending r core lines (Some interrupt) = with_region r (after_interrupt core interrupt)
after_pending r core lines None = after_fetch r core lines (translation_result r core Access.Fetch core.pc 0)

unfoldable pub attempt : Region → Core → Lines → Attempted
attempt r core lines = after_pending r core lines (pending core.hregs core.csrs lines)

-- ---- what an attempt writes

-- the region changes only where the outcome names the bytes that were written, and there to the bytes of some value
abbrev pub OnlyWrites : Region → Region → Outcome → Type 0
OnlyWrites before after (Outcome.Retired (Some wrote)) = (value : ℕ) × (after ≡ write_host before wrote.hpa wrote.width value)
OnlyWrites before after (Outcome.Retired None) = after ≡ before
OnlyWrites before after Outcome.GuestTrap = after ≡ before
OnlyWrites before after (Outcome.Exit exit) = after ≡ before
