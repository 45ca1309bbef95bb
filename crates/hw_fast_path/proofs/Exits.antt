-- The turn after a row, where its hart leaves the guest.
use Rattle.std.proofs.Common.{◌≡◌, ◌%◌, ◌<◌, ◌≤◌, ℕ, List, refl, sym, ◌∙◌, ap, subst, true, false, Bool, arith}
use Rattle.std.specs.Prelude.{None, Option, Some, if◌then◌else◌}
use Rattle.spec_processor.specs.Bits.{bit}
use Rattle.spec_processor.specs.Causes.{cause_number}
use Rattle.spec_processor.specs.Effects.{effect_of}
use Rattle.spec_processor.specs.Hardware.{Attempted, Core, exit_of, guest_trap, leave, plain_exception, raise, with_region}
use Rattle.spec_processor.specs.HardwareAttempt.{after_effect, after_instruction, after_sret, after_word, call_cause, virtual_instruction}
use Rattle.spec_processor.specs.Instructions.{ecall_word, sret_word, instruction_of, rows}
use Rattle.spec_processor.specs.Regions.{Region}
use Rattle.spec_processor.specs.declared.cause.Cause.{Cause}
use Rattle.spec_processor.specs.declared.instruction.Instr.{Instr}
use Rattle.spec_processor.specs.declared.lines.Lines.{Lines}
use Rattle.spec_processor.specs.declared.mode.Mode.{Mode}
use Rattle.spec_processor.specs.declared.mode.Mode.TheVariants.{Kernel, User}
use Rattle.spec_processor.specs.declared.outcome.Exception.{Exception}
use Rattle.hart.proofs.Returns.{sret_raises}
use Rattle.spec_processor.specs.HypervisorRegisters.{HypervisorRegisters, pending, registers_at_exit}
use Rattle.spec_processor.specs.HardwareAttempt.{attempt}
use Rattle.spec_processor.specs.declared.cached.CacheLine.{CacheLine}
use Rattle.spec_processor.specs.declared.exit.Exit.{Exit}
use Rattle.spec_processor.specs.declared.hregs.HRegs.{HRegs}
use Rattle.hart.specs.Cores.{core_of}
use Rattle.hart.specs.declared.hart.Core.{Core as Kept}
use Rattle.hw_fast_path.proofs.Going.{Batch, batch_more, batch_starts, batch_stays, course_stays, still_none}
use Rattle.hw_fast_path.specs.Ends.{with_leaving}
use Rattle.hw_fast_path.specs.Quick.{Comes, Fetches, GoesOn, SameCourse, Steers, is_made}
use Rattle.hw_fast_path.specs.Batches.{EndsBy, LeavesBy, call_exit, return_exit}
use Rattle.hw_fast_path.specs.declared.leaving.Leaving.{Leaving}
use Rattle.hw_fast_path.specs.declared.leaving.Leaving.TheVariants.{Stays, Calls, Returns}
use Rattle.hw_fast_path.specs.declared.tried.Tried.{Tried}
use Rattle.hw_fast_path.specs.declared.tried.Tried.TheVariants.{Stopped, Retired, Stored, ContextChanged}

-- what isn't delegated leaves the guest
raised : (core : Core) (e : Exception) → bit core.hregs.hedeleg (cause_number e.cause) ≡ false → raise core e ≡ leave core (exit_of e core.pc)
unfolding raise
raised core e test = ap (λ (b : Bool). if b then guest_trap core false (cause_number e.cause) e.tval else leave core (exit_of e core.pc)) test

-- ---- ECALL

call_word : instruction_of ecall_word ≡ Some Instr.Ecall
unfolding instruction_of rows
call_word = refl

called : (r : Region) (core : Core) (lines : Lines) → after_instruction r core lines ecall_word (Some Instr.Ecall) ≡ with_region r (raise core (plain_exception (call_cause core.hregs.mode) 0))
unfolding after_instruction after_effect effect_of
called r core lines = refl

pub call_leaves : (r : Region) (core : Core) (lines : Lines) → core.hregs.mode ≡ User → core.hregs.hedeleg ≡ 0
    → after_word r core lines ecall_word ≡ with_region r (leave core (call_exit core.pc))
unfolding after_word
call_leaves r core lines user none =
    ap (after_instruction r core lines ecall_word) call_word
    ∙ called r core lines
    ∙ ap (λ (mode : Mode). with_region r (raise core (plain_exception (call_cause mode) 0))) user
    ∙ ap (with_region r) (raised core (plain_exception Cause.UserCall 0) (ap (λ (n : ℕ). bit n (cause_number Cause.UserCall)) none))

-- ---- SRET

return_word : instruction_of sret_word ≡ Some Instr.Sret
unfolding instruction_of rows
return_word = refl

returned : (r : Region) (core : Core) (lines : Lines) → after_instruction r core lines sret_word (Some Instr.Sret) ≡ with_region r (after_sret core sret_word core.hregs.mode)
unfolding after_instruction after_effect effect_of
returned r core lines = refl

pub return_leaves : (r : Region) (core : Core) (lines : Lines) → core.hregs.vtsr ≡ true → bit core.hregs.hedeleg (cause_number Cause.Virtual) ≡ false
    → after_word r core lines sret_word ≡ with_region r (leave core (return_exit core.pc))
unfolding after_word
return_leaves r core lines vtsr test =
    ap (after_instruction r core lines sret_word) return_word
    ∙ returned r core lines
    ∙ ap (with_region r) (sret_raises core sret_word core.hregs.mode vtsr ∙ raised core (virtual_instruction sret_word) test)

-- ---- the core that the exit leaves

noted : (core next : Kept) (regs : HRegs) (exit : Exit) → next ≡ record core { csrs = registers_at_exit core.csrs exit }
    → core_of next regs ≡ (leave (core_of core regs) exit).core
unfolding leave
noted core next regs exit same = ap (λ (k : Kept). core_of k regs) same

pub calls : (r : Region) (core next : Kept) (regs : HRegs) (lines : Lines) (w : ℕ) → w ≡ ecall_word → regs.mode ≡ User → regs.hedeleg ≡ 0
    → next ≡ record core { csrs = registers_at_exit core.csrs (call_exit core.pc) }
    → LeavesBy Calls (after_word r (core_of core regs) lines w) r (core_of core regs) (core_of next regs)
calls r core next regs lines w is user none same = (
  user,
  record {
    attempted = ap (after_word r (core_of core regs) lines) is ∙ call_leaves r (core_of core regs) lines user none;
    left = noted core next regs (call_exit core.pc) same;
  },
)

pub returns : (r : Region) (core next : Kept) (regs : HRegs) (lines : Lines) (w stval : ℕ) → w ≡ sret_word → stval ≡ sret_word → regs.mode ≡ Kernel → regs.vtsr ≡ true
    → bit regs.hedeleg (cause_number Cause.Virtual) ≡ false → next ≡ record core { csrs = registers_at_exit core.csrs (exit_of (plain_exception Cause.Virtual stval) core.pc) }
    → LeavesBy Returns (after_word r (core_of core regs) lines w) r (core_of core regs) (core_of next regs)
returns r core next regs lines w stval is value kernel vtsr test same = (
  kernel,
  record {
    attempted = ap (after_word r (core_of core regs) lines) is ∙ return_leaves r (core_of core regs) lines vtsr test;
    left = noted core next regs (return_exit core.pc)
        (same ∙ ap (λ (n : ℕ). record core { csrs = registers_at_exit core.csrs (exit_of (plain_exception Cause.Virtual n) core.pc) }) value);
  },
)

-- ---- a row's end

pub stopped_course : (t : Tried) (before after : HypervisorRegisters) → is_made t ≡ false → Steers t before after → SameCourse before after
stopped_course Stopped before after made steers = steers
stopped_course Retired before after made steers = absurd (cc)
stopped_course Stored before after made steers = absurd (cc)
stopped_course ContextChanged before after made steers = absurd (cc)

pub leaving_within : (left : Leaving) (n most : ℕ) → n < most → with_leaving left n ≤ most
leaving_within Stays n most below = omega (arith, below)
leaving_within Calls n most below = omega (arith, below)
leaving_within Returns n most below = omega (arith, below)

-- where pc and reservation stay, a hart may go on as before
pub goes_left : (a b : Region) (first last next : Kept) (regs : HRegs) (x y : List (Option CacheLine)) → GoesOn a b first last regs x y → next.pc ≡ last.pc
    → next.reservation ≡ last.reservation → GoesOn a b first next regs x y
goes_left a b first last next regs x y on pc reservation = record {
  ready = record {
    step = record { aligned = subst (λ (n : ℕ). n % 4 ≡ 0) (sym pc) on.ready.step.aligned; mode = on.ready.step.mode };
    walk = on.ready.walk;
  };
  free = reservation ∙ on.free;
  tables = on.tables;
  ram = on.ram;
  filled = on.filled;
}

-- what the clause on a row's end says
abbrev pub Ends : Leaving → ℕ → Region → Core → Region → Core → Type 0
Ends left n r core after next = (lines : Lines) → pending core.hregs core.csrs lines ≡ None → EndsBy left n r core lines after next

pub ends_there : (n : ℕ) (r after : Region) (core next : Core) → Batch n r core after next → Ends Stays n r core after next
ends_there n r after core next batch = λ lines none. (next, (batch lines none, refl))

pub ends_left : (left : Leaving) (n : ℕ) (r after : Region) (core last next : Core) → Batch n r core after last → SameCourse core.csrs last.csrs → last.hregs ≡ core.hregs
    → ((lines : Lines) → pending last.hregs last.csrs lines ≡ None → LeavesBy left (attempt after last lines) after last next) → Ends left n r core after next
ends_left left n r after core last next batch course hregs one = λ lines none. (last, (batch lines none, one lines (still_none core last lines course hregs none)))

-- a turn that was tried and wasn't made is a row of none
pub none_at_once : (t : Tried) (r after : Region) (core next : Core) → is_made t ≡ false
    → ((lines : Lines) → pending core.hregs core.csrs lines ≡ None → Comes t (attempt r core lines) r after core next) → Ends Stays 0 r core after next
none_at_once t r after core next stopped comes =
    ends_there 0 r after core next (batch_stays t 0 r r after core core next (course_stays core.csrs) refl (batch_starts r core) stopped comes)

-- and one that is made is a row of one
pub made_at_once : (t : Tried) (r after : Region) (core next : Core) → is_made t ≡ true
    → ((lines : Lines) → pending core.hregs core.csrs lines ≡ None → Comes t (attempt r core lines) r after core next) → Ends Stays 1 r core after next
made_at_once t r after core next made comes =
    ends_there 1 r after core next (batch_more t 0 r r after core core next (course_stays core.csrs) refl (batch_starts r core) made comes)

-- what comes of the word that was fetched comes of the attempt
pub comes_fetched : (t : Tried) (r after : Region) (core next : Core) (word was : ℕ) → Fetches r core word → was ≡ word
    → ((lines : Lines) → Comes t (after_word r core lines was) r after core next) → (lines : Lines) → pending core.hregs core.csrs lines ≡ None
    → Comes t (attempt r core lines) r after core next
comes_fetched t r after core next word was fetched is comes = λ lines none.
    subst (λ (a : Attempted). Comes t a r after core next) (ap (after_word r core lines) is ∙ sym (fetched lines none)) (comes lines)
