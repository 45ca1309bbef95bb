-- What of a hart changes at a trap and at its return, but for its side. This project's own.
use Rattle.std.specs.Prelude.{ℕ, Bool, None}
use Rattle.spec_processor.specs.HypervisorRegisters.{registers_at_trap, registers_at_return}
use Rattle.spec_processor.specs.Traps.{trap_target}
use Rattle.spec_processor.specs.declared.mode.Mode.{Mode}
use Rattle.hart.specs.declared.hart.Hart.{Hart}

-- in its trap handler, which it came to from a mode
abbrev pub in_handler : Hart → (from : Mode) → (interrupt : Bool) → (cause tval : ℕ) → Hart
in_handler hart from interrupt cause tval = record hart {
  core = record hart.core {
    pc = trap_target hart.core.csrs.vstvec interrupt cause;
    csrs = registers_at_trap hart.core.csrs from hart.core.pc interrupt cause tval;
    reservation = None;
  };
}

-- after its return
abbrev pub back_from_handler : Hart → Hart
back_from_handler hart = record hart {
  core = record hart.core { pc = hart.core.csrs.vsepc; csrs = registers_at_return hart.core.csrs; reservation = None };
}
