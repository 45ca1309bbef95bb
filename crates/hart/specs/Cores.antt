-- What a hart keeps and its hypervisor registers, as the hardware's attempt sees them. This project's own.
use Rattle.std.specs.Prelude.{ℕ, ◌^◌}
use Rattle.spec_processor.specs.Regions.{Region}
use Rattle.spec_processor.specs.Hardware.{Core, Step, Attempted}
use Rattle.spec_processor.specs.declared.outcome.Outcome.{Outcome}
use Rattle.spec_processor.specs.declared.hregs.HRegs.{HRegs}
use Rattle.hart.specs.declared.hart.Core.{Core as Kept}

abbrev pub core_of : Kept → HRegs → Core
core_of core regs = record {
  registers = core.regs;
  pc = core.pc;
  csrs = core.csrs;
  hregs = regs;
  reservation = core.reservation;
}

-- a core after a call, and what it answered
abbrev pub step_of : Kept → HRegs → Outcome → Step
step_of core regs outcome = record { core = core_of core regs; outcome = outcome }

-- the same with the region's bytes
abbrev pub attempted_of : Region → Kept → HRegs → Outcome → Attempted
attempted_of r core regs outcome = record { region = r; core = core_of core regs; outcome = outcome }

-- the places for words that are kept with their instructions, one for each place of an instruction modulo 256 KiB
abbrev pub word_places : ℕ
word_places = 2 ^ 16
