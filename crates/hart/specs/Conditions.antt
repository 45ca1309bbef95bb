-- What an attempt asks of a core, its cache and the host's memory, and what it keeps of them. This project's own.
use Rattle.std.specs.Prelude.{◌≡◌, ◌%◌, List, Option, true}
use Rattle.spec_processor.specs.Regions.{Region}
use Rattle.spec_processor.specs.declared.cached.CacheLine.{CacheLine}
use Rattle.spec_processor.specs.declared.hregs.HRegs.{HRegs}
use Rattle.spec_processor.specs.declared.mode.Mode.TheVariants.{User}
use Rattle.hw_tlb.specs.CacheWalks.{MayWalk, Walked}
use Rattle.hart.specs.declared.hart.Core.{Core as Kept}
use Rattle.spec_processor.specs.Bytes.{instruction_size}

-- ---- what is asked

-- no attempt changes the mode: user mode has nothing delegated, and no SRET is carried out
pub record KeepsMode (regs : HRegs) : Type 0 where
  pub exceptions : regs.mode ≡ User → regs.hedeleg ≡ 0
  pub interrupts : regs.mode ≡ User → regs.hideleg ≡ 0
  pub returns : regs.vtsr ≡ true

-- a core stands at an instruction, in a mode that it keeps
pub record MayStep (core : Kept) (regs : HRegs) : Type 0 where
  pub aligned : core.pc % instruction_size ≡ 0
  pub mode : KeepsMode regs

-- a core that may step, whose memory is reached by walks through the cache
pub record MayAttempt (r : Region) (core : Kept) (regs : HRegs) (lines : List (Option CacheLine)) : Type 0 where
  pub step : MayStep core regs
  pub walk : MayWalk r regs.hgatp lines

-- ---- what is kept

-- the pc is again that of an instruction, the tables are as they were, and the cache agrees with them
pub record StaysReady (before after : Region) (core : Kept) (regs : HRegs) (lines held : List (Option CacheLine)) : Type 0 where
  pub pc : core.pc % instruction_size ≡ 0
  pub tables : after.tables ≡ before.tables
  pub walked : Walked before.tables regs.hgatp lines held
