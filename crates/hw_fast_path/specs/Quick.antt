-- Turns that are made by a shorter way, and what they keep. This project's own.
use Rattle.std.specs.Prelude.{◌≡◌, ℕ, ◌+◌, ◌-◌, ◌<◌, ◌/◌, ◌%◌, ◌^◌, Bool, true, false, List, length, Option, None, Ok}
use Rattle.spec_processor.specs.Bytes.{page_size, instruction_size}
use Rattle.spec_processor.specs.CachedWalks.{FilledUnder}
use Rattle.spec_processor.specs.Hardware.{Core, Attempted}
use Rattle.spec_processor.specs.HardwareMemory.{translation_result}
use Rattle.spec_processor.specs.HardwareAttempt.{after_word, attempt}
use Rattle.spec_processor.specs.HypervisorRegisters.{HypervisorRegisters, pending}
use Rattle.spec_processor.specs.Regions.{Region, IsHostPlace}
use Rattle.spec_processor.specs.declared.access.Access.TheVariants.{Fetch}
use Rattle.spec_processor.specs.declared.cached.CacheLine.{CacheLine}
use Rattle.spec_processor.specs.declared.hregs.HRegs.{HRegs}
use Rattle.spec_processor.specs.declared.lines.Lines.{Lines}
use Rattle.hw_tlb.specs.CacheWalks.{MayWalk, Walked}
use Rattle.hw_tlb.specs.Kept.{ReachAgrees}
use Rattle.hw_tlb.specs.declared.line.Line.{Line}
use Rattle.hart.specs.Conditions.{MayAttempt}
use Rattle.hart.specs.declared.hart.Core.{Core as Kept}
use Rattle.hw_fast_path.specs.Batches.{Carries}
use Rattle.hw_fast_path.specs.declared.tried.Tried.{Tried}
use Rattle.hw_fast_path.specs.declared.tried.Tried.TheVariants.{Stopped, Retired, Stored, ContextChanged}

-- ---- translations

-- accesses may be translated: walks may go through the cache, and every translation that is kept agrees with the tables
pub record MayTranslate (r : Region) (hgatp : ℕ) (lines : List (Option CacheLine)) (kept : List (Option Line)) : Type 0 where
  pub walk : MayWalk r hgatp lines
  pub reach : ReachAgrees r.tables kept

-- translations left the cache and what is kept in agreement with the tables
pub record Translated (tables : List ℕ) (hgatp : ℕ) (before after : List (Option CacheLine)) (kept : List (Option Line)) : Type 0 where
  pub walked : Walked tables hgatp before after
  pub reach : ReachAgrees tables kept

-- ---- turns

-- what no page of an address has for its number
abbrev pub no_page : ℕ
no_page = 2 ^ 64 - 1

-- instructions at the addresses of a page are fetched at the same places of a page of host memory
pub record Leads (r : Region) (core : Core) (page host : ℕ) : Type 0 where
  pub fetches : (va : ℕ) → va < 2 ^ 64 → va / page_size ≡ page → translation_result r core Fetch va 0 ≡ Ok (host + va % page_size)
  pub places : (va : ℕ) → va < 2 ^ 64 → va / page_size ≡ page → va % instruction_size ≡ 0 → IsHostPlace r (host + va % page_size) instruction_size

-- where no interrupt is due, an attempt is of this word
abbrev pub Fetches : Region → Core → ℕ → Type 0
Fetches r core word = (lines : Lines) → pending core.hregs core.csrs lines ≡ None → attempt r core lines ≡ after_word r core lines word

-- what became of a turn: it wasn't made and left all as it was, or its attempt carried out the instruction. Only a store
-- changes the region
abbrev pub Comes : Tried → Attempted → (before after : Region) → (core next : Core) → Type 0
Comes Stopped a before after core next = (after ≡ before) × (next ≡ core)
Comes Retired a before after core next = (after ≡ before) × Carries a after next
Comes Stored a before after core next = Carries a after next
Comes ContextChanged a before after core next = (after ≡ before) × Carries a after next

abbrev pub is_made : Tried → Bool
is_made Stopped = false
is_made Retired = true
is_made Stored = true
is_made ContextChanged = true

-- the registers by which interrupts are taken and addresses are translated stay
pub record SameCourse (before after : HypervisorRegisters) : Type 0 where
  pub status : after.vsstatus ≡ before.vsstatus
  pub first : after.vsatp ≡ before.vsatp
  pub enabled : after.hie ≡ before.hie
  pub raised : after.hvip ≡ before.hvip

-- the turns after it go by the same registers
abbrev pub keeps_course : Tried → Bool
keeps_course Stopped = true
keeps_course Retired = true
keeps_course Stored = true
keeps_course ContextChanged = false

-- what a turn leaves of these registers
abbrev pub Steers : Tried → (before after : HypervisorRegisters) → Type 0
Steers Stopped before after = SameCourse before after
Steers Retired before after = SameCourse before after
Steers Stored before after = SameCourse before after
Steers ContextChanged before after = Unit {0}

-- a hart may go on: it stands at an instruction, in the same mode, without a reservation; the tables and RAM's size stay, and
-- the cache was filled by walks alone
pub record GoesOn (before after : Region) (core next : Kept) (regs : HRegs) (lines held : List (Option CacheLine)) : Type 0 where
  pub ready : MayAttempt after next regs held
  pub free : next.reservation ≡ None
  pub tables : after.tables ≡ before.tables
  pub ram : length after.ram ≡ length before.ram
  pub filled : FilledUnder before.tables regs.hgatp lines held

-- a turn may be tried: an attempt may be made, the hart has no reservation, and every translation that is kept agrees with the tables
pub record MayTurn (r : Region) (core : Kept) (regs : HRegs) (lines : List (Option CacheLine)) (kept : List (Option Line)) : Type 0 where
  pub ready : MayAttempt r core regs lines
  pub free : core.reservation ≡ None
  pub reach : ReachAgrees r.tables kept

-- what a turn that was tried leaves: the hart may go on, by the same registers if it wasn't steered, and what is kept agrees with the tables
pub record Turned (tried : Tried) (before after : Region) (core next : Kept) (regs : HRegs) (lines held : List (Option CacheLine))
    (kept : List (Option Line)) : Type 0 where
  pub on : GoesOn before after core next regs lines held
  pub course : Steers tried core.csrs next.csrs
  pub reach : ReachAgrees after.tables kept
