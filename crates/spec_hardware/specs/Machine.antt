-- The machine that runs the guest, as plain data: a region of host memory, harts with the hypervisor extension, and what
-- SecVisor records. This project's own.
use Rattle.std.specs.Prelude.{ℕ, zero, suc, ◌+◌, Bool, List, [], ◌∷◌, map, Option, Some, None}
use Rattle.spec_processor.specs.Hardware.{Core, Attempted}
use Rattle.sv_types.specs.Policies.{Rules}
use Rattle.spec_processor.specs.Regions.{Region}
use Rattle.spec_processor.specs.Requests.{after_write}
use Rattle.sv_types.specs.declared.event.Counts.{Counts}
use Rattle.spec_processor.specs.declared.outcome.Outcome.{Outcome}
use Rattle.spec_processor.specs.declared.mode.Mode.TheVariants.{Kernel}
use Rattle.sv_types.specs.declared.protection.Protection.{Protection}
use Rattle.sv_types.specs.declared.saved.ModulePlacement.{ModulePlacement}
use Rattle.spec_reference.specs.States.{Devices, Journal}
use Rattle.spec_reference.specs.Counting.{with_count, count_retired, count_trap}

-- a hart of the hardware, and what SecVisor keeps of it: whether it is started, and the entry that it is in
pub record HwHart : Type 0 where
  pub core : Core
  pub started : Bool
  pub entry : Option ℕ

-- a load under way: the page turns that are left, the digests of the pages that were counted, and whether their fields
-- are right
pub record HwLoad : Type 0 where
  pub hart : ℕ
  pub about : ModulePlacement
  pub left : ℕ
  pub digests : List (List ℕ)
  pub right : Bool

pub record Machine : Type 0 where
  pub rules : Rules
  pub region : Region
  pub harts : List HwHart
  -- of each page of RAM
  pub protections : List Protection
  -- whether a device may write each page of RAM
  pub dma : List Bool
  pub loaded : List ModulePlacement
  pub loading : Option HwLoad
  pub retired : Bool
  pub devices : Devices
  pub journal : Journal
  -- how many printed bytes were taken away
  pub cleared : ℕ
  -- the attempts that were made
  pub attempts : ℕ

-- a hart changed in place
unfoldable pub update : List HwHart → ℕ → (HwHart → HwHart) → List HwHart
update [] h change = []
update (hart ∷ harts) zero change = change hart ∷ harts
update (hart ∷ harts) (suc h) change = hart ∷ update harts h change

-- a count raised
abbrev pub with_count_raised : Machine → (Counts → Counts) → Machine
with_count_raised m f = record m { journal = with_count f m.journal }

-- ---- an attempt

-- a reservation that a write touches goes
abbrev pub forgets : ℕ → ℕ → HwHart → HwHart
forgets hpa width hart = record hart { core = record hart.core { reservation = after_write hpa width hart.core.reservation } }

unfoldable pub all_forget : Outcome → List HwHart → List HwHart
all_forget (Outcome.Retired (Some wrote)) harts = map (forgets wrote.hpa wrote.width) harts
all_forget (Outcome.Retired None) harts = harts
all_forget Outcome.GuestTrap harts = harts
all_forget (Outcome.Exit exit) harts = harts

abbrev pub with_core : Core → HwHart → HwHart
with_core core hw = record hw { core = core }

-- the machine after an attempt of hart h
abbrev pub after_attempt : Machine → ℕ → Attempted → Machine
after_attempt m h a = record m {
  region = a.region;
  harts = all_forget a.outcome (update m.harts h (with_core a.core));
  attempts = m.attempts + 1;
}

-- an attempt without an exit is an instruction that is carried out, or a trap of the kernel's
abbrev pub count_outcome : Outcome → Counts → Counts
count_outcome (Outcome.Retired wrote) c = count_retired c
count_outcome Outcome.GuestTrap c = count_trap Kernel c
count_outcome (Outcome.Exit exit) c = c

abbrev pub after_quiet_attempt : Machine → ℕ → Attempted → Machine
after_quiet_attempt m h a = record (after_attempt m h a) { journal = with_count (count_outcome a.outcome) m.journal }
