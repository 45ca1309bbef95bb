-- The G-stage of translation, and both stages together.
-- RISC-V Privileged manual, H extension: "Two-Stage Address Translation", "Guest Physical Address Translation",
-- "Hypervisor Guest Address Translation and Protection (hgatp) Register"; Sv39x4.
use Rattle.std.specs.Prelude.{◌≡◌, ℕ, ◌+◌, ◌-◌, ◌*◌, ◌/◌, ◌^◌, ◌<◌, ◌≤◌, Bool, true, false, ◌&&◌, List, [], ◌∷◌, length, ◌==◌}
use Rattle.std.specs.Prelude.{if◌then◌else◌, nat_le, Option, Some, None, Result, Ok, Err}
use Rattle.spec_processor.specs.Bytes.{word}
use Rattle.spec_processor.specs.Regions.{Region, host_word}
use Rattle.spec_processor.specs.Instructions.{bits}
use Rattle.spec_processor.specs.Translation.{Destination, At, PageFault, Unreadable, Settings, walk, root_of, first_stage, entry_user}
use Rattle.spec_processor.specs.Translation.{entry_accessed, entry_dirty, entry_readable, entry_writable, entry_executable, entry_size}
use Rattle.spec_processor.specs.Translation.{page_bits, index_bits, index_of}
use Rattle.spec_processor.specs.declared.access.Access.{Access}
use Rattle.spec_processor.specs.declared.access.Access.TheVariants.{Fetch, Load, Store}
use Rattle.spec_processor.specs.declared.mode.Mode.{Mode}
use Rattle.spec_processor.specs.declared.translation.Place.{Place}
use Rattle.spec_processor.specs.declared.translation.Fault.{Fault}

-- ---- the G-stage

-- the bits of a guest-physical address
abbrev pub guest_address_bits : ℕ
guest_address_bits = 41

-- what htval counts such addresses in: their two lowest bits aren't kept
abbrev pub htval_unit : ℕ
htval_unit = 4

-- the pages that such an address can name
abbrev pub guest_pages : ℕ
guest_pages = 2 ^ (guest_address_bits - page_bits)

-- the indices of a guest-physical address: the root has four tables in one
abbrev pub sv39x4_indices : ℕ → List ℕ
sv39x4_indices gpa = bits gpa (page_bits + index_bits * 2) guest_address_bits ∷ index_of gpa 1 ∷ index_of gpa 0 ∷ []

abbrev pub guest_right : Access → ℕ → Bool
guest_right Fetch e = entry_executable e
guest_right Load e = entry_readable e
guest_right Store e = entry_writable e && entry_dirty e

-- every access counts as one of user mode
unfoldable pub permits_guest : Access → ℕ → Bool
permits_guest access e = entry_user e && entry_accessed e && guest_right access e

-- the entry at a host place. One that isn't whole in the region counts as one with V clear
unfoldable pub host_entry : Region → ℕ → ℕ
host_entry r at = if nat_le (at + entry_size) (length r.tables + length r.ram) then host_word r at entry_size else 0

abbrev pub entry_in_region : Region → ℕ → Option ℕ
entry_in_region r at = Some (host_entry r at)

-- the address, where there is one
abbrev pub address_at : Destination → Option ℕ
address_at (At address) = Some address
address_at PageFault = None
address_at (Unreadable entry) = None

-- the host place of a guest-physical address, none where the access faults
unfoldable pub walk_guest : Region → ℕ → ℕ → Access → Option ℕ
walk_guest r hgatp gpa access =
    if gpa / 2 ^ guest_address_bits == 0
    then address_at (walk (entry_in_region r) (permits_guest access) (sv39x4_indices gpa) (root_of hgatp) gpa)
    else None

-- ---- both stages

-- the entry at the host place of a guest-physical address, if it has one
abbrev pub entry_there : Region → Option ℕ → Option ℕ
entry_there r None = None
entry_there r (Some at) = Some (host_word r at entry_size)

-- a first-stage entry is read where the G-stage leads as a load
unfoldable pub entry_through : Region → ℕ → ℕ → Option ℕ
entry_through r hgatp gpa = entry_there r (walk_guest r hgatp gpa Load)

abbrev pub place_through : ℕ → Option ℕ → Result Place Fault
place_through gpa None = Err (Fault.Guest gpa false)
place_through gpa (Some hpa) = Ok (record { gpa = gpa; hpa = hpa })

-- the G-stage after what the first one gave
unfoldable pub after_first_stage : Region → ℕ → Access → Destination → Result Place Fault
after_first_stage r hgatp access (At gpa) = place_through gpa (walk_guest r hgatp gpa access)
after_first_stage r hgatp access PageFault = Err Fault.Page
after_first_stage r hgatp access (Unreadable entry) = Err (Fault.Guest entry true)

-- the place of a virtual address, or the fault
unfoldable pub two_stages : Region → ℕ → Settings → Mode → ℕ → Access → Result Place Fault
two_stages r hgatp s mode va access = after_first_stage r hgatp access (first_stage (entry_through r hgatp) s mode va access)

-- every guest-physical address that walks under a root walks to a byte of the region
pub record WalksInside (r : Region) (hgatp : ℕ) : Type 0 where
  pub inside : (gpa hpa : ℕ) (access : Access) → walk_guest r hgatp gpa access ≡ Some hpa → hpa < length r.tables + length r.ram

-- ---- walks of the tables alone

-- the entry at a host place in the tables, none elsewhere
unfoldable pub entry_in_tables : List ℕ → ℕ → Option ℕ
entry_in_tables tables at = if nat_le (at + entry_size) (length tables) then Some (word tables at entry_size) else None

-- where a G-stage walk over a reader of entries leads
abbrev pub guest_destination : (ℕ → Option ℕ) → ℕ → ℕ → Access → Destination
guest_destination read hgatp gpa access = walk read (permits_guest access) (sv39x4_indices gpa) (root_of hgatp) gpa

-- a walk reads entries of the tables alone: where no other entry can be read, it leads to the same place
abbrev pub ReadsTablesAlone : Region → (hgatp gpa : ℕ) → Access → Type 0
ReadsTablesAlone r hgatp gpa access =
    guest_destination (entry_in_tables r.tables) hgatp gpa access ≡ guest_destination (entry_in_region r) hgatp gpa access

-- every walk under a root reads the tables alone, and leads to RAM
pub record WalksApart (r : Region) (hgatp : ℕ) : Type 0 where
  pub reads : (gpa : ℕ) (access : Access) → gpa < 2 ^ guest_address_bits → ReadsTablesAlone r hgatp gpa access
  pub leads : (gpa hpa : ℕ) (access : Access) → walk_guest r hgatp gpa access ≡ Some hpa → (length r.tables ≤ hpa) × (hpa < length r.tables + length r.ram)
