-- The state of the reference machine, as plain data: what a RISC-V hart has in S and U mode (Unprivileged manual,
-- "Programmers' Model for Base Integer ISA"; Privileged manual, "Supervisor CSRs"), memory, modules, devices and records.
use Rattle.std.specs.Prelude.{ℕ, suc, Bool, true, false, ◌&&◌, ◌||◌, not, List, [], ◌∷◌, map, filter, ◌==◌, nat_lt, if◌then◌else◌, Option}
use Rattle.std.specs.Prelude.{Some, None, option_map, slice_get, slice_set, is_some}
use Rattle.std.specs.List.{list_any}
use Rattle.spec_processor.specs.Bytes.{page_of}
use Rattle.sv_types.specs.ApprovedPages.{ApprovedPage, numbers_from, approved_bytes}
use Rattle.sv_types.specs.Clock.{Clock}
use Rattle.sv_types.specs.Policies.{Rules, ModuleRule}
use Rattle.spec_processor.specs.Registers.{Supervisor}
use Rattle.spec_processor.specs.Traps.{is_kernel}
use Rattle.sv_types.specs.declared.event.Counts.{Counts}
use Rattle.spec_processor.specs.declared.mode.Mode.{Mode}
use Rattle.sv_types.specs.declared.protection.Protection.{Protection}
use Rattle.sv_types.specs.declared.protection.Protection.TheVariants.{Free, Held, Approved}
use Rattle.sv_types.specs.declared.event.Note.{Note}
use Rattle.sv_types.specs.declared.event.Verdict.{Verdict}
use Rattle.sv_types.specs.declared.saved.ModulePlacement.{ModulePlacement}
use Rattle.sv_types.specs.declared.block.BlockState.{BlockState}
use Rattle.spec_reference.specs.VirtioDevice.{VirtioDevice}

pub record Hart : Type 0 where
  pub started : Bool
  pub mode : Mode
  pub pc : ℕ
  pub registers : List ℕ
  pub supervisor : Supervisor
  -- the place in RAM of the 8 aligned bytes that are reserved
  pub reservation : Option ℕ
  -- the entry that it came in by, by its place in the policy's list, for as long as it is in it; none where none is bound
  pub entry : Option ℕ

-- a hart that is stopped runs in no mode
abbrev pub in_kernel : Hart → Bool
in_kernel hart = hart.started && is_kernel hart.mode

-- a load under way, with the page turns that are left
pub record Loading : Type 0 where
  pub hart : ℕ
  pub about : ModulePlacement
  pub left : ℕ

-- this project's block device: its registers with the transfer, and the disk's bytes
pub record BlockDevice : Type 0 where
  pub block : BlockState
  pub bytes : List ℕ

-- the disk, behind a device of one of two kinds
pub data Disk : Type 0 where
  BlockDisk : (device : BlockDevice) → Disk
  VirtioDisk : (device : VirtioDevice) → Disk

-- what stands alongside harts and memory
pub record Devices : Type 0 where
  -- input that waits
  pub console : List ℕ
  pub disk : Disk
  pub clock : Clock

-- what the machine records
pub record Journal : Type 0 where
  pub printed : List ℕ
  -- the first 4,096
  pub notes : List Note
  pub counts : Counts
  pub verdict : Verdict

pub record State : Type 0 where
  pub rules : Rules
  pub harts : List Hart
  pub ram : List ℕ
  pub approved : List ApprovedPage
  -- the pages of the load under way
  pub held : List ℕ
  -- ascending by id
  pub loaded : List ModulePlacement
  pub loading : Option Loading
  -- the pages that were approved at boot
  pub text : List ℕ
  pub retired : Bool
  pub devices : Devices
  pub journal : Journal

-- ---- pages

abbrev pub has_number : List ℕ → ℕ → Bool
has_number list n = list_any (λ m. m == n) list

abbrev pub is_approved_in : List ApprovedPage → ℕ → Bool
is_approved_in approved page = is_some (approved_bytes approved page)

-- an approved page that is held too counts as approved
unfoldable pub protection_by : Bool → Bool → Protection
protection_by true held = Approved
protection_by false true = Held
protection_by false false = Free

unfoldable pub protection_in : List ApprovedPage → List ℕ → ℕ → Protection
protection_in approved held page = protection_by (is_approved_in approved page) (has_number held page)

abbrev pub protection : State → ℕ → Protection
protection r page = protection_in r.approved r.held page

-- of each page of RAM
abbrev pub protections_of : State → List Protection
protections_of r = map (protection r) (numbers_from 0 r.rules.ram_pages)

unfoldable pub is_protected : State → ℕ → Bool
is_protected r page = is_approved_in r.approved page || has_number r.held page

-- the approved pages without some
unfoldable pub without_pages : List ApprovedPage → List ℕ → List ApprovedPage
without_pages approved pages = filter (λ (entry : ApprovedPage). not (has_number pages entry.page)) approved

-- ---- modules

-- the number of pages of a module of the policy, 0 where it has no such one
abbrev pub pages_in_rule : Option ModuleRule → ℕ
pages_in_rule None = 0
pages_in_rule (Some rule) = rule.pages

abbrev pub module_pages : Rules → ModulePlacement → List ℕ
module_pages rules m = numbers_from (page_of m.gpa) (pages_in_rule (slice_get rules.modules m.id))

-- a list of modules that ascends by id, with one more
unfoldable pub with_module : List ModulePlacement → ModulePlacement → List ModulePlacement
with_module [] m = m ∷ []
with_module (first ∷ rest) m = if nat_lt m.id first.id then m ∷ (first ∷ rest) else first ∷ with_module rest m

unfoldable pub find_module : List ModulePlacement → ℕ → Option ModulePlacement
find_module [] id = None
find_module (m ∷ ms) id = if m.id == id then Some m else find_module ms id

abbrev pub without_module : List ModulePlacement → ℕ → List ModulePlacement
without_module modules id = filter (λ (m : ModulePlacement). not (m.id == id)) modules

-- ---- entries that are bound to an address in RAM

pub record Binding : Type 0 where
  pub va : ℕ
  pub gpa : ℕ

abbrev pub binding_of : Option ℕ → Option ℕ → Option Binding
binding_of None gpa = None
binding_of (Some va) None = None
binding_of (Some va) (Some gpa) = Some (record { va = va; gpa = gpa })

-- the entry at a place of the policy's list, where it is bound
unfoldable pub binding_at : Rules → ℕ → Option Binding
binding_at rules i = binding_of (slice_get rules.entries i) (slice_get rules.bound i)

-- the place of the entry with an address, none where none is bound
unfoldable pub place_of_entry : (entries bound : List ℕ) → (va : ℕ) → Option ℕ
place_of_entry [] bound va = None
place_of_entry (first ∷ entries) [] va = None
place_of_entry (first ∷ entries) (gpa ∷ bound) va = if first == va then Some 0 else option_map suc (place_of_entry entries bound va)

-- ---- a part of the state changed

abbrev pub with_hart : State → ℕ → Hart → State
with_hart r h hart = record r { harts = slice_set r.harts h hart }

abbrev pub with_journal : State → Journal → State
with_journal r journal = record r { journal = journal }

abbrev pub without_reservation : Hart → Hart
without_reservation hart = record hart { reservation = None }
