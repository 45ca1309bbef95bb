-- What a root of the G-stage lets a hart see of memory, whatever RAM holds. This project's own, over the G-stage of
-- the RISC-V Privileged manual, H extension, "Two-Stage Address Translation".
use Rattle.std.specs.Prelude.{◌≡◌, ℕ, ◌+◌, ◌*◌, ◌^◌, ◌<◌, Bool, true, false, ◌&&◌, List, length, ◌==◌, if◌then◌else◌, nat_le, nat_lt}
use Rattle.std.specs.Prelude.{Option, Some, None, option_map, slice_get, Result, Err}
use Rattle.spec_processor.specs.Bytes.{ram_base, ram_offset, page_of, page_size}
use Rattle.spec_processor.specs.Regions.{Region}
use Rattle.spec_processor.specs.Translation.{Destination, At, PageFault, Unreadable}
use Rattle.spec_processor.specs.declared.access.Access.{Access}
use Rattle.spec_processor.specs.declared.access.Access.TheVariants.{Fetch, Load, Store}
use Rattle.sv_types.specs.declared.view.View.{View}
use Rattle.sv_types.specs.declared.view.View.TheVariants.{Kernel, User, Entry}
use Rattle.sv_types.specs.declared.protection.Protection.{Protection}
use Rattle.sv_types.specs.declared.protection.Protection.TheVariants.{Free, Held, Approved}
use Rattle.spec_processor.specs.declared.translation.Place.{Place}
use Rattle.spec_processor.specs.declared.translation.Fault.{Fault}
use Rattle.spec_processor.specs.GStage.{walk_guest, place_through, ReadsTablesAlone, guest_address_bits}
use Rattle.spec_processor.specs.Roots.{guest_root, root_pages, root_page_bits}

-- ---- views

-- what a root lets a hart see: kernel mode's memory, user mode's, or what is seen in an entry that is bound to a page
pub data Sight : Type 0 where
  OfKernel : Sight
  OfUser : Sight
  OfEntry : (bound : ℕ) → Sight

-- the accesses that a page of this protection answers. Every page is read, and a free one is written. Kernel mode fetches from
-- approved pages, user mode from the others, and an entry from its own page alone, where that is approved
abbrev pub view_permits : Sight → (page : ℕ) → Protection → Access → Bool
view_permits sight page protection Load = true
view_permits sight page Free Store = true
view_permits sight page Held Store = false
view_permits sight page Approved Store = false
view_permits OfKernel page Approved Fetch = true
view_permits OfKernel page Free Fetch = false
view_permits OfKernel page Held Fetch = false
view_permits OfUser page Approved Fetch = false
view_permits OfUser page Free Fetch = true
view_permits OfUser page Held Fetch = true
view_permits (OfEntry bound) page Approved Fetch = page == bound
view_permits (OfEntry bound) page Free Fetch = false
view_permits (OfEntry bound) page Held Fetch = false

abbrev pub page_in_ram : ℕ → ℕ → Bool
page_in_ram ram_pages gpa = nat_le ram_base gpa && nat_lt (page_of gpa) ram_pages

-- the host place of a gpa in RAM, after the table part; nothing outside RAM
unfoldable pub view_answer : ℕ → ℕ → Sight → (ℕ → Protection) → ℕ → Access → Option ℕ
view_answer table_bytes ram_pages sight protections gpa access =
    if page_in_ram ram_pages gpa && view_permits sight (page_of gpa) (protections (page_of gpa)) access
    then Some (table_bytes + ram_offset gpa) else None

abbrev pub with_ram : List ℕ → List ℕ → Region
with_ram tables ram = record { tables = tables; ram = ram }

-- whatever RAM holds, every gpa of 64 bits is answered as the view says, and each walk reads the tables alone
pub record IsView (tables : List ℕ) (ram_pages : ℕ) (protections : ℕ → Protection) (sight : Sight) (hgatp : ℕ) : Type 0 where
  pub answers : (ram : List ℕ) (gpa : ℕ) (access : Access) → length ram ≡ page_size * ram_pages → gpa < 2 ^ 64 →
      walk_guest (with_ram tables ram) hgatp gpa access ≡ view_answer (length tables) ram_pages sight protections gpa access
  pub reads : (ram : List ℕ) (gpa : ℕ) (access : Access) → length ram ≡ page_size * ram_pages → gpa < 2 ^ guest_address_bits →
      ReadsTablesAlone (with_ram tables ram) hgatp gpa access

-- what a view makes of where the first stage leads
abbrev pub under_view : ℕ → ℕ → Sight → (ℕ → Protection) → Access → Destination → Result Place Fault
under_view table_bytes ram_pages sight protections access (At gpa) = place_through gpa (view_answer table_bytes ram_pages sight protections gpa access)
under_view table_bytes ram_pages sight protections access PageFault = Err Fault.Page
under_view table_bytes ram_pages sight protections access (Unreadable entry) = Err (Fault.Guest entry true)

-- ---- the roots

-- the hgatp values: each view has a VMID of its own, from 1 on, and the roots lie one after the other from host page 0 on
abbrev pub view_hgatp : View → ℕ
view_hgatp Kernel = guest_root 1 0
view_hgatp User = guest_root 2 root_pages
view_hgatp (Entry i) = guest_root 3 (2 * root_pages) + (2 ^ root_page_bits + root_pages) * i

-- what each root lets a hart see, given the pages that entries are bound to. No entry, no root
abbrev pub sight_of : (bound : List ℕ) → View → Option Sight
sight_of bound Kernel = Some OfKernel
sight_of bound User = Some OfUser
sight_of bound (Entry i) = option_map OfEntry (slice_get bound i)

-- each root shows what it is to show
pub record AreViews (tables : List ℕ) (ram_pages : ℕ) (bound : List ℕ) (protections : ℕ → Protection) : Type 0 where
  pub each : (view : View) (sight : Sight) → sight_of bound view ≡ Some sight → IsView tables ram_pages protections sight (view_hgatp view)

-- the protections with that of one page changed
abbrev pub protect : (ℕ → Protection) → ℕ → Protection → ℕ → Protection
protect protections page protection p = if p == page then protection else protections p

abbrev pub all_free : ℕ → Protection
all_free page = Free
