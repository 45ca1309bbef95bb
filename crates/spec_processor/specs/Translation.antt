-- Address translation by one stage of page tables, and the plain translation over flat guest RAM.
-- RISC-V Privileged manual, "Sv39: Page-Based 39-bit Virtual-Memory System", with "Virtual Address
-- Translation Process" of Sv32 and "Supervisor Address Translation and Protection (satp) Register".
use Rattle.std.specs.Prelude.{ℕ, ◌+◌, ◌*◌, ◌/◌, ◌%◌, ◌^◌, ◌-◌, Bool, not, ◌&&◌, ◌||◌, List, [], ◌∷◌, length, ◌==◌, if◌then◌else◌, Option, Some, None}
use Rattle.spec_processor.specs.Bits.{bit}
use Rattle.spec_processor.specs.Bytes.{word, in_ram, ram_offset, page_size}
use Rattle.spec_processor.specs.Instructions.{bits}
use Rattle.spec_processor.specs.Roots.{root_mode, root_page_bits, bare_mode}
use Rattle.spec_processor.specs.declared.access.Access.{Access}
use Rattle.spec_processor.specs.declared.access.Access.TheVariants.{Fetch, Load, Store}
use Rattle.spec_processor.specs.declared.mode.Mode.{Mode}
use Rattle.spec_processor.specs.declared.mode.Mode.TheVariants.{Kernel, User}

-- where a stage leads
pub data Destination : Type 0 where
  At : (address : ℕ) → Destination
  PageFault : Destination
  -- a table entry that can't be read, and its address
  Unreadable : (entry : ℕ) → Destination

-- what a first stage goes by
pub record Settings : Type 0 where
  pub satp : ℕ
  pub sum : Bool
  pub mxr : Bool

-- ---- table entries

-- the levels of tables, the entries of a table, and the bytes of an entry
abbrev pub table_levels : ℕ
table_levels = 3

abbrev pub entry_size : ℕ
entry_size = 8

abbrev pub table_entries : ℕ
table_entries = 512

-- ---- the bits of a table entry

-- the places of its flags: V, R, W, X, U, A and D
abbrev pub valid_place : ℕ
valid_place = 0

abbrev pub readable_place : ℕ
readable_place = 1

abbrev pub writable_place : ℕ
writable_place = 2

abbrev pub executable_place : ℕ
executable_place = 3

abbrev pub user_place : ℕ
user_place = 4

abbrev pub accessed_place : ℕ
accessed_place = 6

abbrev pub dirty_place : ℕ
dirty_place = 7

-- the number of a page stands below the reserved bits
abbrev pub page_number_shift : ℕ
page_number_shift = 10

abbrev pub reserved_shift : ℕ
reserved_shift = 54

abbrev pub entry_valid : ℕ → Bool
entry_valid e = bit e valid_place

abbrev pub entry_readable : ℕ → Bool
entry_readable e = bit e readable_place

abbrev pub entry_writable : ℕ → Bool
entry_writable e = bit e writable_place

abbrev pub entry_executable : ℕ → Bool
entry_executable e = bit e executable_place

abbrev pub entry_user : ℕ → Bool
entry_user e = bit e user_place

abbrev pub entry_accessed : ℕ → Bool
entry_accessed e = bit e accessed_place

abbrev pub entry_dirty : ℕ → Bool
entry_dirty e = bit e dirty_place

-- the number of the page that an entry names, and the page
abbrev pub entry_page_number : ℕ → ℕ
entry_page_number e = bits e page_number_shift reserved_shift

abbrev pub entry_page : ℕ → ℕ
entry_page e = page_size * entry_page_number e

-- V is set, W comes with R, and the reserved bits are 0
unfoldable pub well_formed : ℕ → Bool
well_formed e = entry_valid e && (not (entry_writable e) || entry_readable e) && e / 2 ^ reserved_shift == 0

-- it names the next table
unfoldable pub is_pointer : ℕ → Bool
is_pointer e = well_formed e && not (entry_readable e) && not (entry_executable e)
    && not (entry_user e) && not (entry_accessed e) && not (entry_dirty e)

-- it maps a page, or a larger block with so many levels below it
unfoldable pub is_leaf : ℕ → ℕ → Bool
is_leaf below e = well_formed e && (entry_readable e || entry_executable e) && entry_page_number e % table_entries ^ below == 0

-- the address that a leaf gives
abbrev pub leaf_address : ℕ → ℕ → ℕ → ℕ
leaf_address below e address = entry_page e + address % (page_size * table_entries ^ below)

-- ---- the walk

-- what entry e gives with so many levels below it, where it is no pointer
abbrev pub at_leaf : (ℕ → Bool) → ℕ → ℕ → ℕ → Destination
at_leaf grants below e address = if is_leaf below e && grants e then At (leaf_address below e address) else PageFault

-- what an entry that was read gives; `deeper` goes on from the table that a pointer names
abbrev pub at_entry : (ℕ → Bool) → ℕ → ℕ → (ℕ → Destination) → ℕ → Option ℕ → Destination
at_entry grants below at deeper address None = Unreadable at
at_entry grants below at deeper address (Some e) =
    if is_pointer e then deeper (entry_page e) else at_leaf grants below e address

-- the entry at each index in turn, from the root on: the first that is no pointer decides. `read` gives the
-- entry at an address, none where it can't be read, and `grants` says whether a leaf permits the access
unfoldable pub walk : (ℕ → Option ℕ) → (ℕ → Bool) → List ℕ → ℕ → ℕ → Destination
walk read grants [] table address = PageFault
walk read grants (index ∷ indices) table address =
    at_entry grants (length indices) (table + entry_size * index) (λ next. walk read grants indices next address) address (read (table + entry_size * index))

-- the bits of a place in a page, and of an index
abbrev pub page_bits : ℕ
page_bits = 12

abbrev pub index_bits : ℕ
index_bits = 9

-- the pages that an address of 64 bits can name
abbrev pub address_pages : ℕ
address_pages = 2 ^ (64 - page_bits)

-- the index of an address into the table with so many levels below it
abbrev pub index_of : (address below : ℕ) → ℕ
index_of address below = bits address (page_bits + index_bits * below) (page_bits + index_bits + index_bits * below)

-- the indices of a virtual address, of the root first
abbrev pub sv39_indices : ℕ → List ℕ
sv39_indices va = index_of va 2 ∷ index_of va 1 ∷ index_of va 0 ∷ []

-- the bits above this one are as it is
abbrev pub sign_bit : ℕ
sign_bit = 38

abbrev pub is_canonical : ℕ → Bool
is_canonical va = va / 2 ^ sign_bit == 0 || va / 2 ^ sign_bit == 2 ^ (64 - sign_bit) - 1

-- user mode needs U; kernel mode never fetches from U pages, and reads and writes them only with SUM
abbrev pub mode_may : Settings → Mode → Access → ℕ → Bool
mode_may s User access e = entry_user e
mode_may s Kernel Fetch e = not (entry_user e)
mode_may s Kernel Load e = not (entry_user e) || s.sum
mode_may s Kernel Store e = not (entry_user e) || s.sum

abbrev pub right_for : Settings → Access → ℕ → Bool
right_for s Fetch e = entry_executable e
right_for s Load e = entry_readable e || entry_executable e && s.mxr
right_for s Store e = entry_writable e && entry_dirty e

unfoldable pub permits_access : Settings → Mode → Access → ℕ → Bool
permits_access s mode access e = entry_accessed e && right_for s access e && mode_may s mode access e

-- the root that satp or hgatp names
abbrev pub root_of : ℕ → ℕ
root_of atp = page_size * bits atp 0 root_page_bits

-- a first stage over whatever gives its entries
unfoldable pub first_stage : (ℕ → Option ℕ) → Settings → Mode → ℕ → Access → Destination
first_stage read s mode va access =
    if root_mode s.satp == bare_mode then At va
    else if is_canonical va then walk read (permits_access s mode access) (sv39_indices va) (root_of s.satp) va
    else PageFault

-- ---- over flat RAM

-- the entry at a guest-physical address, none outside RAM
unfoldable pub entry_in_ram : List ℕ → ℕ → Option ℕ
entry_in_ram ram gpa = if in_ram ram gpa entry_size then Some (word ram (ram_offset gpa) entry_size) else None

unfoldable pub place : List ℕ → Settings → Mode → ℕ → Access → Destination
place ram s mode va access = first_stage (entry_in_ram ram) s mode va access
