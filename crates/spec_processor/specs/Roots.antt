-- The modes of translation that a root chooses: satp and vsatp for the first stage, hgatp for the second one.
-- RISC-V Privileged manual, "Supervisor Address Translation and Protection (satp) Register"; H extension, "Hypervisor Guest
-- Address Translation and Protection (hgatp) Register".
use Rattle.std.specs.Prelude.{◌≡◌, ◌⊎◌, ℕ, ◌+◌, ◌*◌, ◌/◌, ◌^◌}

-- the mode stands in the highest four bits, and the number of the root's page in the lowest 44
abbrev pub root_mode_shift : ℕ
root_mode_shift = 60

abbrev pub root_page_bits : ℕ
root_page_bits = 44

abbrev pub root_mode : ℕ → ℕ
root_mode root = root / 2 ^ root_mode_shift

-- every address is left as it is
abbrev pub bare_mode : ℕ
bare_mode = 0

-- three levels of tables lead a virtual address of 39 bits
abbrev pub sv39_mode : ℕ
sv39_mode = 8

-- three levels, the first of which is four tables in one, lead a guest-physical address of 41 bits
abbrev pub sv39x4_mode : ℕ
sv39x4_mode = 8

-- the pages of such a root
abbrev pub root_pages : ℕ
root_pages = 4

-- the value of hgatp for a root of this mode, by its VMID and the number of the root's page
abbrev pub guest_root : (vmid page : ℕ) → ℕ
guest_root vmid page = sv39x4_mode * 2 ^ root_mode_shift + (vmid * 2 ^ root_page_bits + page)

abbrev pub IsBare : ℕ → Type 0
IsBare root = root_mode root ≡ bare_mode

-- a mode that satp and vsatp may have
abbrev pub IsFirstStageRoot : ℕ → Type 0
IsFirstStageRoot root = (root_mode root ≡ bare_mode) ⊎ (root_mode root ≡ sv39_mode)

abbrev pub IsSv39x4 : ℕ → Type 0
IsSv39x4 root = root_mode root ≡ sv39x4_mode
