-- The state in which a machine starts. This project's own.
use Rattle.std.specs.Prelude.{◌≡◌, ℕ, ◌+◌, ◌-◌, ◌*◌, ◌/◌, ◌^◌, ◌<◌, ◌≤◌, ◌⊎◌, List, [], ◌∷◌, length, replicate, None, true, false, IsTrue}
use Rattle.sv_types.specs.Boot.{no_counts, flat_ram_pages, flat_trap_offset}
use Rattle.spec_processor.specs.Bytes.{with_padding, page_size, ram_base}
use Rattle.sv_types.specs.Clock.{clock_at_boot}
use Rattle.sv_types.specs.Kernel.{header_entry, kernel_refusal, kernel_segments, segments_ram, text_pages}
use Rattle.sv_types.specs.Limits.{plain_format}
use Rattle.sv_types.specs.Policies.{Rules, rules_within}
use Rattle.sv_types.specs.ApprovedPages.{approved_pages, numbers_from}
use Rattle.sv_types.specs.declared.event.Verdict.TheVariants.{Running}
use Rattle.sv_types.specs.declared.block.BlockState.{BlockState}
use Rattle.sv_types.specs.declared.block.BlockStatus.{BlockStatus}
use Rattle.spec_reference.specs.States.{State, Hart, Disk, BlockDisk, VirtioDisk, has_number}
use Rattle.spec_reference.specs.VirtioStores.{reset}
use Rattle.spec_reference.specs.Calls.{hart_at, stopped_hart, integer_registers_at_boot}

abbrev pub block_at_boot : BlockState
block_at_boot = record { sector = 0; gpa = 0; count = 0; status = BlockStatus.Idle }

-- hart 0 at its entry, and the others stopped
abbrev pub harts_at_boot : ℕ → ℕ → List Hart
harts_at_boot harts entry = hart_at entry integer_registers_at_boot ∷ replicate (harts - 1) stopped_hart

-- bytes behind this project's block device, or behind a virtio block device
abbrev pub block_disk : List ℕ → Disk
block_disk bytes = BlockDisk (record { block = block_at_boot; bytes = bytes })

abbrev pub virtio_disk : List ℕ → Disk
virtio_disk bytes = VirtioDisk (reset bytes)

-- RAM with pages approved as they stand there
unfoldable pub start : Rules → (ram text : List ℕ) → ℕ → Disk → State
start rules ram text entry disk = record {
  rules = rules;
  harts = harts_at_boot rules.harts entry;
  ram = ram;
  approved = approved_pages ram text;
  held = [];
  loaded = [];
  loading = None;
  text = text;
  retired = false;
  devices = record { console = []; disk = disk; clock = clock_at_boot };
  journal = record { printed = []; notes = []; counts = no_counts; verdict = Running };
}

-- ---- a machine of plain pages

-- one hart, no modules, and two permitted entries; the digest is the one that is wanted
abbrev pub flat_rules : List ℕ → Rules
flat_rules digest = record {
  format = plain_format;
  harts = 1;
  ram_pages = flat_ram_pages;
  entries = ram_base ∷ (ram_base + flat_trap_offset) ∷ [];
  bound = [];
  exports = [];
  kernel = digest;
  init = None;
  modules = [];
}

-- pages at the start of RAM, all of them approved, where the hart begins; no disk
unfoldable pub flat_start : (pages digest : List ℕ) → State
flat_start pages digest =
    start (flat_rules digest) (with_padding pages (page_size * flat_ram_pages)) (numbers_from 0 (length pages / page_size)) ram_base (block_disk [])

-- ---- a machine of a kernel's image

abbrev pub image_start : Rules → (file : List ℕ) → Disk → State
image_start rules file disk =
    start rules (segments_ram (kernel_segments file) rules.ram_pages) (text_pages (kernel_segments file)) (header_entry file) disk

unfoldable pub boot_start : Rules → (file disk : List ℕ) → State
boot_start rules file disk = image_start rules file (block_disk disk)

unfoldable pub virtio_start : Rules → (file disk : List ℕ) → State
virtio_start rules file disk = image_start rules file (virtio_disk disk)

-- ---- starts

-- the permitted entries are words of 64 bits
abbrev pub AreWords : List ℕ → Type 0
AreWords entries = (entry : ℕ) → has_number entries entry ≡ true → entry < 2 ^ 64

-- pages that aren't longer than RAM
pub record StartsFlat (s : State) : Type 0 where
  pub pages : List ℕ
  pub digest : List ℕ
  pub fits : length pages ≤ page_size * flat_ram_pages
  pub same : s ≡ flat_start pages digest

-- what a boot asks for: a policy within its limits, and an image that isn't refused and begins at a permitted entry
pub record IsBootable (rules : Rules) (file : List ℕ) : Type 0 where
  pub within : IsTrue (rules_within rules)
  pub words : AreWords rules.entries
  pub accepted : kernel_refusal file rules.ram_pages ≡ None
  pub entry : has_number rules.entries (header_entry file) ≡ true

-- the boot of a policy and an image that allow it, with a disk
pub record StartsBy (boot : Rules → (file disk : List ℕ) → State) (s : State) : Type 0 where
  pub rules : Rules
  pub file : List ℕ
  pub disk : List ℕ
  pub bootable : IsBootable rules file
  pub same : s ≡ boot rules file disk

abbrev pub StartsImage : State → Type 0
StartsImage s = StartsBy boot_start s

abbrev pub StartsVirtio : State → Type 0
StartsVirtio s = StartsBy virtio_start s

-- a state in which a machine starts. Whatever text it is measured against, what follows holds
abbrev pub IsStart : State → Type 0
IsStart s = StartsFlat s ⊎ (StartsImage s ⊎ StartsVirtio s)
