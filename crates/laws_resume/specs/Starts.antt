-- The machine before its first event, and that it stands for the start of the reference machine. This project's own.
use Rattle.std.specs.Prelude.{◌≡◌, ℕ, ◌-◌, ◌*◌, ◌/◌, ◌≤◌, Bool, true, false, List, [], ◌∷◌, length, map, replicate, None}
use Rattle.sv_types.specs.Boot.{no_counts, flat_ram_pages}
use Rattle.spec_processor.specs.Bytes.{with_padding, page_size, ram_base}
use Rattle.sv_types.specs.Clock.{clock_at_boot}
use Rattle.spec_processor.specs.HypervisorRegisters.{registers_at_boot}
use Rattle.sv_types.specs.Kernel.{LoadedSegment, header_entry, kernel_segments, segments_ram, text_pages}
use Rattle.sv_types.specs.Policies.{Rules}
use Rattle.spec_processor.specs.Regions.{Region, IsRegion}
use Rattle.spec_processor.specs.IntegerRegisters.{register_count}
use Rattle.sv_types.specs.Views.{AreViews, with_ram}
use Rattle.sv_types.specs.declared.event.Verdict.TheVariants.{Running}
use Rattle.spec_processor.specs.declared.mode.Mode.TheVariants.{Kernel}
use Rattle.sv_types.specs.declared.protection.Protection.{Protection}
use Rattle.sv_types.specs.declared.protection.Protection.TheVariants.{Free, Held, Approved}
use Rattle.sv_types.specs.Protections.{is_free}
use Rattle.spec_reference.specs.Protections.{protection_at, with_pages, with_each}
use Rattle.spec_reference.specs.Start.{IsBootable, block_disk, virtio_disk, flat_rules, flat_start, boot_start, virtio_start}
use Rattle.spec_reference.specs.States.{State, Disk, Journal}
use Rattle.spec_hardware.specs.Machine.{Machine, HwHart}
use Rattle.spec_hardware.specs.Reaches.{IsNew}
use Rattle.spec_hardware.specs.StandsFor.{bound_pages, hregs_in}

-- ---- harts

-- a hart in kernel mode whose registers are all 0
abbrev pub hw_at_boot : ℕ → Bool → HwHart
hw_at_boot pc started = record {
  core = record {
    registers = replicate register_count 0;
    pc = pc;
    csrs = registers_at_boot;
    hregs = hregs_in Kernel None;
    reservation = None;
  };
  started = started;
  entry = None;
}

-- hart 0 at its entry, and the others stopped
abbrev pub hw_harts_at_boot : ℕ → ℕ → List HwHart
hw_harts_at_boot harts entry = hw_at_boot entry true ∷ replicate (harts - 1) (hw_at_boot 0 false)

-- ---- the machine

-- nothing is recorded, and the machine runs
abbrev pub journal_at_boot : Journal
journal_at_boot = record { printed = []; notes = []; counts = no_counts; verdict = Running }

-- nothing is loaded or recorded, no byte printed, and no attempt made
unfoldable pub machine_at_boot : Rules → Region → ℕ → List Protection → Disk → Machine
machine_at_boot rules region entry protections disk = record {
  rules = rules;
  region = region;
  harts = hw_harts_at_boot rules.harts entry;
  protections = protections;
  dma = map is_free protections;
  loaded = [];
  loading = None;
  retired = false;
  devices = record { console = []; disk = disk; clock = clock_at_boot };
  journal = journal_at_boot;
  cleared = 0;
  attempts = 0;
}

-- ---- a machine of plain pages

-- so many pages at the start of RAM were held and then approved
abbrev pub first_approved : ℕ → List Protection
first_approved count = with_pages (with_pages (replicate flat_ram_pages Free) 0 count Held) 0 count Approved

abbrev pub flat_protections : List ℕ → List Protection
flat_protections pages = first_approved (length pages / page_size)

abbrev pub flat_ram : List ℕ → List ℕ
flat_ram pages = with_padding pages (page_size * flat_ram_pages)

-- pages at the start of RAM, where the hart begins; no disk
unfoldable pub flat_machine : (tables pages digest : List ℕ) → Machine
flat_machine tables pages digest =
    machine_at_boot (flat_rules digest) (with_ram tables (flat_ram pages)) ram_base (flat_protections pages) (block_disk [])

-- ---- a machine of a kernel's image

-- the pages of the segments' text are approved
abbrev pub image_protections : ℕ → List LoadedSegment → List Protection
image_protections ram_pages segments = with_each (replicate ram_pages Free) (text_pages segments) Approved

-- an image's segments in RAM, and hart 0 at its entry
unfoldable pub image_machine : List ℕ → Rules → ℕ → List LoadedSegment → Disk → Machine
image_machine tables rules entry segments disk =
    machine_at_boot rules (with_ram tables (segments_ram segments rules.ram_pages)) entry
    (image_protections rules.ram_pages segments) disk

-- ---- the laws

-- the region is one, and its tables hold all views for the protections
pub record IsGuarded (m : Machine) : Type 0 where
  pub region : IsRegion m.region
  pub views : AreViews m.region.tables (length m.protections) (bound_pages m.rules) (protection_at m.protections)

-- a machine of plain pages stands for their start
abbrev pub FlatStartLaw : Type 0
FlatStartLaw = (m : Machine) (pages digest : List ℕ) → length pages ≤ page_size * flat_ram_pages → IsGuarded m
    → m ≡ flat_machine m.region.tables pages digest → IsNew m (flat_start pages digest)

-- a machine of an image under a policy that allow a boot stands for its start
abbrev pub StartLaw : (List ℕ → Disk) → (Rules → (file disk : List ℕ) → State) → Type 0
StartLaw device boot = (m : Machine) (rules : Rules) (file disk : List ℕ)
    → IsBootable rules file → IsGuarded m
    → m ≡ image_machine m.region.tables rules (header_entry file) (kernel_segments file) (device disk)
    → IsNew m (boot rules file disk)

-- with its disk behind this project's block device
abbrev pub ImageStartLaw : Type 0
ImageStartLaw = StartLaw block_disk boot_start

-- with its disk behind a virtio block device
abbrev pub VirtioStartLaw : Type 0
VirtioStartLaw = StartLaw virtio_disk virtio_start
