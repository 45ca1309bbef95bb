-- When booting is refused, and the image that a kernel's file is read into. This project's own.
use Rattle.std.specs.Prelude.{◌≡◌, ◌≢◌, ◌%◌, ℕ, true, false, IsTrue, List, length, None}
use Rattle.sv_types.specs.Kernel.{header_entry, kernel_refusal, kernel_segments, text_of}
use Rattle.sv_types.specs.Measure.{measure}
use Rattle.sv_types.specs.Policies.{Rules, rules_within}
use Rattle.spec_reference.specs.BlockDisk.{sector_size}
use Rattle.spec_reference.specs.States.{State, has_number}
use Rattle.spec_hardware.specs.Machine.{Machine}
use Rattle.spec_hardware.specs.Reaches.{IsNew}
use Rattle.laws_resume.specs.Starts.{journal_at_boot}
use Rattle.laws_resume.specs.TextPages.{text_digests}
use Rattle.elf64_load.specs.Images.{segments_of}
use Rattle.elf64_load.specs.declared.image.KernelImage.{KernelImage}
use Rattle.machine.specs.declared.boot.BootRefusal.{BootRefusal}
use Rattle.machine.specs.declared.boot.BootRefusal.TheVariants.{Measure, Entry, Memory}
use Rattle.machine.specs.declared.machine_start.Booted.{Booted}

-- by the measure exactly where it differs, never by the entry of plain pages, and freely when out of memory
abbrev pub RefusesFlat : List ℕ → List ℕ → BootRefusal → Type 0
RefusesFlat pages wanted (Measure found asked) = (found ≡ measure pages) × (asked ≡ wanted) × (found ≢ wanted)
RefusesFlat pages wanted (Entry entry) = ⊥
RefusesFlat pages wanted Memory = Unit {0}

-- ---- a kernel's image

-- the image that a file is read into, which isn't refused
pub record IsImageOf (file : List ℕ) (ram_pages : ℕ) (image : KernelImage) : Type 0 where
  pub accepted : kernel_refusal file ram_pages ≡ None
  pub entry : image.entry ≡ header_entry file
  pub segments : segments_of image ≡ kernel_segments file

-- some file is
pub record IsRead (ram_pages : ℕ) (image : KernelImage) : Type 0 where
  pub file : List ℕ
  pub is : IsImageOf file ram_pages image

abbrev pub image_text : KernelImage → List ℕ
image_text image = text_of (segments_of image)

-- by the measure of its text exactly where that differs; by its entry where the measure is right and the entry isn't
-- permitted; and freely when out of memory
abbrev pub RefusesImage : KernelImage → Rules → BootRefusal → Type 0
RefusesImage image rules (Measure found asked) = RefusesFlat (image_text image) rules.kernel (Measure found asked)
RefusesImage image rules (Entry entry) =
    (entry ≡ image.entry) × ((has_number rules.entries entry ≡ false) × (measure (image_text image) ≡ rules.kernel))
RefusesImage image rules Memory = Unit {0}

-- ---- the digests of a machine's text

-- these are the digests of the pages that are approved now, ascending
abbrev pub HasDigests : Machine → List (List ℕ) → Type 0
HasDigests m digests = digests ≡ text_digests m.region.ram m.protections

-- ---- a machine of a kernel's image

-- it may be made of an image that was read, under rules within their limits and with a disk of whole sectors
pub record MayBoot (rules : Rules) (image : KernelImage) (disk : List ℕ) : Type 0 where
  pub within : IsTrue (rules_within rules)
  pub read : IsRead rules.ram_pages image
  pub sectors : length disk % sector_size ≡ 0

-- it was, with the digests of its text, and is before its first event. Each file that the image is read of has this start
pub record IsBootOf (start : List ℕ → State) (rules : Rules) (image : KernelImage) (b : Booted) : Type 0 where
  pub new : (file : List ℕ) → IsImageOf file rules.ram_pages image → IsNew b.«machine» (start file)
  pub digests : HasDigests b.«machine» b.digests.items
  pub journal : b.«machine».journal ≡ journal_at_boot
  pub measured : measure (image_text image) ≡ rules.kernel
  pub permitted : has_number rules.entries image.entry ≡ true
