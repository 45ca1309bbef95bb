-- A disk behind a device of one of two kinds: what a load, a store, the line and a beat are of each. This project's own.
use Rattle.std.specs.Prelude.{ℕ, Bool, false, List, Option, option_map, slice_get, unwrap_or}
use Rattle.spec_reference.specs.BlockDisk.{BlockBeat, block_load, block_store, block_line, block_beat}
use Rattle.spec_reference.specs.Move.{Move}
use Rattle.spec_reference.specs.States.{Disk, BlockDisk, VirtioDisk}
use Rattle.spec_reference.specs.VirtioBeats.{VirtioBeat, virtio_beat}
use Rattle.spec_reference.specs.VirtioRegisters.{virtio_load, virtio_line}
use Rattle.spec_reference.specs.VirtioStores.{virtio_store}

-- the bytes of the disk
unfoldable pub disk_bytes : Disk → List ℕ
disk_bytes (BlockDisk d) = d.bytes
disk_bytes (VirtioDisk d) = d.bytes

-- what a load gives; none where no register has that offset and width
unfoldable pub disk_load : Disk → (offset width : ℕ) → Option ℕ
disk_load (BlockDisk d) offset width = block_load d offset width
disk_load (VirtioDisk d) offset width = virtio_load d offset width

-- the device after a store of the low bytes of a value; none where no register has that offset and width
unfoldable pub disk_store : Disk → (offset width value : ℕ) → Option Disk
disk_store (BlockDisk d) offset width value = option_map BlockDisk (block_store d offset width value)
disk_store (VirtioDisk d) offset width value = option_map VirtioDisk (virtio_store d offset width value)

-- the interrupt line
unfoldable pub disk_line : Disk → Bool
disk_line (BlockDisk d) = block_line d
disk_line (VirtioDisk d) = virtio_line d

-- ---- beats

-- the device after a beat, and what it moved
pub record DmaStep : Type 0 where
  pub disk : Disk
  pub move : Move

abbrev pub block_dma_step : BlockBeat → DmaStep
block_dma_step b = record { disk = BlockDisk b.device; move = b.move }

abbrev pub virtio_dma_step : VirtioBeat → DmaStep
virtio_dma_step b = record { disk = VirtioDisk b.device; move = b.move }

-- a beat, where `may_write` tests pages of RAM. RAM may be read everywhere
unfoldable pub disk_beat : Disk → List ℕ → (ℕ → Bool) → DmaStep
disk_beat (BlockDisk d) ram may_write = block_dma_step (block_beat d ram may_write)
disk_beat (VirtioDisk d) ram may_write = virtio_dma_step (virtio_beat d ram may_write)

-- whether a device may write a page, by one bit a page; one past the end may not be written
abbrev pub is_writable : List Bool → ℕ → Bool
is_writable bits page = unwrap_or (slice_get bits page) false
