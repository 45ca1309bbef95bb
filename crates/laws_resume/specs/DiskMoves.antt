-- What an event does to the disk: nothing, or a store of a hart into its device, or a beat. This project's own.
use Rattle.std.specs.Prelude.{◌≡◌, ◌⊎◌, ℕ, List, Bool, Some}
use Rattle.spec_reference.specs.Disk.{disk_store, disk_beat}
use Rattle.spec_reference.specs.States.{Disk}

pub record IsStored (old new : Disk) : Type 0 where
  pub offset : ℕ
  pub width : ℕ
  pub value : ℕ
  pub stored : disk_store old offset width value ≡ Some new

pub record IsDmaStep (old new : Disk) : Type 0 where
  pub ram : List ℕ
  pub may_write : ℕ → Bool
  pub dma_step : new ≡ (disk_beat old ram may_write).disk

abbrev pub DiskAfter : Disk → Disk → Type 0
DiskAfter old new = (new ≡ old) ⊎ (IsStored old new ⊎ IsDmaStep old new)
