-- What a run keeps of the disk and of the device that it is behind. This project's own.
use Rattle.std.specs.Prelude.{◌≡◌, ℕ, ◌+◌, ◌*◌, ◌%◌, ◌^◌, ◌<◌, ◌≤◌, List, [], ◌∷◌, length, Option, Some, None}
use Rattle.sv_types.specs.declared.block.BlockState.{BlockState}
use Rattle.sv_types.specs.declared.block.BlockStatus.{BlockStatus}
use Rattle.sv_types.specs.declared.event.Event.{Event}
use Rattle.spec_reference.specs.BlockDisk.{beat_size, sector_size}
use Rattle.spec_reference.specs.Run.{run}
use Rattle.spec_reference.specs.VirtioDevice.{VirtioDevice, Request}
use Rattle.sv_types.specs.declared.virtio.VirtioMove.{VirtioMove}
use Rattle.spec_reference.specs.States.{State, BlockDevice, Disk, BlockDisk, VirtioDisk}

-- A transfer with so many beats done has beats left, goes to an address that is a multiple of a beat's bytes, and lies on a disk
-- of so many bytes.
pub record IsOnDisk (b : BlockState) (done disk_size : ℕ) : Type 0 where
  pub left : beat_size * done < sector_size * b.count
  pub aligned : b.gpa % beat_size ≡ 0
  pub inside : sector_size * (b.sector + b.count) ≤ disk_size

-- a transfer that is under way
abbrev pub Transfers : BlockStatus → BlockState → (disk_size : ℕ) → Type 0
Transfers BlockStatus.Idle b disk_size = Unit {0}
Transfers (BlockStatus.Busy command done) b disk_size = IsOnDisk b done disk_size
Transfers BlockStatus.Done b disk_size = Unit {0}
Transfers BlockStatus.Denied b disk_size = Unit {0}
Transfers BlockStatus.OutOfRange b disk_size = Unit {0}

-- the registers are in their ranges
pub record HoldsBlock (disk_size : ℕ) (b : BlockState) : Type 0 where
  pub sector : b.sector < 2 ^ 64
  pub gpa : b.gpa < 2 ^ 64
  pub count : b.count < 2 ^ 32
  pub transfer : Transfers b.status b disk_size

pub record HoldsDevice (disk_size : ℕ) (d : BlockDevice) : Type 0 where
  pub size : length d.bytes ≡ disk_size
  pub block : HoldsBlock disk_size d.block

-- bytes that a move of a request puts onto the disk lie on it
abbrev pub LiesOn : (disk_size : ℕ) → VirtioMove → Type 0
LiesOn disk_size (VirtioMove.ToMemory gpa place size) = Unit {0}
LiesOn disk_size (VirtioMove.ToDisk gpa place size) = place + size ≤ disk_size
LiesOn disk_size (VirtioMove.PutResult gpa) = Unit {0}
LiesOn disk_size (VirtioMove.PutHead gpa head) = Unit {0}
LiesOn disk_size (VirtioMove.PutLength gpa) = Unit {0}
LiesOn disk_size (VirtioMove.PutIndex gpa index) = Unit {0}

abbrev pub AllLieOn : (disk_size : ℕ) → List VirtioMove → Type 0
AllLieOn disk_size [] = Unit {0}
AllLieOn disk_size (move ∷ moves) = LiesOn disk_size move × AllLieOn disk_size moves

abbrev pub RequestLies : (disk_size : ℕ) → Option Request → Type 0
RequestLies disk_size None = Unit {0}
RequestLies disk_size (Some q) = AllLieOn disk_size q.moves

pub record HoldsVirtio (disk_size : ℕ) (d : VirtioDevice) : Type 0 where
  pub size : length d.bytes ≡ disk_size
  pub moves : RequestLies disk_size d.request

-- a disk of so many bytes behind its device
abbrev pub HoldsDisk : (disk_size : ℕ) → Disk → Type 0
HoldsDisk disk_size (BlockDisk d) = HoldsDevice disk_size d
HoldsDisk disk_size (VirtioDisk d) = HoldsVirtio disk_size d

abbrev pub BlockLaw : Type 0
BlockLaw = (s : State) (events : List Event) (disk_size : ℕ) → HoldsDisk disk_size s.devices.disk → HoldsDisk disk_size (run s events).devices.disk
