-- The disk and its device after each event.
use Rattle.std.proofs.Common.{◌≡◌, ℕ, List, [], ◌∷◌, Bool, subst, sym, inl, inr}
use Rattle.std.specs.Prelude.{Option, Some, None, option_map}
use Rattle.spec_reference.specs.BlockDisk.{block_store}
use Rattle.spec_reference.specs.Disk.{disk_store, disk_beat}
use Rattle.spec_reference.specs.Run.{step}
use Rattle.spec_reference.specs.States.{BlockDevice, Disk, BlockDisk, VirtioDisk}
use Rattle.laws_resume.specs.DiskMoves.{DiskAfter}
use Rattle.laws_resume.proofs.DiskWalk.{disk_after_step}
use Rattle.cli_snap.specs.BlockRuns.{HoldsDisk, BlockLaw}
use Rattle.spec_reference.specs.VirtioDevice.{VirtioDevice}
use Rattle.spec_reference.specs.VirtioStores.{virtio_store}
use Rattle.cli_snap.proofs.BlockStays.{AnyHolds, beat_holds, store_holds}
use Rattle.cli_snap.proofs.VirtioStays.{AnyHoldsVirtio, virtio_stored, virtio_beat_holds}

holds_made : (n : ℕ) (x : Option BlockDevice) (next : Disk) → AnyHolds n x → option_map BlockDisk x ≡ Some next → HoldsDisk n next
holds_made n None next any e = absurd (cc e)
holds_made n (Some b) next any e = let same : BlockDisk b ≡ next = cc in subst (HoldsDisk n) same any

virtio_made : (n : ℕ) (x : Option VirtioDevice) (next : Disk) → AnyHoldsVirtio n x → option_map VirtioDisk x ≡ Some next → HoldsDisk n next
virtio_made n None next any e = absurd (cc e)
virtio_made n (Some b) next any e = let same : VirtioDisk b ≡ next = cc in subst (HoldsDisk n) same any

holds_stored : (n : ℕ) (d next : Disk) (offset width value : ℕ) → disk_store d offset width value ≡ Some next → HoldsDisk n d → HoldsDisk n next
unfolding disk_store
holds_stored n (BlockDisk d) next offset width value e holds =
    holds_made n (block_store d offset width value) next (store_holds d n offset width value holds) e
holds_stored n (VirtioDisk d) next offset width value e holds =
    virtio_made n (virtio_store d offset width value) next (virtio_stored n d offset width value holds) e

holds_dma_step : (n : ℕ) (d : Disk) (ram : List ℕ) (may_write : ℕ → Bool) → HoldsDisk n d → HoldsDisk n (disk_beat d ram may_write).disk
unfolding disk_beat
holds_dma_step n (BlockDisk d) ram may_write holds = beat_holds d n ram may_write holds
holds_dma_step n (VirtioDisk d) ram may_write holds = virtio_beat_holds n d ram may_write holds

holds_after : (n : ℕ) (d next : Disk) → DiskAfter d next → HoldsDisk n d → HoldsDisk n next
holds_after n d next (inl same) holds = subst (HoldsDisk n) (sym same) holds
holds_after n d next (inr (inl s)) holds = holds_stored n d next s.offset s.width s.value s.stored holds
holds_after n d next (inr (inr b)) holds = subst (HoldsDisk n) (sym b.dma_step) (holds_dma_step n d b.ram b.may_write holds)

pub block_law : BlockLaw
block_law s [] n holds = holds
block_law s (e ∷ events) n holds = block_law (step s e) events n (holds_after n s.devices.disk (step s e).devices.disk (disk_after_step s e) holds)
