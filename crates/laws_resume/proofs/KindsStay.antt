-- The device that the disk is behind, after each event.
use Rattle.std.proofs.Common.{◌≡◌, ℕ, List, [], ◌∷◌, Bool, refl, ◌∙◌, ap, subst, inl, inr}
use Rattle.std.specs.Prelude.{Option, Some, None, option_map}
use Rattle.spec_reference.specs.BlockDisk.{block_store}
use Rattle.spec_reference.specs.Disk.{disk_store, disk_beat}
use Rattle.spec_reference.specs.Run.{step}
use Rattle.spec_reference.specs.States.{Disk, BlockDisk, VirtioDisk}
use Rattle.spec_reference.specs.VirtioStores.{virtio_store}
use Rattle.laws_resume.specs.DiskKinds.{is_block_disk, KindLaw}
use Rattle.laws_resume.specs.DiskMoves.{DiskAfter}
use Rattle.laws_resume.proofs.DiskWalk.{disk_after_step}

-- all that are made so are of one kind
kind_made : {A : Type 0} (make : A → Disk) (kind : Bool) (x : Option A) (next : Disk) → ((a : A) → is_block_disk (make a) ≡ kind) → option_map make x ≡ Some next
    → is_block_disk next ≡ kind
kind_made make kind None next all e = cc
kind_made make kind (Some a) next all e = let same : make a ≡ next = cc in subst (λ (d : Disk). is_block_disk d ≡ kind) same (all a)

kind_stored : (d next : Disk) (offset width value : ℕ) → disk_store d offset width value ≡ Some next → is_block_disk next ≡ is_block_disk d
unfolding disk_store
kind_stored (BlockDisk d) next offset width value e = kind_made BlockDisk _ (block_store d offset width value) next (λ a. refl) e
kind_stored (VirtioDisk d) next offset width value e = kind_made VirtioDisk _ (virtio_store d offset width value) next (λ a. refl) e

kind_dma_step : (d : Disk) (ram : List ℕ) (may_write : ℕ → Bool) → is_block_disk (disk_beat d ram may_write).disk ≡ is_block_disk d
unfolding disk_beat
kind_dma_step (BlockDisk d) ram may_write = refl
kind_dma_step (VirtioDisk d) ram may_write = refl

kind_after : (d next : Disk) → DiskAfter d next → is_block_disk next ≡ is_block_disk d
kind_after d next (inl same) = ap is_block_disk same
kind_after d next (inr (inl s)) = kind_stored d next s.offset s.width s.value s.stored
kind_after d next (inr (inr b)) = ap is_block_disk b.dma_step ∙ kind_dma_step d b.ram b.may_write

pub kind_law : KindLaw
kind_law s [] = refl
kind_law s (e ∷ events) = kind_law (step s e) events ∙ kind_after s.devices.disk (step s e).devices.disk (disk_after_step s e)
