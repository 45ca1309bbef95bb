-- When the bytes of a snapshot are read again as they were. This project's own.
use Rattle.std.specs.Prelude.{◌≡◌, ℕ, ◌%◌, ◌≤◌, List, length, Ok}
use Rattle.sv_types.specs.Limits.{max_disk_bytes, max_events}
use Rattle.sv_types.specs.Policies.{Rules}
use Rattle.sv_types.specs.Schedule.{Schedule, first_events}
use Rattle.spec_reference.specs.BlockDisk.{sector_size}
use Rattle.snapshot_format.specs.Snapshots.{contents, snapshot, snapshot_read}
use Rattle.snapshot_format.specs.declared.whole.Snapshot.{Snapshot}
use Rattle.laws_resume.specs.SnapLaws.{Boot, IsMeasuredBoot, IsSnapshotOf}

-- a disk that a plan doesn't refuse: whole sectors, within the limit
pub record IsDisk (disk : List ℕ) : Type 0 where
  pub sectors : length disk % sector_size ≡ 0
  pub few : length disk ≤ max_disk_bytes

-- What `snap` saves of a run from a measured boot is read again as it was.
abbrev pub SnapFileLaw : Boot → Type 0
SnapFileLaw boot = (rules : Rules) (file disk : List ℕ) (script : Schedule) (k : ℕ) (s : Snapshot) → IsMeasuredBoot rules file → IsDisk disk → k ≤ max_events
    → IsSnapshotOf (boot rules file disk) (first_events k script) s → snapshot_read (snapshot.encode (contents s)) ≡ Ok (contents s)
