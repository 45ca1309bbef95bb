-- The law of snapshots: reading and writing are each other's inverse. This project's own.
use Rattle.std.specs.Prelude.{◌≡◌, ℕ, List, true, Ok}
use Rattle.snapshot_format.specs.FormLaw.{IsBytes}
use Rattle.snapshot_format.specs.Snapshots.{Contents, snapshot, snapshot_read}

pub record SnapshotLaw : Type 0 where
  -- what has an encoding is read from it
  pub again : (s : Contents) → snapshot.has s ≡ true → snapshot_read (snapshot.encode s) ≡ Ok s
  -- what is read is encoded so, each byte of it
  pub only : (bytes : List ℕ) (s : Contents) → IsBytes bytes → snapshot_read bytes ≡ Ok s → (bytes ≡ snapshot.encode s) × (snapshot.has s ≡ true)
