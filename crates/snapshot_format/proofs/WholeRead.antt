-- What is read is encoded so, and what is encoded is read.
use Rattle.std.proofs.Common.{◌≡◌, ℕ, List, true, Ok, Err, ap, subst, ◌∙◌}
use Rattle.std.specs.Prelude.{IfOk, Result}
use Rattle.snapshot_format.specs.FormLaw.{IsBytes}
use Rattle.snapshot_format.specs.Snapshots.{Contents, contents, snapshot, snapshot_read}
use Rattle.snapshot_format.specs.declared.refusal.SnapRefusal.{SnapRefusal}
use Rattle.snapshot_format.specs.declared.whole.Snapshot.{Snapshot}
use Rattle.snapshot_format.specs.SnapshotLaw.{SnapshotLaw}
use Rattle.snapshot_format.specs.declared.reader.read_error.ReadError.{ReadError}
use Rattle.snapshot_format.specs.Reading.{Reads}

pub encoded : SnapshotLaw → (result : Result Snapshot ReadError) (bytes : List ℕ) → IsBytes bytes → Reads contents result (snapshot_read bytes)
    → IfOk result (λ s. bytes ≡ snapshot.encode (contents s))
encoded law (Ok s) bytes fits read = (law.only bytes (contents s) fits read).0
encoded law (Err e) bytes fits read = tt

pub has : SnapshotLaw → (result : Result Snapshot ReadError) (bytes : List ℕ) → IsBytes bytes → Reads contents result (snapshot_read bytes)
    → IfOk result (λ s. snapshot.has (contents s) ≡ true)
has law (Ok s) bytes fits read = (law.only bytes (contents s) fits read).1
has law (Err e) bytes fits read = tt

pub every : SnapshotLaw → (result : Result Snapshot ReadError) (bytes : List ℕ) → Reads contents result (snapshot_read bytes)
    → (s : Contents) → snapshot.has s ≡ true → bytes ≡ snapshot.encode s → Reads contents result (Ok s)
every law result bytes read s there same =
    subst (λ (r : Result Contents SnapRefusal). Reads contents result r) (ap snapshot_read same ∙ law.again s there) read
