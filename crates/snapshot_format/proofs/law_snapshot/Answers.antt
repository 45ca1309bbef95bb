use Rattle.snapshot_format.proofs.SnapshotLaws.{snapshot_law}
use Rattle.snapshot_format.proofs.law_snapshot.Goals as goal

pub returns : goal.returns
returns c = snapshot_law
