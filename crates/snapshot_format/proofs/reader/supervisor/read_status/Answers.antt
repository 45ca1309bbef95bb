use Rattle.snapshot_format.proofs.ReadRows.{status_read}
use Rattle.snapshot_format.proofs.reader.supervisor.read_status.Goals as goal

pub returns : goal.returns
returns c = status_read (λ x. x.0) (λ x. x.1.now) c.args.bytes.now c.read_row.result c.read_row.ensures
