use Rattle.std.proofs.Common.{List, ℕ, subst}
use Rattle.snapshot_format.specs.Snapshots.{contents, snapshot_read}
use Rattle.snapshot_format.specs.declared.whole.Snapshot.{Snapshot}
use Rattle.secvisor_cli.specs.Ready.{Staged}
use Rattle.secvisor_cli.proofs.ReadyLemmas.{err_by}
use Rattle.cli_snap.specs.ResumePlans.{snapshot_part}
use Rattle.cli_snap.specs.ResumeReady.{IsSnapshot}
use Rattle.cli_snap.proofs.StageLemmas.{snapshot_unread, snapshot_staged}
use Rattle.cli_snap.proofs.resume.snapshot_file.read_snapshot.Goals as goal

pub read_part-requires-clause-permitted : goal.read_part-requires-clause-permitted
unfolding snapshot_part
read_part-requires-clause-permitted g c = c.requires.permitted.may.0

pub returns-in_err-bytes-clause-stage : goal.returns-in_err-bytes-clause-stage
returns-in_err-bytes-clause-stage g c =
    err_by _ c.in_err-bytes.field-0.0 (λ r. Staged {T = Snapshot} (snapshot_part c.args.name.now) contents (g.F.Files.state c.args.files.now) (g.F.Files.state c.read_part.new.files) r)
    c.from_residual.ensures.1 (snapshot_unread _ _ _ c.in_err-bytes.field-0.0 c.in_err-bytes.ensures)

pub returns-clause-stage : goal.returns-clause-stage
returns-clause-stage g c =
    snapshot_staged c.args.name.now c.in_ok-bytes.bytes.items _ _ c.judge_snapshot.result c.in_ok-bytes.ensures
    (subst (λ (b : List ℕ). IsSnapshot (snapshot_read b) c.judge_snapshot.result) c.deref.ensures.value c.judge_snapshot.ensures.snapshot)
