use Rattle.snapshot_format.specs.Snapshots.{contents}
use Rattle.laws_resume.proofs.FormParts.{parts_of}
use Rattle.machine.proofs.resume.judge.Goals as goal

pub resume_refusal-requires-clause-ram : goal.resume_refusal-requires-clause-ram
resume_refusal-requires-clause-ram g c κs within = (parts_of (contents c.args.snapshot.now) c.requires.form).ram
