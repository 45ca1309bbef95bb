use Rattle.std.proofs.Common.{ℕ, List, ◌∙◌, subst, inr, Some}
use Rattle.secvisor_cli.specs.Answers.{AfterSave}
use Rattle.cli_plans.specs.Plans.{Exactly}
use Rattle.cli_snap.proofs.saving.save_snapshot.Goals as goal

pub save_bytes-requires-clause-permitted : goal.save_bytes-requires-clause-permitted
save_bytes-requires-clause-permitted g c = c.requires.permitted _

pub returns : goal.returns
returns g c =
    let made = c.in_ok-bytes.ensures in
    inr (
      made.it,
      made.snapshot_is,
      subst (λ (bytes : List ℕ). AfterSave (Some (record { name = c.args.name.now; content = Exactly bytes })) (g.F.Files.state c.args.files.now)
          (g.F.Files.state c.save_bytes.new.files) c.save_bytes.result)
          (c.deref.ensures.value ∙ made.bytes_are) c.save_bytes.ensures,
    )
