use Rattle.std.proofs.Common.{arith}
use Rattle.std.specs.Option.{option_copied}
use Rattle.sv_types.specs.Policies.{rules_of}
use Rattle.snapshot_format.specs.Snapshots.{contents}
use Rattle.snapshot_format.specs.Judgements.{resume_refusal}
use Rattle.secvisor_cli.proofs.ReadyLemmas.{err_by}
use Rattle.cli_snap.specs.ResumePlans.{events_after, resumed_due}
use Rattle.cli_snap.specs.ResumeReady.{IsResumed}
use Rattle.cli_snap.proofs.StageLemmas.{resumed_ready, resumed_stop}
use Rattle.cli_snap.proofs.resume.ready.go_on.Goals as goal

pub returns-in_err-machine : goal.returns-in_err-machine
returns-in_err-machine g c =
    err_by _ c.in_err-machine.field-0.0
    (λ r. IsResumed (resumed_due (rules_of c.args.policy) (contents c.args.snapshot) (events_after c.args.snapshot.events c.args.asked.now.events c.args.script)
    (option_copied c.args.asked.now.save) (resume_refusal (rules_of c.args.policy) (contents c.args.snapshot))) r)
    c.from_residual.ensures.1
    (resumed_stop (rules_of c.args.policy) (contents c.args.snapshot) _ _ c.in_err-machine.field-0.0 c.in_err-machine.ensures)

pub returns : goal.returns
returns g c =
    resumed_ready (rules_of c.args.policy) (contents c.args.snapshot) _ _ c.requires.form (omega (arith, c.events_left-left.ensures.few, c.requires.events)) c.in_ok-machine.ensures
    c.events_left-left.ensures.left
