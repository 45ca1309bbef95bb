use Rattle.std.proofs.Common.{◌∙◌, ap}
use Rattle.spec_reference.specs.States.{State}
use Rattle.machine.proofs.Standing.{stands_verdict}
use Rattle.cli_debug.proofs.target.debugged.DebuggedMachineTarget.verdict.Goals as goal

pub returns : goal.returns
returns g c = λ run at.
    c.verdict.ensures ∙ stands_verdict c.args.self.now.machine at.here.like at.here.rest at.here.here ∙ ap (λ (r : State). r.journal.verdict) at.here.alike.rest
