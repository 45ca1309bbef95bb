use Rattle.std.proofs.Common.{◌∙◌, ap}
use Rattle.spec_reference.specs.States.{State}
use Rattle.machine.proofs.Standing.{stands_counts}
use Rattle.cli_debug.proofs.target.debugged.DebuggedMachineTarget.counts.Goals as goal

pub returns : goal.returns
returns g c = λ run at.
    c.counts.ensures ∙ stands_counts c.args.self.now.machine at.here.like at.here.rest at.here.here ∙ ap (λ (r : State). r.journal.counts) at.here.alike.rest
