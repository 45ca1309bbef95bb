use Rattle.std.proofs.Common.{◌∙◌, ap}
use Rattle.spec_reference.specs.States.{State}
use Rattle.machine.proofs.Standing.{stands_notes}
use Rattle.cli_debug.proofs.target.debugged.DebuggedMachineTarget.notes.Goals as goal

pub returns : goal.returns
returns g c = λ run at.
    c.journal.ensures ∙ stands_notes c.args.self.now.machine at.here.like at.here.rest at.here.here ∙ ap (λ (r : State). r.journal.notes) at.here.alike.rest
