use Rattle.std.proofs.Common.{length, ap, ◌∙◌}
use Rattle.spec_hardware.specs.HwHarts.{hw_outside}
use Rattle.spec_hardware.specs.Machine.{Machine}
use Rattle.secvisor_core.proofs.Served.{length_update}
use Rattle.secvisor_core.specs.Serving.{left_entry}
use Rattle.machine.proofs.events.system.System.leave_entry.Goals as goal

pub returns-clause-left : goal.returns-clause-left
returns-clause-left c = c.leave_entry.ensures.left c.self.inside.journal ∙ ap (λ (m : Machine). left_entry m c.args.hart) c.self.view_is

pub returns-clause-number : goal.returns-clause-number
returns-clause-number c =
    ap (λ (m : Machine). length m.harts) (c.leave_entry.ensures.left c.self.inside.journal ∙ ap (λ (m : Machine). left_entry m c.args.hart) c.self.view_is)
    ∙ length_update c.args.self.now.harts c.args.hart hw_outside
