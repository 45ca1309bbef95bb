use Rattle.std.proofs.Common.{◌≤◌, ◌∙◌, ap, length, subst, sym}
use Rattle.spec_processor.specs.Regions.{max_ram_pages}
use Rattle.spec_hardware.specs.Machine.{Machine}
use Rattle.machine.proofs.Looking.{protections_seen}
use Rattle.machine.proofs.Texts.{pages_few}
use Rattle.machine.proofs.machine.Machine.protections.Goals as goal

pub returns-clause-state : goal.returns-clause-state
returns-clause-state c = λ r stands.
    c.protections_of.ensures ∙ ap (λ (m : Machine). m.protections) c.self.view_is ∙ protections_seen c.args.self.now r stands

pub returns-clause-few : goal.returns-clause-few
returns-clause-few c =
    subst (λ pages. length pages ≤ max_ram_pages) (sym c.protections_of.ensures)
    (pages_few c.self.inside.system c.self.invariant.state c.self.invariant.stands)
