use Rattle.std.proofs.Common.{◌∙◌, sym, ap, arith, length}
use Rattle.sv_types.specs.Policies.{Rules}
use Rattle.spec_hardware.specs.StandsFor.{bound_pages}
use Rattle.machine.proofs.start.assemble.Goals as goal

pub at_boot-requires-clause-places : goal.at_boot-requires-clause-places
at_boot-requires-clause-places c = c.in_ok-guard.ensures.guards.bound ∙ sym (ap (λ (rules : Rules). bound_pages rules) c.in_ok-policy.ensures)

pub at_boot-requires-clause-along : goal.at_boot-requires-clause-along
at_boot-requires-clause-along c = let none = ap (λ (rules : Rules). length rules.bound) c.in_ok-policy.ensures in omega (arith, none)

pub at_boot-requires-clause-few : goal.at_boot-requires-clause-few
at_boot-requires-clause-few c = let none = ap (λ (rules : Rules). length rules.bound) c.in_ok-policy.ensures in omega (arith, none)
