use Rattle.machine.proofs.NewFit.{flat_fit}
use Rattle.machine.proofs.machine.Machine.flat.Goals as goal

pub invariant_of-result : goal.invariant_of-result
invariant_of-result g c =
    flat_fit c.in_ok-system.system c.args.pages.now c.args.wanted c.in_ok-system.ensures.new c.in_ok-system.ensures.journal
