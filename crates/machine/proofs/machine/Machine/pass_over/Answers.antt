use Rattle.std.proofs.Common.{◌+◌, ◌*◌, ◌<◌, ◌≤◌, ℕ, List, length, sym, subst}
use Rattle.spec_hardware.specs.Machine.{Machine}
use Rattle.spec_hardware.specs.StandsFor.{StandsFor}
use Rattle.machine.specs.Batches.{AreFreeWhere}
use Rattle.machine.proofs.Passes.{pass_rest, free_after, pass_addresses}
use Rattle.laws_simulation.specs.HwPassing.{hw_passed_over}
use Rattle.laws_simulation.specs.Passing.{passed_over}
use Rattle.laws_simulation.proofs.HwPassesHold.{hw_pass_law}
use Rattle.machine.proofs.machine.Machine.pass_over.Goals as goal

pub returns-clause-stands : goal.returns-clause-stands
returns-clause-stands c = λ r stands.
    subst (λ (m : Machine). StandsFor m (passed_over r)) (sym c.pass_over.ensures)
    (hw_pass_law c.self.inside.system r (subst (λ (m : Machine). StandsFor m r) (sym c.self.view_is) stands))

pub invariant_of-self : goal.invariant_of-self
invariant_of-self c =
    let m : Machine = c.self.inside.system in
    let rest = pass_rest m in
    let i = c.self.invariant in
    record {
      state = passed_over i.state;
      stands = subst (λ (n : Machine). StandsFor n (passed_over i.state)) (sym c.pass_over.ensures) (hw_pass_law m i.state i.stands);
      addresses = pass_addresses i.state i.addresses;
      attempts = subst (λ (n : Machine). n.attempts ≤ 2 * n.journal.counts.turns) (sym c.pass_over.ensures)
          (subst (λ (k : ℕ). k ≤ 2 * (hw_passed_over m).journal.counts.turns) (sym rest.attempts) (subst (λ (k : ℕ). m.attempts ≤ 2 * k) (sym rest.turns) i.attempts));
      few = subst (λ (n : Machine). n.attempts < 18446744073709551616) (sym c.pass_over.ensures) (subst (λ (k : ℕ). k < 18446744073709551616) (sym rest.attempts) i.few);
      free = subst (λ (n : Machine). AreFreeWhere c.self.inside.none_reserved n.harts) (sym c.pass_over.ensures) (free_after c.self.inside.none_reserved m i.free);
      printed = subst (λ (n : Machine). n.cleared + length n.journal.printed ≤ n.journal.counts.turns) (sym c.pass_over.ensures)
          (subst (λ (k : ℕ). k + length (hw_passed_over m).journal.printed ≤ (hw_passed_over m).journal.counts.turns) (sym rest.cleared)
          (subst (λ (xs : List ℕ). m.cleared + length xs ≤ (hw_passed_over m).journal.counts.turns) (sym rest.printed) (subst (λ (k : ℕ). m.cleared +
          length m.journal.printed ≤ k) (sym rest.turns) i.printed)));
    }
