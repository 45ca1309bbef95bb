use Rattle.std.proofs.Common.{◌+◌, ◌*◌, ◌<◌, ◌≤◌, length, sym, subst}
use Rattle.spec_hardware.specs.Machine.{Machine}
use Rattle.spec_hardware.specs.StandsFor.{StandsFor}
use Rattle.machine.specs.Batches.{AreFreeWhere}
use Rattle.machine.specs.Noting.{noting}
use Rattle.machine.proofs.Noted.{noted_stands}
use Rattle.machine.proofs.machine.Machine.swap_notes.Goals as goal

pub returns-clause-stands : goal.returns-clause-stands
returns-clause-stands c = λ r stands.
    subst (λ (m : Machine). StandsFor m (noting c.args.notes.now r)) (sym c.swap_notes.ensures.kept)
    (noted_stands c.args.notes.now c.self.inside.system r (subst (λ (m : Machine). StandsFor m r) (sym c.self.view_is) stands))

pub invariant_of-self : goal.invariant_of-self
invariant_of-self c =
    let m : Machine = c.self.inside.system in
    let i = c.self.invariant in
    record {
      state = noting c.args.notes.now i.state;
      stands = subst (λ (n : Machine). StandsFor n (noting c.args.notes.now i.state)) (sym c.swap_notes.ensures.kept) (noted_stands c.args.notes.now m i.state i.stands);
      addresses = i.addresses;
      attempts = subst (λ (n : Machine). n.attempts ≤ 2 * n.journal.counts.turns) (sym c.swap_notes.ensures.kept) i.attempts;
      few = subst (λ (n : Machine). n.attempts < 18446744073709551616) (sym c.swap_notes.ensures.kept) i.few;
      free = subst (λ (n : Machine). AreFreeWhere c.self.inside.none_reserved n.harts) (sym c.swap_notes.ensures.kept) i.free;
      printed = subst (λ (n : Machine). n.cleared + length n.journal.printed ≤ n.journal.counts.turns) (sym c.swap_notes.ensures.kept) i.printed;
    }
