use Rattle.std.proofs.Common.{◌≡◌, ◌<◌, sym, ap, subst, arith}
use Rattle.spec_hardware.specs.Machine.{Machine}
use Rattle.spec_hardware.specs.StandsFor.{StandsFor}
use Rattle.machine.proofs.Stepped.{Bounded, cleared_stands, cleared_bounded}
use Rattle.machine.specs.Batches.{AreFreeWhere}
use Rattle.machine.proofs.machine.Machine.clear_printed.Goals as goal

pub clear_printed-requires : goal.clear_printed-requires
clear_printed-requires c =
    let printed = c.self.invariant.printed in
    let same : c.counts-counts.result.turns ≡ c.self.inside.system.journal.counts.turns = ap (λ n. n.turns) c.counts-counts.ensures in
    omega (arith, printed, same)

pub invariant_of-self : goal.invariant_of-self
invariant_of-self c =
    let bounded = subst Bounded (sym c.clear_printed.ensures)
    (cleared_bounded c.self.inside.system (record { attempts = c.self.invariant.attempts; printed = c.self.invariant.printed })) in
    record {
      state = c.self.invariant.state;
      stands = subst (λ (m : Machine). StandsFor m c.self.invariant.state) (sym c.clear_printed.ensures) (cleared_stands c.self.inside.system c.self.invariant.state c.self.invariant.stands);
      addresses = c.self.invariant.addresses;
      attempts = bounded.attempts;
      few = subst (λ (m : Machine). m.attempts < 18446744073709551616) (sym c.clear_printed.ensures) c.self.invariant.few;
      free = subst (λ (m : Machine). AreFreeWhere c.self.inside.none_reserved m.harts) (sym c.clear_printed.ensures) c.self.invariant.free;
      printed = bounded.printed;
    }
