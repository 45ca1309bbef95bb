use Rattle.std.proofs.Common.{◌≡◌, ◌∙◌, refl, subst, sym, arith, true}
use Rattle.std.specs.Prelude.{not}
use Rattle.spec_hardware.specs.Machine.{Machine}
use Rattle.hw_platform.specs.Attempts.{hart_in}
use Rattle.machine.proofs.QuietTurns.{on_stopped, stopped_stays}
use Rattle.machine.proofs.machine.Machine.idles_at.Goals as goal

pub returns-clause-made : goal.returns-clause-made
returns-clause-made c = λ is. record {
  chain = (c.args.self.now, (refl, (record { on = record { quiet = refl; running = λ running. running }; loading = λ none. none }, c.make.ensures.makes)));
  counts = c.make.ensures.counts;
  some = omega arith;
  most = omega arith;
}

pub returns-clause-quiet : goal.returns-clause-quiet
returns-clause-quiet c = λ is.
    stopped_stays c.args.self.now c.make.new.self c.args.hart
    (on_stopped (hart_in c.args.self.now.harts c.args.hart).started
    (subst (λ (m : Machine). not (hart_in m.harts c.args.hart).started ≡ true) c.self.view_is (sym c.is_stopped.ensures ∙ c.if-not-is_stopped.false)))
    c.make.ensures.step
