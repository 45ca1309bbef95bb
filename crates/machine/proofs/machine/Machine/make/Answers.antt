use Rattle.std.proofs.Common.{Bool, subst, sym, arith}
use Rattle.spec_reference.specs.Counting.{CountsAtMost}
use Rattle.spec_reference.specs.Run.{step}
use Rattle.spec_hardware.specs.Machine.{Machine}
use Rattle.spec_hardware.specs.StandsFor.{StandsFor}
use Rattle.spec_hardware.specs.Steps.{IsStep}
use Rattle.machine.proofs.Addressed.{step_addressed}
use Rattle.machine.proofs.Ready.{guarded, may_turn}
use Rattle.machine.proofs.Repeated.{step_counts}
use Rattle.machine.proofs.Reservations.{step_free}
use Rattle.machine.proofs.Stepped.{step_bounded, step_happens, step_stands}
use Rattle.machine.specs.Batches.{AreFreeWhere}
use Rattle.machine.proofs.machine.Machine.make.Goals as goal

pub step-requires-clause-guarded : goal.step-requires-clause-guarded
step-requires-clause-guarded c = guarded c.self.inside.system c.self.invariant.state c.self.invariant.stands

pub step-requires-clause-ready : goal.step-requires-clause-ready
step-requires-clause-ready c = λ on h. may_turn c.self.inside.system c.self.invariant.state h c.self.invariant.stands on

pub invariant_of-self : goal.invariant_of-self
invariant_of-self c =
    let bounded = step_bounded c.self.inside.system c.step.new.self c.self.invariant.state c.args.event c.self.invariant.stands c.step.ensures.step
    (record { attempts = c.self.invariant.attempts; printed = c.self.invariant.printed }) in
    let stands = step_stands c.self.inside.system c.step.new.self c.args.event c.step.ensures.step c.self.invariant.state c.self.invariant.stands in
    let counts = step_counts 9223372036854775806 c.self.inside.system c.step.new.self c.self.invariant.state c.args.event c.self.invariant.stands stands
    (subst (λ (m : Machine). CountsAtMost 9223372036854775806 m.journal.counts) (sym c.self.view_is) c.requires.counts) in
    record {
      state = step c.self.invariant.state c.args.event;
      stands = stands;
      addresses = step_addressed c.self.invariant.state c.args.event c.self.invariant.stands.unseen_is_right.region.most c.self.invariant.addresses;
      attempts = bounded.attempts;
      few = let two = bounded.attempts in let turns = counts.turns in omega (arith, two, turns);
      free = subst (λ (known : Bool). AreFreeWhere known c.step.new.self.harts) (sym c.stays_unreserved-self-inside.ensures)
          (step_free c.self.inside.none_reserved c.self.inside.system c.step.new.self c.args.event c.self.invariant.free c.step.ensures.step);
      printed = bounded.printed;
    }

pub returns-clause-step : goal.returns-clause-step
returns-clause-step c = subst (λ (m : Machine). IsStep m c.args.event c.step.new.self) c.self.view_is c.step.ensures.step

pub returns-clause-makes : goal.returns-clause-makes
returns-clause-makes c =
    let steps : IsStep c.args.self.now c.args.event c.step.new.self = subst (λ (m : Machine). IsStep m c.args.event c.step.new.self) c.self.view_is c.step.ensures.step in
    record {
      stands = step_stands c.args.self.now c.step.new.self c.args.event steps;
      event = step_happens c.args.self.now c.step.new.self c.self.invariant.state c.args.event
          (subst (λ (m : Machine). StandsFor m c.self.invariant.state) c.self.view_is c.self.invariant.stands) steps;
    }

pub returns-clause-counts : goal.returns-clause-counts
returns-clause-counts c = λ n counts.
    let stands = subst (λ (m : Machine). StandsFor m c.self.invariant.state) c.self.view_is c.self.invariant.stands in
    step_counts n c.args.self.now c.step.new.self c.self.invariant.state c.args.event stands
    (step_stands c.args.self.now c.step.new.self c.args.event (subst (λ (m : Machine). IsStep m c.args.event c.step.new.self) c.self.view_is c.step.ensures.step) c.self.invariant.state stands) counts
