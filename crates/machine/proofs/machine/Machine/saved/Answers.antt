use Rattle.std.proofs.Common.{subst}
use Rattle.std.specs.Prelude.{IfOk}
use Rattle.spec_hardware.specs.Machine.{Machine}
use Rattle.machine.proofs.Kept.{kept_states, machine_keepable}
use Rattle.machine.specs.Keeping.{IsKept}
use Rattle.machine.proofs.machine.Machine.saved.Goals as goal

pub saved-requires : goal.saved-requires
saved-requires c = machine_keepable c.self.inside.system c.self.invariant.state c.self.invariant.stands c.self.invariant.addresses

pub returns : goal.returns
returns c = record {
  state = kept_states c.args.self.now c.saved.result (subst (λ (m : Machine). IfOk c.saved.result (IsKept m)) c.self.view_is c.saved.ensures.kept);
  port = c.saved.ensures.port;
}
