use Rattle.std.proofs.Common.{sym, subst}
use Rattle.module_gate.specs.Ascending.{AscendsFrom}
use Rattle.module_gate.proofs.Lists.{ascends_without}
use Rattle.module_gate.proofs.gate.Gate.unload.Goals as goal

pub invariant_of-self : goal.invariant_of-self
invariant_of-self c = record {
  ascends = subst (AscendsFrom 0) (sym c.remove_module.ensures.items) (ascends_without 0 c.self.inside.loaded.items c.args.about.now.id c.self.invariant.ascends);
  modules = rw c.remove_module.ensures.capacity c.self.invariant.modules;
  digests = c.self.invariant.digests;
}
