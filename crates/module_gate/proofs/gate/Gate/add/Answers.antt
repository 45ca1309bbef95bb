use Rattle.std.proofs.Common.{rules, ◌≡◌, ◌≤◌, sym, subst, length, arith}
use Rattle.std.specs.Prelude.{None, vec_len, vec_capacity}
use Rattle.spec_reference.specs.States.{find_module, with_module}
use Rattle.module_gate.specs.Ascending.{AscendsFrom}
use Rattle.module_gate.proofs.Lists.{ascends_with, few_modules, length_with}
use Rattle.module_gate.proofs.gate.Gate.add.Goals as goal

pub unreachable-requires : goal.unreachable-requires
unreachable-requires c =
    let loaded = c.self.inside.loaded.items in
    let other : find_module loaded c.args.about.id ≡ None = search rules in
    let few = few_modules 0 (with_module loaded c.args.about) (ascends_with 0 loaded c.args.about c.self.invariant.ascends (omega arith) c.requires.id other) in
    let more = length_with loaded c.args.about in
    let size : vec_len c.self.inside.loaded ≡ length loaded = search rules in
    let room : 64 ≤ vec_capacity c.self.inside.loaded = c.self.invariant.modules in
    let full : vec_capacity c.self.inside.loaded ≤ vec_len c.self.inside.loaded = search rules in
    absurd (omega (arith, few, more, size, room, full))

pub invariant_of-self : goal.invariant_of-self
invariant_of-self c =
    let loaded = c.self.inside.loaded.items in
    let other : find_module loaded c.args.about.id ≡ None = search rules in
    let up = ascends_with 0 loaded c.args.about c.self.invariant.ascends (omega arith) c.requires.id other in
    let items : c.insert.new.self.items ≡ with_module loaded c.args.about = search rules in
    let kept : vec_capacity c.self.inside.loaded ≤ vec_capacity c.insert.new.self = search rules in
    let room : 64 ≤ vec_capacity c.self.inside.loaded = c.self.invariant.modules in record {
      ascends = subst (AscendsFrom 0) (sym items) up;
      modules = omega (arith, kept, room);
      digests = c.self.invariant.digests;
    }
