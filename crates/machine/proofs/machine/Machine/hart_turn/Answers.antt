use Rattle.std.proofs.Common.{◌+◌, ℕ, arith, rules, subst, sym}
use Rattle.spec_reference.specs.Counting.{CountsAtMost}
use Rattle.sv_types.specs.declared.event.Event.TheVariants.{Turn}
use Rattle.machine.specs.Repeats.{Rows}
use Rattle.machine.proofs.machine.Machine.hart_turn.Goals as goal

pub returns : goal.returns
returns c = record {
  chain = subst (λ (made : ℕ). Rows made c.args.self.now (Turn c.args.hart) c.batch.new.self) (sym c.turns-made.ensures) c.batch.ensures.chain;
  counts = subst (λ (made : ℕ). (n : ℕ) → CountsAtMost n c.args.self.now.journal.counts → CountsAtMost (n + made) c.batch.new.self.journal.counts)
      (sym c.turns-made.ensures) c.batch.ensures.counts;
  some = search rules;
  most = omega (arith, c.turns-made.ensures, c.batch.ensures.most);
}
