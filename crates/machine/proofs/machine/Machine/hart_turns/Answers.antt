use Rattle.std.proofs.Common.{◌+◌, ◌-◌, ◌∙◌, ℕ, arith, rules, subst, sym}
use Rattle.spec_reference.specs.Counting.{CountsAtMost}
use Rattle.sv_types.specs.declared.event.Event.TheVariants.{Turn}
use Rattle.hw_fast_path.specs.Ends.{turns_of}
use Rattle.machine.specs.Limits.{max_counts}
use Rattle.machine.specs.Repeats.{Rows}
use Rattle.machine.proofs.Repeated.{counts_more, counts_within, rows_more}
use Rattle.machine.proofs.Behind.{stays_there}
use Rattle.machine.proofs.machine.Machine.hart_turns.Goals as goal

pub returns-then-made-most : goal.returns-then-made-most
returns-then-made-most c = record {
  chain = subst (λ (made : ℕ). Rows made c.args.self.now (Turn c.args.hart) c.batch-batch.new.self) (sym c.turns-made.ensures) c.batch-batch.ensures.chain;
  counts = subst (λ (made : ℕ). (n : ℕ) → CountsAtMost n c.args.self.now.journal.counts → CountsAtMost (n + made) c.batch-batch.new.self.journal.counts)
      (sym c.turns-made.ensures) c.batch-batch.ensures.counts;
  some = search rules;
  most = omega (arith, c.turns-made.ensures, c.batch-batch.ensures.most);
}

pub make-requires-clause-counts : goal.make-requires-clause-counts
make-requires-clause-counts c =
    counts_within (max_counts - c.args.most + turns_of c.batch-batch.result) (max_counts - 1) c.batch-batch.new.self.journal.counts
    (omega (arith, c.if-made-most.false, c.turns-made.ensures, c.batch-batch.ensures.most, c.requires.few))
    (c.batch-batch.ensures.counts (max_counts - c.args.most) c.requires.counts)

pub returns : goal.returns
returns c = record {
  chain = rows_more c.turns-made.result c.args.self.now c.batch-batch.new.self c.make.new.self (Turn c.args.hart)
      (subst (λ (made : ℕ). Rows made c.args.self.now (Turn c.args.hart) c.batch-batch.new.self) (sym c.turns-made.ensures) c.batch-batch.ensures.chain)
      (record {
        on = record { quiet = c.batch-batch.ensures.quiet; running = c.batch-batch.ensures.running (stays_there c.batch-batch.result.left (sym c.is_left.ensures ∙ c.if-is_left.false)) };
        loading = λ none. c.batch-batch.ensures.loading (stays_there c.batch-batch.result.left (sym c.is_left.ensures ∙ c.if-is_left.false)) ∙ none;
      })
      c.make.ensures.makes;
  counts = counts_more c.turns-made.result c.args.self.now.journal.counts c.batch-batch.new.self.journal.counts c.make.new.self.journal.counts
      (subst (λ (made : ℕ). (n : ℕ) → CountsAtMost n c.args.self.now.journal.counts → CountsAtMost (n + made) c.batch-batch.new.self.journal.counts)
      (sym c.turns-made.ensures) c.batch-batch.ensures.counts)
      c.make.ensures.counts;
  some = omega arith;
  most = omega (arith, c.if-made-most.false, c.turns-made.ensures, c.batch-batch.ensures.most);
}
