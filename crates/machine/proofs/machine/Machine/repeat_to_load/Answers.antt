use Rattle.std.proofs.Common.{◌+◌, ◌-◌, ◌∙◌, sym, rules, arith}
use Rattle.machine.specs.Limits.{max_counts}
use Rattle.machine.proofs.Repeated.{counts_on, counts_within, none_loading, row_made, rows_on}
use Rattle.machine.proofs.machine.Machine.repeat_to_load.Goals as goal

pub round-made-requires : goal.round-made-requires
round-made-requires c = record {
  asked = omega (arith, c.events-test.true);
  few = omega (arith, c.requires.few);
  room = search rules;
  counts = counts_within (max_counts - c.args.count + c.events.made) (max_counts - (c.args.count - c.events.made)) c.events.self.journal.counts
      (omega (arith, c.events-test.true, c.requires.few))
      (c.events.invariant.counts (max_counts - c.args.count) c.requires.counts);
}

pub returns-then-made-count : goal.returns-then-made-count
returns-then-made-count c =
    row_made c.events.made c.round-made.result c.args.count c.args.self.now c.events.self c.round-made.new.self c.args.event c.events.invariant.chain
    (record { on = record { quiet = c.events.invariant.quiet; running = c.events.invariant.running }; loading = c.events.invariant.loading })
    c.events.invariant.counts c.events-test.true c.round-made.ensures

pub events-preserved : goal.events-preserved
events-preserved c = record {
  chain = rows_on c.events.made c.round-made.result c.args.self.now c.events.self c.round-made.new.self c.args.event c.events.invariant.chain
      (record { on = record { quiet = c.events.invariant.quiet; running = c.events.invariant.running }; loading = c.events.invariant.loading })
      c.round-made.ensures.chain;
  quiet = search rules;
  running = λ is. search rules;
  loading = λ none. none_loading c.round-made.new.self.loading (sym c.is_loading.ensures ∙ c.if-is_loading.false);
  few = omega (arith, c.events-test.true, c.round-made.ensures.most);
  counts = counts_on c.events.made c.round-made.result c.args.self.now.journal.counts c.events.self.journal.counts c.round-made.new.self.journal.counts c.events.invariant.counts
      c.round-made.ensures.counts;
}
