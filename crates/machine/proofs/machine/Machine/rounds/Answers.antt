use Rattle.std.proofs.Common.{◌+◌, ◌-◌, rules, arith}
use Rattle.machine.specs.Limits.{max_counts}
use Rattle.machine.proofs.Repeated.{counts_on, counts_within, repeats_on, repeats_stand, rows_repeat}
use Rattle.machine.proofs.machine.Machine.rounds.Goals as goal

pub round-made-requires : goal.round-made-requires
round-made-requires c = record {
  asked = omega (arith, c.events-test.true);
  few = omega (arith, c.requires.few);
  room = search rules;
  counts = counts_within (max_counts - c.args.count + c.events.made) (max_counts - (c.args.count - c.events.made)) c.events.self.journal.counts
      (omega (arith, c.events-test.true, c.requires.few))
      (c.events.invariant.counts (max_counts - c.args.count) c.requires.counts);
}

pub returns-then-printed-clause-stands : goal.returns-then-printed-clause-stands
returns-then-printed-clause-stands c =
    repeats_stand (c.events.made + c.round-made.result) c.args.self.now c.round-made.new.self c.args.event
    (repeats_on c.events.made c.round-made.result c.args.self.now c.events.self c.round-made.new.self c.args.event c.events.invariant.chain
    (record { quiet = c.events.invariant.quiet; running = c.events.invariant.running }) (rows_repeat c.round-made.result c.events.self c.round-made.new.self c.args.event c.round-made.ensures.chain))

pub returns-then-printed-clause-made : goal.returns-then-printed-clause-made
returns-then-printed-clause-made c = record {
  chain = repeats_on c.events.made c.round-made.result c.args.self.now c.events.self c.round-made.new.self c.args.event c.events.invariant.chain
      (record { quiet = c.events.invariant.quiet; running = c.events.invariant.running }) (rows_repeat c.round-made.result c.events.self c.round-made.new.self c.args.event c.round-made.ensures.chain);
  counts = counts_on c.events.made c.round-made.result c.args.self.now.journal.counts c.events.self.journal.counts c.round-made.new.self.journal.counts c.events.invariant.counts
      c.round-made.ensures.counts;
  some = omega (arith, c.round-made.ensures.some);
  most = omega (arith, c.events-test.true, c.round-made.ensures.most);
}

pub events-preserved : goal.events-preserved
events-preserved c = record {
  chain = repeats_on c.events.made c.round-made.result c.args.self.now c.events.self c.round-made.new.self c.args.event c.events.invariant.chain
      (record { quiet = c.events.invariant.quiet; running = c.events.invariant.running }) (rows_repeat c.round-made.result c.events.self c.round-made.new.self c.args.event c.round-made.ensures.chain);
  quiet = search rules;
  running = λ is. search rules;
  few = omega (arith, c.events-test.true, c.round-made.ensures.most);
  counts = counts_on c.events.made c.round-made.result c.args.self.now.journal.counts c.events.self.journal.counts c.round-made.new.self.journal.counts c.events.invariant.counts
      c.round-made.ensures.counts;
}

pub returns-clause-stands : goal.returns-clause-stands
returns-clause-stands c = repeats_stand c.events.made c.args.self.now c.events.self c.args.event c.events.invariant.chain
