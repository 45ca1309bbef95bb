use Rattle.std.proofs.Common.{◌≡◌, ◌≤◌, ◌+◌, ◌-◌, ℕ, length}
use Rattle.std.specs.Prelude.{None}
use Rattle.sv_types.specs.declared.event.Verdict.TheVariants.{Running}
use Rattle.spec_reference.specs.Counting.{CountsAtMost}
use Rattle.machine.specs.Repeats.{Rows}
use Rattle.machine.proofs.machine.Machine.repeat_to_load.Given as goal

abbrev pub invariant-events : goal.invariant-events
invariant-events l = record {
  chain : Rows l.made l.initial.self l.event l.self;
  quiet : length l.self.journal.printed ≡ length l.initial.self.journal.printed;
  running : l.initial.self.journal.verdict ≡ Running → l.self.journal.verdict ≡ Running;
  loading : l.initial.self.loading ≡ None → l.self.loading ≡ None;
  few : l.made ≤ l.count;
  counts : (n : ℕ) → CountsAtMost n l.initial.self.journal.counts → CountsAtMost (n + l.made) l.self.journal.counts;
}

abbrev pub decreases-events : goal.decreases-events
decreases-events l = l.count - l.made
