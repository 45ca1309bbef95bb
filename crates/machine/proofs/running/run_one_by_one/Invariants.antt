use Rattle.std.proofs.Common.{◌<◌, ◌≤◌, ◌+◌, ◌-◌, length, IsFalse}
use Rattle.sv_types.specs.Limits.{max_events, max_printed}
use Rattle.sv_types.specs.Schedule.{first_events}
use Rattle.spec_reference.specs.Counting.{CountsAtMost}
use Rattle.spec_reference.specs.States.{State}
use Rattle.spec_hardware.specs.Reaches.{IsNew}
use Rattle.machine.specs.Standing.{HasState}
use Rattle.machine.specs.Console.{flush_is_due, HasTaken}
use Rattle.machine.proofs.ConsoleLemmas.{RunsOn}
use Rattle.machine.proofs.running.run_one_by_one.Given as goal

abbrev pub invariant-events : goal.invariant-events
invariant-events g l = record {
  on : (start : State) → IsNew l.initial.machine start →
      RunsOn l.initial.machine start (first_events l.events (g.S.EventSource.schedule l.fn.source))
      (first_events (l.left.now + l.left.later) (g.S.EventSource.schedule l.source)) l.machine
      (g.O.Sink.state l.initial.out) (g.O.Sink.state l.out);
  has : HasState l.machine;
  taken : HasTaken (g.O.Sink.state l.initial.out) (g.O.Sink.state l.out);
  few : l.left.now + l.left.later ≤ l.events;
  counts : CountsAtMost (max_events + (l.events - (l.left.now + l.left.later))) l.machine.journal.counts;
  room : length l.machine.journal.printed < max_printed;
  rest : IsFalse (flush_is_due l.machine.journal.printed);
}

abbrev pub decreases-events : goal.decreases-events
decreases-events g l = l.left.now + l.left.later
