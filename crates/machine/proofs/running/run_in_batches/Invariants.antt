use Rattle.std.proofs.Common.{◌≡◌, ◌<◌, ◌≤◌, ◌+◌, ◌-◌, length, true, IsFalse}
use Rattle.sv_types.specs.Limits.{max_events, max_printed}
use Rattle.sv_types.specs.Schedule.{first_events}
use Rattle.spec_reference.specs.Counting.{CountsAtMost}
use Rattle.spec_reference.specs.States.{State}
use Rattle.spec_hardware.specs.Reaches.{IsNew}
use Rattle.machine.specs.Drawing.{count_left, events_with, is_used_up}
use Rattle.machine.specs.Standing.{HasState}
use Rattle.machine.specs.Console.{flush_is_due, HasTaken}
use Rattle.machine.proofs.ConsoleLemmas.{RunsOn}
use Rattle.machine.proofs.running.run_in_batches.Given as goal

abbrev pub invariant-events : goal.invariant-events
invariant-events g l = record {
  on : (start : State) → IsNew l.initial.machine start →
      RunsOn l.initial.machine start (first_events l.events (g.S.EventSource.schedule l.fn.source)) (events_with l.later g.S.EventSource.schedule l.drawing) l.machine
      (g.O.Sink.state l.initial.out) (g.O.Sink.state l.out);
  has : HasState l.machine;
  taken : HasTaken (g.O.Sink.state l.initial.out) (g.O.Sink.state l.out);
  few : count_left l.drawing + l.later ≤ l.events;
  some : is_used_up l.drawing ≡ true → l.later ≡ 0;
  counts : CountsAtMost (max_events + (l.events - (count_left l.drawing + l.later))) l.machine.journal.counts;
  room : length l.machine.journal.printed < max_printed;
  rest : IsFalse (flush_is_due l.machine.journal.printed);
}

abbrev pub decreases-events : goal.decreases-events
decreases-events g l = count_left l.drawing + l.later
