use Rattle.std.proofs.Common.{◌≤◌, ◌-◌}
use Rattle.cli_live.specs.Drives.{Driven, StaysUnderWay}
use Rattle.cli_live.proofs.driving.make_autos.Given as goal

abbrev pub invariant-events : goal.invariant-events
invariant-events g l = record {
  on : Driven l.initial.live l.live (g.O.Sink.state l.initial.out) (g.O.Sink.state l.out);
  stays : StaysUnderWay l.initial.live l.live;
  autos : l.live.journal.autos ≤ l.initial.live.events;
}

abbrev pub decreases-events : goal.decreases-events
decreases-events g l = l.live.events - l.live.journal.autos
