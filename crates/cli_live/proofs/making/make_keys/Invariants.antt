use Rattle.std.proofs.Common.{◌≡◌, ◌-◌, length}
use Rattle.live_keys.specs.Line.{max_keys}
use Rattle.cli_live.specs.Drives.{Driven, StaysUnderWay}
use Rattle.cli_live.proofs.making.make_keys.Given as goal

abbrev pub invariant-keys : goal.invariant-keys
invariant-keys g l = record {
  on : Driven l.initial.live l.live (g.O.Sink.state l.initial.out) (g.O.Sink.state l.out);
  stays : StaysUnderWay l.initial.live l.live;
  script : l.live.script ≡ l.initial.live.script;
  autos : l.live.journal.autos ≡ l.initial.live.journal.autos;
  verdict : l.live.machine.journal.verdict ≡ l.initial.live.machine.journal.verdict;
}

abbrev pub decreases-keys : goal.decreases-keys
decreases-keys g l = max_keys - length l.live.taker.bytes
