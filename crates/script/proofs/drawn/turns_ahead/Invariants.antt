use Rattle.std.proofs.Common.{◌≤◌, ◌-◌}
use Rattle.script.specs.TurnNumbers.{DrawTurns}
use Rattle.script.proofs.drawn.turns_ahead.Given as goal

abbrev pub invariant-turns : goal.invariant-turns
invariant-turns l = record {
  turns : DrawTurns l.count l.number l.last;
  few : l.count ≤ l.most;
}

abbrev pub decreases-turns : goal.decreases-turns
decreases-turns l = l.most - l.count
