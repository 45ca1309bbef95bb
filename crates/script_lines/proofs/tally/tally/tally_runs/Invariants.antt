use Rattle.std.proofs.Common.{◌≡◌, take}
use Rattle.script_lines.specs.Tallies.{tallies_of}
use Rattle.script_lines.proofs.tally.tally.tally_runs.Given as goal

-- the runs so far
abbrev pub invariant-runs : goal.invariant-runs
invariant-runs l = l.tallies.entries ≡ tallies_of l.first (take l.i l.outcomes)
