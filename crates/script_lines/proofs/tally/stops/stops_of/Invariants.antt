use Rattle.std.proofs.Common.{◌≡◌, ◌++◌, drop}
use Rattle.script_lines.specs.TallyLines.{stops_of}
use Rattle.script_lines.proofs.tally.stops.stops_of.Given as goal

-- those so far, and those of the entries that are left
abbrev pub invariant-loop-place : goal.invariant-loop-place
invariant-loop-place l = l.stops.items ++ stops_of (drop l.place l.tallies.entries) ≡ stops_of l.tallies.entries
