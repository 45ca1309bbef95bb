use Rattle.std.proofs.Common.{◌≡◌, ◌++◌, drop, flat_map, string_bytes}
use Rattle.script_lines.specs.TallyLines.{stop_line}
use Rattle.script_lines.proofs.tally.lines.stop_lines.Given as goal

-- the lines so far, and those of the stops that are left
abbrev pub invariant-loop-stop : goal.invariant-loop-stop
invariant-loop-stop l = string_bytes l.text ++ flat_map stop_line (drop l.stop-index l.stops) ≡ flat_map stop_line l.stops
