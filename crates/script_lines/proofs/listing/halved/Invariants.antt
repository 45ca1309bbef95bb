use Rattle.std.proofs.Common.{◌≡◌, ◌++◌, drop}
use Rattle.script_lines.specs.Lines.{events_of}
use Rattle.script_lines.proofs.listing.halved.Given as goal

-- the events so far, and those of the lines that are left
abbrev pub invariant-loop-line : goal.invariant-loop-line
invariant-loop-line l = events_of l.halves.items ++ events_of (drop l.line-index l.lines) ≡ events_of l.lines
