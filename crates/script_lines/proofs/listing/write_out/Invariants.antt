use Rattle.std.proofs.Common.{◌≡◌, ◌++◌}
use Rattle.sv_types.specs.Schedule.{first_events}
use Rattle.script_lines.specs.Lines.{events_of}
use Rattle.script_lines.proofs.listing.write_out.Given as goal

-- the events so far, and those that are left
abbrev pub invariant-events : goal.invariant-events
invariant-events l = events_of l.lines.items ++ first_events l.left l.script ≡ first_events l.fn.events l.fn.script

abbrev pub decreases-events : goal.decreases-events
decreases-events l = l.left
