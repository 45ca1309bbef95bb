use Rattle.std.proofs.Common.{◌≡◌, ◌+◌}
use Rattle.cli_snap.specs.ResumePlans.{events_after}
use Rattle.cli_snap.proofs.resume.skipping.skip.Given as goal

abbrev pub invariant-rows : goal.invariant-rows
invariant-rows l = events_after l.undrawn (l.undrawn + l.events) l.left ≡ events_after l.made (l.made + l.events) l.fn.script

abbrev pub decreases-rows : goal.decreases-rows
decreases-rows l = l.undrawn
