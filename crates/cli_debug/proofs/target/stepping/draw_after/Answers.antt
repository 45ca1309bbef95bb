use Rattle.std.proofs.Common.{◌∙◌}
use Rattle.cli_debug.proofs.target.stepping.draw_after.Goals as goal

pub returns-clause-same : goal.returns-clause-same
returns-clause-same c = c.draw-next.ensures.same ∙ c.events_left-left.ensures.left
