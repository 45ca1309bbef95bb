use Rattle.std.proofs.Common.{◌≤◌, ◌-◌, subst, length}
use Rattle.cli_debug.specs.Upcoming.{most_upcoming}
use Rattle.cli_debug.proofs.Standings.{most_by}
use Rattle.cli_debug.proofs.target.debugged.DebuggedMachineTarget.most_left.Goals as goal

pub returns-in-Some : goal.returns-in-Some
returns-in-Some g c = λ run at.
    subst (λ next. length run.events - run.made ≤ most_upcoming next c.args.self.now.left) c.in-Some.is
    (most_by c.args.self.now.next c.args.self.now.left c.args.self.now.script run.made run.events at.left_are)

pub returns-in-None : goal.returns-in-None
returns-in-None g c = λ run at.
    subst (λ next. length run.events - run.made ≤ most_upcoming next c.args.self.now.left) c.in-None.is
    (most_by c.args.self.now.next c.args.self.now.left c.args.self.now.script run.made run.events at.left_are)
