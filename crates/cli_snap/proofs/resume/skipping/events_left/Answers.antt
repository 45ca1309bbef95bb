use Rattle.std.proofs.Common.{arith}
use Rattle.cli_snap.proofs.SkipLemmas.{none_left, some_left}
use Rattle.cli_snap.proofs.resume.skipping.events_left.Goals as goal

pub returns-then-events-made-clause-left : goal.returns-then-events-made-clause-left
returns-then-events-made-clause-left c = none_left c.args.made c.args.events c.args.script c.if-events-made.true

pub returns-clause-left : goal.returns-clause-left
returns-clause-left c = some_left c.args.made c.args.events c.args.script _ (omega (arith, c.if-events-made.false)) c.skip.ensures.left
