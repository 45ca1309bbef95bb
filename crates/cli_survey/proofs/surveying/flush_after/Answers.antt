use Rattle.machine.proofs.Standing.{flushed_none}
use Rattle.cli_survey.proofs.surveying.flush_after.Goals as goal

pub returns-then-not-is_turn-clause-flushed : goal.returns-then-not-is_turn-clause-flushed
returns-then-not-is_turn-clause-flushed g c = flushed_none c.args.machine.now (g.O.Sink.state c.args.out.now)
