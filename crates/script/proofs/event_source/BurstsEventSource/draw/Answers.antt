use Rattle.script.proofs.EventRuns.{drawn_begin}
use Rattle.script.proofs.event_source.BurstsEventSource.draw.Goals as goal

pub returns-clause-first : goal.returns-clause-first
returns-clause-first c = drawn_begin c.args.self.now c.next_run.new.self c.next_run.result c.next_run.ensures.draws
