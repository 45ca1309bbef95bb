use Rattle.script.proofs.EventRuns.{drawn_again}
use Rattle.script.proofs.burst.Bursts.next_run.Goals as goal

pub returns-clause-draws : goal.returns-clause-draws
returns-clause-draws c =
    drawn_again c.draw_more-more.result c.next-event.result c.args.self.now c.next-event.new.self c.draw_more-more.new.self
    c.next-event.ensures.event c.next-event.ensures.rest c.draw_more-more.ensures.draws
