use Rattle.std.proofs.Common.{◌+◌}
use Rattle.machine.proofs.DrawnBatches.{none_asked, none_asked_later, none_drawn}
use Rattle.machine.proofs.drawing.Drawing.draw.Goals as goal

pub returns-then-self-eq0-2-clause-none : goal.returns-then-self-eq0-2-clause-none
returns-then-self-eq0-2-clause-none g c = λ none.
    let old = c.args.self.now in
    none_asked old.batch.count old.undrawn old.batch.event (g.S.EventSource.schedule old.source) c.if-self-eq0.true c.if-self-eq0-2.true

pub returns-then-self-eq0-2-clause-end : goal.returns-then-self-eq0-2-clause-end
returns-then-self-eq0-2-clause-end g c = λ none later some.
    let old = c.args.self.now in
    none_asked_later old.batch.count old.undrawn later old.batch.event (g.S.EventSource.schedule old.source) c.if-self-eq0.true c.if-self-eq0-2.true some

pub returns-in_err-self-clause-none : goal.returns-in_err-self-clause-none
returns-in_err-self-clause-none g c = λ none.
    let old = c.args.self.now in
    none_drawn old.batch.count old.undrawn old.batch.event (g.S.EventSource.schedule old.source) c.if-self-eq0.true c.in_err-self.ensures.event

pub returns-in_err-self-clause-end : goal.returns-in_err-self-clause-end
returns-in_err-self-clause-end g c = λ none later some.
    let old = c.args.self.now in
    none_drawn old.batch.count (old.undrawn + later) old.batch.event (g.S.EventSource.schedule old.source) c.if-self-eq0.true c.in_err-self.ensures.event
