use Rattle.std.proofs.Common.{◌≡◌, ◌∙◌, ◌+◌, ◌-◌, ◌++◌, ap, arith, replicate, ℕ}
use Rattle.sv_types.specs.Schedule.{first_events}
use Rattle.machine.specs.Drawing.{events_with}
use Rattle.cli_survey.proofs.surveying.has_more.Goals as goal

pub returns-clause-all : goal.returns-clause-all
returns-clause-all g c =
    let all = c.goes_on.ensures.all in
    let most = c.drawn_at_once-more.ensures.most in
    let d = c.args.drawing.now in
    let sum : d.undrawn + c.drawn_at_once-more.result + (c.goes_on.new.self.now - c.drawn_at_once-more.result + c.goes_on.new.self.later) ≡
    d.undrawn + (c.args.left.now.now + c.args.left.now.later) = omega (arith, all, most) in
    ap (λ x. events_with (c.goes_on.new.self.now - c.drawn_at_once-more.result + c.goes_on.new.self.later) g.S.EventSource.schedule x) c.ask.ensures
    ∙ ap (λ (n : ℕ). replicate d.batch.count d.batch.event ++ first_events n (g.S.EventSource.schedule d.source)) sum
