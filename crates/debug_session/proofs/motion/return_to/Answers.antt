use Rattle.std.proofs.Common.{◌≡◌, ℕ, ◌+◌, ◌-◌, ◌≤◌, length, subst, arith}
use Rattle.debug_session.specs.Runs.{after}
use Rattle.debug_session.proofs.Motions.{on_ok}
use Rattle.debug_session.proofs.motion.return_to.Goals as goal

pub returns : goal.returns
returns g c = on_ok c.advance_by.result c.advance_by.ensures (λ made run stands few.
    let less : c.in_ok-made.made ≤ c.args.count = c.in_ok-made.ensures.few in
    let place : c.in_ok-made.made + (c.args.count - c.in_ok-made.made) ≡ c.args.count = omega (arith, less) in
    let within : c.in_ok-made.made + (c.args.count - c.in_ok-made.made) ≤ length run.events = omega (arith, few, place) in
    subst (λ (n : ℕ). g.T.Target.stands c.advance_by.new.target (after run n)) place (made (after run c.in_ok-made.made) (c.in_ok-made.ensures.there run stands) within))
