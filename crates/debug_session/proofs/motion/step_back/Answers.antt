use Rattle.std.proofs.Common.{◌≡◌, ℕ, ◌≤◌, length, ◌∙◌, ap, subst, arith}
use Rattle.std.specs.Prelude.{unwrap_or, option_map}
use Rattle.debug_session.specs.Runs.{after, found_turn, last_turn}
use Rattle.debug_session.proofs.Motions.{last_turn_within}
use Rattle.debug_session.proofs.motion.step_back.Goals as goal

pub returns-clause-moved : goal.returns-clause-moved
returns-clause-moved g c = λ run stands.
    let number : c.unwrap_or.result ≡ unwrap_or (last_turn c.args.hart run) 0 = c.unwrap_or.ensures ∙ ap (λ n. unwrap_or n 0) (c.in_ok-number.ensures run stands) in
    let within : unwrap_or (last_turn c.args.hart run) 0 ≤ length run.events = last_turn_within c.args.hart run in
    let there = c.in_ok-return_to.ensures run stands (omega (arith, number, within)) in
    subst (λ (n : ℕ). g.T.Target.stands c.return_to.new.target (after run n)) number there

pub returns-clause-found : goal.returns-clause-found
returns-clause-found g c = λ run stands. c.found_turn.ensures ∙ ap (option_map found_turn) (c.in_ok-number.ensures run stands)
