use Rattle.std.proofs.Common.{◌≡◌, ◌≤◌, length, None, ◌∙◌, ap, subst, arith}
use Rattle.std.specs.Prelude.{unwrap_or, option_map}
use Rattle.debug_session.specs.Runs.{after, behind, back_number, found_at, is_target, last_below, number_in}
use Rattle.debug_session.proofs.Motions.{last_small, number_found}
use Rattle.debug_session.proofs.motion.go_to_hit.Goals as goal

pub returns-clause-moved : goal.returns-clause-moved
unfolding behind back_number
returns-clause-moved g c = λ run stands.
    let watches = c.args.watches.now in
    let p = is_target c.args.breaks.now watches None run in
    let made : c.events_made-made.result ≡ run.made = c.events_made-made.ensures.made run stands in
    let within : run.made ≤ length run.events = c.events_made-made.ensures.within run stands in
    let few : c.events_made-made.result ≤ length run.events = omega (arith, made, within) in
    let anew = c.in_ok-restart.ensures run stands in
    let found = c.in_ok-found.ensures.found run anew few in
    let number : c.number_of.result ≡ unwrap_or (last_below p run.made) 0 =
    c.number_of.ensures ∙ ap number_in (found ∙ ap (λ n. option_map (found_at watches run) (last_below p n)) made) ∙ number_found watches run (last_below p run.made) in
    let small : unwrap_or (last_below p run.made) 0 ≤ run.made = last_small p run.made in
    let there = c.in_ok-return_to.ensures (after run c.events_made-made.result) (c.in_ok-found.ensures.moved run anew few) (omega (arith, number, small, within)) in
    subst (λ m. g.T.Target.stands c.return_to.new.target (after run m)) number there
