use Rattle.std.proofs.Common.{◌≡◌, ℕ, ◌∙◌, sym, subst, Option}
use Rattle.std.specs.Prelude.{OnOk, IfOk}
use Rattle.debug_session.specs.Runs.{Run, behind, found_behind}
use Rattle.debug_session.specs.declared.motion.Found.{Found}
use Rattle.debug_session.proofs.Motions.{if_ok, on_ok, turn_behind, turn_found}
use Rattle.debug_session.proofs.motion.go_back.Goals as goal

pub returns-in-Some-clause-moved : goal.returns-in-Some-clause-moved
returns-in-Some-clause-moved g c =
    let stands = g.T.Target.stands in
    subst (λ (steps : Option ℕ).
    OnOk c.step_back.result ((run : Run) → stands c.args.target.now run → stands c.step_back.new.target (behind c.args.breaks.now c.args.watches.now steps run))) (sym c.in-Some.is)
    (on_ok c.step_back.result c.step_back.ensures.moved (λ moved run at.
    subst (λ (r : Run). stands c.step_back.new.target r) (turn_behind c.args.breaks.now c.args.watches.now c.in-Some.hart run) (moved run at)))

pub returns-in-Some-clause-found : goal.returns-in-Some-clause-found
returns-in-Some-clause-found g c =
    let stands = g.T.Target.stands in
    subst (λ (steps : Option ℕ). IfOk c.step_back.result (λ (found : Option Found).
    (run : Run) → stands c.args.target.now run → found ≡ found_behind c.args.breaks.now c.args.watches.now steps run)) (sym c.in-Some.is)
    (if_ok c.step_back.result c.step_back.ensures.found (λ found known run at.
    known run at ∙ turn_found c.args.breaks.now c.args.watches.now c.in-Some.hart run))
