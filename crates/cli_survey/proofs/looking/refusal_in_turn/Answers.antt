use Rattle.std.proofs.Common.{Bool, [], sym, ◌∙◌, ap, slice_get}
use Rattle.std.specs.Prelude.{if◌then◌else◌}
use Rattle.cli_survey.specs.Refusals.{refusal}
use Rattle.cli_survey.proofs.LookLemmas.{due_left, no_load, turn_by}
use Rattle.cli_survey.proofs.looking.refusal_in_turn.Goals as goal

pub returns-in_default : goal.returns-in_default
returns-in_default c = λ r stands. no_load r c.args.hart (slice_get r.harts c.args.hart) (sym c.in_default.is ∙ c.load_under_way.ensures r stands)

pub returns-then-not-is_due : goal.returns-then-not-is_due
returns-then-not-is_due c = λ r stands.
    sym (turn_by r c.args.hart c.in-Some.load (slice_get r.harts c.args.hart) (sym c.in-Some.is ∙ c.load_under_way.ensures r stands)
    ∙ ap (λ (b : Bool). if b then refusal r c.args.hart c.in-Some.load.«module» else []) (sym (c.is_due.ensures r stands) ∙ c.if-not-is_due.true))

pub refusal-requires-clause-due : goal.refusal-requires-clause-due
refusal-requires-clause-due c =
    let has = c.requires.has in
    due_left c.args.hart (slice_get has.state.harts c.args.hart) c.in-Some.load (sym (c.is_due.ensures has.state has.stands) ∙ c.if-not-is_due.false)

pub returns : goal.returns
returns c = λ r stands.
    c.refusal.ensures r stands
    ∙ sym (turn_by r c.args.hart c.in-Some.load (slice_get r.harts c.args.hart) (sym c.in-Some.is ∙ c.load_under_way.ensures r stands)
    ∙ ap (λ (b : Bool). if b then refusal r c.args.hart c.in-Some.load.«module» else []) (sym (c.is_due.ensures r stands) ∙ c.if-not-is_due.false))
