use Rattle.std.proofs.Common.{rules, ◌≡◌, ◌+◌, ◌*◌, ◌/◌, ◌%◌, ◌<◌, ◌≤◌, ◌++◌, ◌∷◌, [], length, drop, sym, ◌∙◌, ap, arith, length-drop}
use Rattle.debug_session.specs.Questions.{begun, text_of}
use Rattle.debug_session.proofs.Pairs.{next_pair, none_left, none_put, put_one}
use Rattle.debug_session.proofs.questions.push_text.Goals as goal

pub returns-in_default : goal.returns-in_default
returns-in_default c =
    let under : c.pairs.i < length c.args.digits.now / 2 = c.pairs-test.true in
    let next = next_pair c.args.digits.now c.pairs.i (omega (arith, under)) in
    none_put c.pairs.out.items _ _ c.pairs.invariant (next ∙ ap (λ o. begun o (text_of (drop (2 * (c.pairs.i + 1)) c.args.digits.now))) (sym c.number_of.ensures ∙ c.in_default.is))

pub pairs-preserved : goal.pairs-preserved
pairs-preserved c =
    let under : c.pairs.i < length c.args.digits.now / 2 = c.pairs-test.true in
    let next = next_pair c.args.digits.now c.pairs.i (omega (arith, under))
    ∙ ap (λ o. begun o (text_of (drop (2 * (c.pairs.i + 1)) c.args.digits.now))) (sym c.number_of.ensures ∙ c.in-Some.is) in
    let pushed : c.push.new.self.items ≡ c.pairs.out.items ++ (c.in-Some.byte % 256) ∷ [] = search rules in
    put_one c.pairs.out.items _ _ _ (c.in-Some.byte % 256) (ap (λ t. c.pairs.out.items ++ t) (sym next) ∙ c.pairs.invariant) pushed

pub returns : goal.returns
returns c =
    let over : length c.args.digits.now / 2 ≤ c.pairs.i = search rules in
    none_put c.pairs.out.items _ _ c.pairs.invariant (none_left (drop (2 * c.pairs.i) c.args.digits.now) (omega (arith, over, length-drop (2 * c.pairs.i) c.args.digits.now)))
