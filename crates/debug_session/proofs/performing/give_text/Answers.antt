use Rattle.std.proofs.Common.{◌≡◌, ◌++◌, List, ℕ, ◌∙◌, ap}
use Rattle.gdb_protocol.specs.Digits.{byte_digits}
use Rattle.debug_session.proofs.TextParts.{answer_kept, on_ok, whole_given}
use Rattle.debug_session.proofs.performing.give_text.Goals as goal

pub returns-clause-bytes : goal.returns-clause-bytes
returns-clause-bytes c =
    let digits : c.push_digits.new.out.items ≡ byte_digits c.rest_at.result.now =
    c.in_ok-push_digits.ensures ∙ ap (λ (xs : List ℕ). xs ++ byte_digits c.rest_at.result.now) c.new-answer.ensures.items in
    on_ok c.give.result c.give.ensures.bytes (λ line.
    whole_given c.args.out.now.items c.push_parts.new.out.items c.give.new.out.items c.args.text.now c.push_digits.new.out.items c.rest_at.result.now c.parts_of-parts.result
    c.parts_of-parts.ensures.value digits c.rest_at.ensures c.in_ok-push_parts.ensures line)

pub returns-clause-desk : goal.returns-clause-desk
returns-clause-desk c =
    let digits : c.push_digits.new.out.items ≡ byte_digits c.rest_at.result.now =
    c.in_ok-push_digits.ensures ∙ ap (λ (xs : List ℕ). xs ++ byte_digits c.rest_at.result.now) c.new-answer.ensures.items in
    on_ok c.give.result c.give.ensures.desk (λ kept.
    kept ∙ ap (λ (answer : List ℕ). record c.args.desk.now { last = answer })
    (answer_kept c.args.text.now c.push_digits.new.out.items c.rest_at.result.now c.args.desk.now.last c.parts_of-parts.result
    c.parts_of-parts.ensures.value digits c.rest_at.ensures))
