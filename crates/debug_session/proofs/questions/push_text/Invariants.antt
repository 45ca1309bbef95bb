use Rattle.std.proofs.Common.{◌≡◌, ◌*◌, ◌++◌, drop}
use Rattle.debug_session.specs.Questions.{text_of}
use Rattle.debug_session.proofs.questions.push_text.Given as goal

-- what is put so far, and the text that is left
abbrev pub invariant-pairs : goal.invariant-pairs
invariant-pairs l = l.out.items ++ text_of (drop (2 * l.i) l.digits) ≡ l.fn.out.items ++ text_of l.digits
