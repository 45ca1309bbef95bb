use Rattle.std.proofs.Common.{sym, ◌∙◌}
use Rattle.monitor_exits.specs.Seen.{answer_at}
use Rattle.monitor_exits.proofs.exits.answer_at.Goals as goal

pub returns-then-is_fetch-clause-answer : goal.returns-then-is_fetch-clause-answer
unfolding answer_at
returns-then-is_fetch-clause-answer c = λ entry. rw (c.in-Some.is, sym c.is_fetch.ensures ∙ c.if-is_fetch.true) (c.entry_answer.ensures.answer c.args.mode entry)

pub returns-then-is_fetch-clause-possible : goal.returns-then-is_fetch-clause-possible
returns-then-is_fetch-clause-possible c = c.entry_answer.ensures.possible c.args.mode

pub returns-else-is_fetch-clause-answer : goal.returns-else-is_fetch-clause-answer
unfolding answer_at
returns-else-is_fetch-clause-answer c = λ entry. rw (c.in-Some.is, sym c.is_fetch.ensures ∙ c.if-is_fetch.false) (c.plain_answer.ensures.answer entry)

pub returns-in-None-clause-answer : goal.returns-in-None-clause-answer
unfolding answer_at
returns-in-None-clause-answer c = λ entry. rw c.in-None.is (c.plain_answer-in-None.ensures.answer entry)
