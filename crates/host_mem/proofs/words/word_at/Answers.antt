use Rattle.std.proofs.Common.{◌∙◌, sym, rules}
use Rattle.host_mem.proofs.WordFacts.{word_1, word_2, word_4, word_8}
use Rattle.host_mem.proofs.words.word_at.Goals as goal

pub returns-in-1-clause-value : goal.returns-in-1-clause-value
returns-in-1-clause-value c = sym (word_1 _ _ _ c.in-1.is (search rules))

pub returns-in-2-clause-value : goal.returns-in-2-clause-value
returns-in-2-clause-value c = c.from_le_bytes.ensures ∙ sym (word_2 _ _ _ c.in-2.is (search rules))

pub returns-in-4-clause-value : goal.returns-in-4-clause-value
returns-in-4-clause-value c = c.from_le_bytes-in-4.ensures ∙ sym (word_4 _ _ _ c.in-4.is (search rules))

pub returns-in_default-clause-value : goal.returns-in_default-clause-value
returns-in_default-clause-value c = c.from_le_bytes-in_default.ensures ∙ sym (word_8 _ _ _ (search rules) (search rules))
